-- What the judge says is what happens where the channel is open and idle, and the other way round; there is such a state for every
-- number.
-- Assumes nothing.
use Prim.Native.Nat.{ℕ, ◌+◌, ◌%◌, ◌≤◌, ◌<◌}
use mathlib.Core.Path.{◌≡◌, refl, sym, ap, ◌∙◌, subst}
use mathlib.Core.Bool.{Bool, true, false, cond, ◌&&◌}
use mathlib.Core.List.{List, [], ◌∷◌, map}
use native.Mathlib.Omega.{arith}
use lib.ListN.{length}
use Rattle.paper.specs.Sizes.{MESSAGE_MAX, PARTS, PART, STORE}
use Rattle.lists.specs.Bytes.{zeros}
use Rattle.lists.specs.Places.{place}
use Rattle.lists.proofs.Cases.{true_not_false, and_false}
use Rattle.listeners.specs.Listeners.{same_bytes}
use Rattle.listeners.proofs.Matches.{same_self, same_equal, unlike}
use Rattle.channel.specs.declared.Stage.TheVariants.{Idle}
use Rattle.channel.specs.Channel.{Create, View, Shut, Open, Did, opened_record, opening, act}
use Rattle.table.specs.Table.{empty_table, is_free, free_place}
use Rattle.connection.specs.States.{State, state_of, view}
use Rattle.client.specs.Events.{Of}
use Rattle.client.specs.Client.{stepped, readied}
use Rattle.steps.proofs.Channels.{step_own, step_steady}
use Rattle.demands.specs.Runs.{Call, Running, receives, full_table, asks_room, event_meets_full}
use Rattle.demands.specs.Examples.{call, just_ready}
use Rattle.demands.proofs.Machine.{steady, room_flag, ruled_flag}
use Rattle.demands.proofs.Orders.{fresh}
use Rattle.demands.proofs.Ready.{just_ready_law, ready_is}
use Rattle.records.specs.Records.{PLACES}
use Rattle.judge.specs.declared.Reason.{Reason}
use Rattle.judge.specs.declared.Judgement.{Judgement}
use Rattle.judge.specs.declared.Judgement.TheVariants.{Yes, No, Early, Differs}
use Rattle.judge.specs.Judge.{beginning, judged}
use Rattle.judge_demands.specs.Received.{OpenAndIdle, Receives, no_call, one_call, HandsUp, AllHeld, FirstFault}
use Rattle.judge_demands.specs.Sender.{HandsUpWherever, AnIdleOne, At, AnotherHandedUp}
use Rattle.judge_demands.proofs.Steps.{Stands}
use Rattle.judge_demands.proofs.Judged.{Which, up, held, fault, Verdict, verdict}

-- ---- three sorts of judgements

abbrev sort : Judgement → ℕ
sort Yes = 0
sort Differs = 0
sort (No place why) = 1
sort Early = 2

up_sort : (same : Bool) → sort (cond same Yes Differs) ≡ 0
up_sort true = refl
up_sort false = refl

same_sort : {j a b : Judgement} → j ≡ a → j ≡ b → sort a ≡ sort b
same_sort p q = ap sort (sym p ∙ q)

-- ---- in any such state

module _ (n : ℕ) (m : List ℕ) (pdus : List (List ℕ)) (st : State) (o : OpenAndIdle n st) (cs : List Call) (r : Receives cs pdus) where
  pub says : Verdict n m 0 st cs pdus (judged n m pdus)
  unfolding judged beginning same_bytes
  says =
      let s : Stands n m Idle true st =
      record { steady = o.steady; row = o.row; part = o.part; is_open_law = o.is_open_law; at_stage = o.is_idle; so_far = refl } in
      verdict n m 0 Idle true st s cs pdus r

  -- a yes, or that the bytes differ, is said of what is handed up
  pub record Up (same : Bool) : Type 0 where
    pub got : List ℕ
    pub short : length got ≤ MESSAGE_MAX
    pub handed : HandsUp n got st cs
    pub compared : same_bytes m got ≡ same

  pub is_up : (same : Bool) → judged n m pdus ≡ cond same Yes Differs → Up same
  is_up same e = go says.which
    where
      arms : (a b : Bool) → cond a Yes Differs ≡ cond b Yes Differs → a ≡ b
      arms true true p = refl
      arms true false p = cc
      arms false true p = cc
      arms false false p = refl

      go : Which n st cs pdus → Up same
      go (up got short u) =
          record { got = got; short = short; handed = u; compared = arms (same_bytes m got) same (sym (says.up_says got u) ∙ e) }
      go (held a) = absurd (omega (arith, up_sort same, same_sort e (says.held_says a)))
      go (fault k why f) = absurd (omega (arith, up_sort same, same_sort e (says.fault_says k why f)))

  -- early, of what is held
  pub is_held : judged n m pdus ≡ Early → AllHeld n st cs
  is_held e = go says.which
    where
      go : Which n st cs pdus → AllHeld n st cs
      go (up got short u) = absurd (omega (arith, up_sort (same_bytes m got), same_sort e (says.up_says got u)))
      go (held a) = a
      go (fault k why f) = absurd (omega (arith, same_sort e (says.fault_says k why f)))

  -- a reason, of the first PDU where one holds
  pub is_fault : (place : ℕ) (why : Reason) → judged n m pdus ≡ No place why → At n st cs pdus place why
  is_fault place why e = go says.which
    where
      go : Which n st cs pdus → At n st cs pdus place why
      go (up got short u) = absurd (omega (arith, up_sort (same_bytes m got), same_sort e (says.up_says got u)))
      go (held a) = absurd (omega (arith, same_sort e (says.held_says a)))
      go (fault k w f) =
          let both : No place why ≡ No ((0 + k) % PLACES) w = sym e ∙ says.fault_says k w f in
          let same_why : w ≡ why = cc in
          let same_place : place ≡ (0 + k) % PLACES = cc in
          let from_0 : 0 + k ≡ k = omega arith in
          record { k = k; is_first_law = subst (FirstFault n st cs pdus k) same_why f; its_place = same_place ∙ ap (λ (x : ℕ). x % PLACES) from_0 }

  pub handed_yes : HandsUp n m st cs → judged n m pdus ≡ Yes
  handed_yes u = says.up_says m u ∙ rw (same_self m)

  pub yes_handed : judged n m pdus ≡ Yes → HandsUp n m st cs
  yes_handed e = let u = is_up true e in rw (same_equal m u.got u.compared) u.handed

  pub fault_no : (k : ℕ) (why : Reason) → FirstFault n st cs pdus k why → judged n m pdus ≡ No (k % PLACES) why
  fault_no k why f = let from_0 : 0 + k ≡ k = omega arith in says.fault_says k why f ∙ ap (λ (x : ℕ). No (x % PLACES) why) from_0

  pub differs_another : judged n m pdus ≡ Differs → AnotherHandedUp n m st cs
  differs_another e =
      let u = is_up false e in
      record { other = u.got; handed = u.handed; differs = λ d. true_not_false (sym (same_self m) ∙ rw d at u.compared) }

  pub another_differs : AnotherHandedUp n m st cs → judged n m pdus ≡ Differs
  another_differs a = says.up_says a.other a.handed ∙ rw (unlike m a.other (λ e. a.differs (sym e)))

-- ---- there is one

-- no table is full at first
room_there : full_table (readied (state_of empty_table (zeros STORE)) 3).state ≡ false
unfolding full_table readied free_place empty_table PARTS place is_free
room_there = refl

no_full : (n : ℕ) → event_meets_full just_ready (Of n (Create true 0)) ≡ false
unfolding event_meets_full
no_full n =
    let asks = asks_room (view n just_ready) (Create true 0) in
    ap (λ (full : Bool). asks && full) (ap full_table ready_is ∙ room_there) ∙ and_false asks

opens : (l n : ℕ) → (act l n (room_flag false) Shut (Create true 0)).view ≡ Open (opened_record l n 0) (zeros PART)
unfolding act opening
opens l n = refl

-- a connection just made ready
level : ℕ
level = (fresh just_ready just_ready_law).level

running : Running level just_ready
unfolding level
running = (fresh just_ready just_ready_law).running

-- and the channel opened in it
abbrev opened : ℕ → State
opened n = (stepped just_ready (Of n (Create true 0))).state

module _ (n : ℕ) where
  is_new : view n (opened n) ≡ Open (opened_record level n 0) (zeros PART)
  is_new =
      step_own just_ready (steady level just_ready running) n (Create true 0) (omega arith)
      ∙ ap (λ (d : Did). d.view) (ruled_flag level just_ready running n (Create true 0))
      ∙ ap (λ (b : Bool). (act level n (room_flag b) (view n just_ready) (Create true 0)).view) (no_full n)
      ∙ ap (λ (v : View). (act level n (room_flag false) v (Create true 0)).view) ((fresh just_ready just_ready_law).shut n) ∙ opens level n

  pub an_idle_one : AnIdleOne n
  unfolding opened_record
  an_idle_one =
      let still_steady = step_steady just_ready (steady level just_ready running) (Of n (Create true 0)) (omega arith) in
      record { state = opened n; is_one = record { steady = still_steady; row = _; part = _; is_open_law = is_new; is_idle = refl } }

-- PDUs, each received by a call
abbrev pub calls_of : List (List ℕ) → List Call
calls_of pdus = map (λ (pdu : List ℕ). call (receives [] pdu)) pdus

pub are_received : (pdus : List (List ℕ)) → Receives (calls_of pdus) pdus
unfolding call
are_received [] = no_call
are_received (pdu ∷ pdus) = one_call _ [] pdu _ pdus refl (are_received pdus)

pub wherever_yes : (n : ℕ) (m : List ℕ) (pdus : List (List ℕ)) → HandsUpWherever n m pdus → judged n m pdus ≡ Yes
wherever_yes n m pdus h =
    let o = an_idle_one n in
    handed_yes n m pdus o.state o.is_one (calls_of pdus) (are_received pdus) (h o.state o.is_one (calls_of pdus) (are_received pdus))

pub over_limit : (n : ℕ) (m : List ℕ) (pdus : List (List ℕ)) → MESSAGE_MAX < length m → judged n m pdus ≡ Yes → ⊥
over_limit n m pdus long e =
    let o = an_idle_one n in
    let u = is_up n m pdus o.state o.is_one (calls_of pdus) (are_received pdus) true e in
    omega (arith, u.short, ap length (same_equal m u.got u.compared))
