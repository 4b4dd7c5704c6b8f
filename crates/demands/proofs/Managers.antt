-- Our manager has demand 2: from every Start on, every call of every run is told what it should be. What is kept along a run is `Seen`:
-- the state is calm, ready as the events make it, and each channel stands where its joining does.
-- Assumes nothing.
use Rattle.std.specs.Prelude.{None}
use Prim.Native.Nat.{ℕ, ◌≤◌}
use native.Mathlib.Omega.{arith}
use mathlib.Core.Path.{◌≡◌, refl, sym, ap, ◌∙◌}
use mathlib.Core.Bool.{Bool, true, false, cond}
use mathlib.Core.Logic.{◌≢◌}
use mathlib.Core.List.{List, [], ◌∷◌}
use borrow.Author.Tests.{eqb-true, eqb-false, ne_eqb}
use lib.Dec.{eqb}
use lib.ListN.{length, take}
use Rattle.paper.specs.Sizes.{PARTS, STORE, REPLY_MIN}
use Rattle.paper.specs.declared.Refusal.{Refusal}
use Rattle.paper.specs.declared.Refusal.TheVariants.{WrongTime}
use Rattle.lists.specs.Bytes.{zeros}
use Rattle.lists.specs.Places.{place}
use Rattle.lists.proofs.Laid.{front}
use Rattle.laying.proofs.Lengths.{length_caps_response}
use Rattle.channel.specs.declared.Answer.TheVariants.{Refused}
use Rattle.channel.specs.Channel.{Act, Shut, Did, act}
use Rattle.table.specs.Table.{empty_table, number_place, record_at, holds}
use Rattle.connection.specs.States.{State, state_of, view_at, view, FineAct}
use Rattle.client.specs.Events.{Event, Unreadable, Capabilities, Of}
use Rattle.client.specs.Client.{Stepped, refused, readied, stepped, Whole, whole_of}
use Rattle.deciding.specs.Deciding.{too_soon}
use Rattle.client.proofs.Steps.{too_early, too_late, made_ready}
use Rattle.connection.proofs.Views.{view_shut}
use Rattle.steps.specs.States.{FineEvent, Sane, Calm}
use Rattle.steps.proofs.Channels.{step_own, step_other, step_steady}
use Rattle.steps.proofs.Calm.{calm_start, calm_step, sane_steady}
use Rattle.demands.specs.Trace.{seen}
use Rattle.demands.specs.Runs.{Call, gives, after, told, handed_up, event_in, events_of, event_meets_full, started_on, Running}
use Rattle.demands.specs.Joining.{Join, joins_if}
use Rattle.demands.specs.Telling.{told_if, tells_none}
use Rattle.demands.specs.Managers.{ours, ReachedBy, at_first_law, called, restarted, first_start, new_start, every_told, put, Sight, at_start, sight_next, ready_told, sight_told, paper_start, should_tell, Demand2Of}
use Rattle.demands.proofs.Machine.{room_flag, told_by, same_told, call_step, call_state, fine_call, own_told, ruled_flag}
use Rattle.demands.proofs.Joined.{join_of, sane_view, FineBlock, call_blocks}
use Rattle.demands.proofs.Telling.{act_both, act_told}
use Rattle.demands.proofs.Orders.{started_is, calm_call, calm_started, empty_unready}

-- ---- an event that hands up nothing

stray_told :
    (st : State) (c : Call) → Sane st → (s : Stepped) → stepped st (event_in c.asked) ≡ s → length s.reply ≤ REPLY_MIN
    → ((t : State) → handed_up t s.answer ≡ []) → told st c ≡ record { answer = s.answer; reply = s.reply; message = [] }
unfolding told whole_of
stray_told st c h s e fits none =
    let whole : gives st c.asked c.reply ≡ whole_of c.reply s = call_step st c h ∙ ap (whole_of c.reply) e in
    let answer : (gives st c.asked c.reply).result.answer ≡ s.answer = ap (λ (w : Whole). w.result.answer) whole in
    let room : length s.reply ≤ length c.reply = omega (arith, c.enough) in
    same_told answer (ap (λ (w : Whole). take w.result.sent w.reply) whole ∙ front c.reply s.reply room) (ap (handed_up (after st c)) answer ∙ none (after st c))

refused_told :
    (st : State) (c : Call) → Sane st → (why : Refusal) → stepped st (event_in c.asked) ≡ refused st why
    → told st c ≡ tells_none (Refused why None)
unfolding handed_up REPLY_MIN
refused_told st c h why e = stray_told st c h (refused st why) e (omega arith) (λ t. refl)

ready_told_law :
    (st : State) (c : Call) → Sane st → (version : ℕ) → stepped st (event_in c.asked) ≡ readied st version
    → told st c ≡ ready_told version
unfolding handed_up readied REPLY_MIN
ready_told_law st c h version e = stray_told st c h (readied st version) e (omega (arith, length_caps_response 2)) (λ t. refl)

-- ---- a state of ours, as the events show it

pub record Seen (st : State) (s : Sight) : Type 0 where
  pub calm : Calm st
  pub ready : st.table.ready ≡ s.ready
  pub stands : (n : ℕ) → join_of (view n st) ≡ s.stand n

no_number_at : (n : ℕ) → PARTS ≡ number_place n empty_table
unfolding number_place empty_table PARTS place holds
no_number_at n = refl

empty_shut : (n : ℕ) (store : List ℕ) → view n (state_of empty_table store) ≡ Shut
empty_shut n store = view_shut n (state_of empty_table store) PARTS (no_number_at n) (omega arith)

pub seen_start : Seen paper_start at_start
unfolding paper_start
seen_start = record { calm = calm_start; ready = empty_unready; stands = λ n. ap join_of (empty_shut n (zeros STORE)) }

-- a Capabilities request moves no channel
ready_view : (n : ℕ) (st : State) (version : ℕ) → view n (readied st version).state ≡ view n st
unfolding readied view view_at number_place record_at
ready_view n st version = refl

made_is : (st : State) (version : ℕ) → (readied st version).state.table.ready ≡ true
unfolding readied
made_is st version = refl

stray : (st : State) (why : Refusal) → stepped st (Unreadable why) ≡ refused st why
unfolding stepped
stray st why = refl

-- what is seen of a channel's event, in time and too early
pub sight_in :
    (full : Bool) (s : Sight) (n : ℕ) (a : Act) → s.ready ≡ true
    → sight_next full s (Of n a) ≡ record { ready = true; stand = put n (joins_if full (s.stand n) a).join s.stand }
unfolding sight_next
sight_in full s n a r = rw r

pub sight_early : (full : Bool) (s : Sight) (n : ℕ) (a : Act) → s.ready ≡ false → sight_next full s (Of n a) ≡ s
unfolding sight_next
sight_early full s n a r = rw r

module _ (st : State) (s : Sight) (g : Seen st s) where
  running : st.table.ready ≡ true → Running st.table.level st
  running r = record { calm = g.calm; ready = r; level = refl }

  -- an event of a channel, in time
  module _ (n : ℕ) (a : Act) (z : FineAct a) (b : FineBlock (Of n a)) (r : st.table.ready ≡ true) where
    full : Bool
    full = event_meets_full st (Of n a)

    own_view : view n (stepped st (Of n a)).state ≡ (act st.table.level n (room_flag full) (view n st) a).view
    unfolding full
    own_view = step_own st (sane_steady st g.calm.sane r) n a z ∙ ap (λ (d : Did). d.view) (ruled_flag st.table.level st (running r) n a)

    own_stands : join_of (view n (stepped st (Of n a)).state) ≡ (joins_if full (s.stand n) a).join
    own_stands = ap join_of own_view ∙ (act_both full st.table.level n (view n st) a (sane_view st g.calm.sane n) b).agrees.stands ∙ ap (λ (j : Join). (joins_if full j a).join) (g.stands n)

    other_view : (m : ℕ) → m ≢ n → view m (stepped st (Of n a)).state ≡ view m st
    other_view m d = step_other m st (sane_steady st g.calm.sane r) (Of n a) z (ne_eqb n m (λ e. d (sym e)))

    all_stand : (m : ℕ) → join_of (view m (stepped st (Of n a)).state) ≡ put n (joins_if full (s.stand n) a).join s.stand m
    all_stand m = go (eqb m n) refl
      where
        go :
            (t : Bool) → eqb m n ≡ t
            → join_of (view m (stepped st (Of n a)).state) ≡ cond t (joins_if full (s.stand n) a).join (s.stand m)
        go true e = rw (eqb-true m n e) own_stands
        go false e = ap join_of (other_view m (eqb-false m n e)) ∙ g.stands m

  -- a refusal moves nothing
  stays : (e : Event) (why : Refusal) → stepped st e ≡ refused st why → Seen (stepped st e).state s
  stays e why h = rw h g

  seen_caps :
      (version : ℕ) → FineEvent (Capabilities version)
      → Seen (stepped st (Capabilities version)).state (record { ready = true; stand = s.stand })
  seen_caps version z = go st.table.ready refl
    where
      go : (t : Bool) → st.table.ready ≡ t → Seen (stepped st (Capabilities version)).state (record { ready = true; stand = s.stand })
      go true r = rw (too_late st version r) (record { calm = g.calm; ready = r; stands = g.stands })
      go false r = made_seen (calm_step st g.calm (Capabilities version) z) (made_ready st version r)
        where
          made_seen :
              Calm (stepped st (Capabilities version)).state → stepped st (Capabilities version) ≡ readied st version
              → Seen (stepped st (Capabilities version)).state (record { ready = true; stand = s.stand })
          made_seen k h = record {
            calm = k;
            ready = ap (λ (x : Stepped). x.state.table.ready) h ∙ made_is st version;
            stands = λ n. ap (λ (x : Stepped). join_of (view n x.state)) h ∙ ap join_of (ready_view n st version) ∙ g.stands n;
          }

  seen_of :
      (n : ℕ) (a : Act) → FineAct a → FineBlock (Of n a) → (t : Bool) → st.table.ready ≡ t
      → Seen (stepped st (Of n a)).state (sight_next (event_meets_full st (Of n a)) s (Of n a))
  unfolding full
  seen_of n a z b true r =
      rw (sight_in (event_meets_full st (Of n a)) s n a (sym g.ready ∙ r)) (record {
        calm = calm_step st g.calm (Of n a) z;
        ready = (step_steady st (sane_steady st g.calm.sane r) (Of n a) z).ready;
        stands = all_stand n a z b r;
      })
  seen_of n a z b false r = rw (sight_early (event_meets_full st (Of n a)) s n a (sym g.ready ∙ r)) (stays (Of n a) (too_soon a) (too_early st n a r))

  pub seen_step : (e : Event) → FineEvent e → FineBlock e → Seen (stepped st e).state (sight_next (event_meets_full st e) s e)
  unfolding sight_next
  seen_step (Unreadable why) z b = stays (Unreadable why) why (stray st why)
  seen_step (Capabilities version) z b = seen_caps version z
  seen_step (Of n a) z b = seen_of n a z b st.table.ready refl

  -- what our call tells
  caps_told :
      (c : Call) (version : ℕ) → event_in c.asked ≡ Capabilities version → (t : Bool) → st.table.ready ≡ t
      → told st c ≡ cond t (tells_none (Refused WrongTime None)) (ready_told version)
  caps_told c version e true r = refused_told st c g.calm.sane WrongTime (ap (stepped st) e ∙ too_late st version r)
  caps_told c version e false r = ready_told_law st c g.calm.sane version (ap (stepped st) e ∙ made_ready st version r)

  of_told :
      (c : Call) (n : ℕ) (a : Act) → FineAct a → FineBlock (Of n a) → event_in c.asked ≡ Of n a → (t : Bool) → st.table.ready ≡ t
      → told st c ≡ cond t (told_if (event_meets_full st (Of n a)) n (s.stand n) a) (tells_none (Refused (too_soon a) None))
  of_told c n a z b e true r =
      own_told st c (sane_steady st g.calm.sane r) n a z e ∙ ap told_by (ruled_flag st.table.level st (running r) n a)
      ∙ act_told (event_meets_full st (Of n a)) st.table.level n (view n st) a (sane_view st g.calm.sane n) b
      ∙ ap (λ (j : Join). told_if (event_meets_full st (Of n a)) n j a) (g.stands n)
  of_told c n a z b e false r = refused_told st c g.calm.sane (too_soon a) (ap (stepped st) e ∙ too_early st n a r)

  call_told :
      (c : Call) (e : Event) → FineEvent e → FineBlock e → event_in c.asked ≡ e → told st c ≡ sight_told (event_meets_full st e) s e
  unfolding sight_told
  call_told c (Unreadable why) z b h = refused_told st c g.calm.sane why (ap (stepped st) h ∙ stray st why)
  call_told c (Capabilities version) z b h = caps_told c version h s.ready g.ready
  call_told c (Of n a) z b h = of_told c n a z b h s.ready g.ready

pub our_run : (st : State) (s : Sight) → Seen st s → (xs : List Call) → seen after (λ c. true) told st xs ≡ should_tell st s (events_of xs)
unfolding should_tell
our_run st s g [] = refl
our_run st s g (c ∷ xs) =
    let e = event_in c.asked in
    let h = call_told st s g c e (fine_call c.asked) (call_blocks c.asked) refl in
    let rest = our_run (stepped st e).state (sight_next (event_meets_full st e) s e) (seen_step st s g e (fine_call c.asked) (call_blocks c.asked)) xs in
    rw (h, call_state st c g.calm.sane, rest)

-- ---- from every Start on

-- calls and Starts keep the store's size
reached_calm : (store : List ℕ) → length store ≡ STORE → (st : State) → ReachedBy (ours store) st → Calm st
unfolding ours
reached_calm store size st at_first_law = calm_started store size
reached_calm store size st (called {s = s} c r) = calm_call s (reached_calm store size s r) c
reached_calm store size st (restarted {s = s} r) = calm_started s.store (reached_calm store size s r).sane.bytes

started_run :
    (store : List ℕ) → length store ≡ STORE → (xs : List Call)
    → seen after (λ c. true) told (started_on store) xs ≡ should_tell paper_start at_start (events_of xs)
unfolding paper_start
started_run store size xs = rw (started_is store size) (our_run paper_start at_start seen_start xs)

-- on any store of its size
pub ours_demand_2 : (store : List ℕ) → length store ≡ STORE → Demand2Of (ours store)
unfolding Demand2Of ours every_told
ours_demand_2 store size st first_start xs = started_run store size xs
ours_demand_2 store size st (new_start {s = s} r) xs = started_run s.store (reached_calm store size s r).sane.bytes xs
