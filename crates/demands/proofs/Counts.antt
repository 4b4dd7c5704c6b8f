-- Messages counted. One channel's rules count exactly where the answer is a message; so a run of its own events that doesn't open it
-- again counts what is handed up, which is what the joining brings. A channel that is open at the end of a run was opened in it.
-- Assumes nothing.
use mathlib.Core.Path.{◌≡◌, refl, sym, ap, subst, ◌∙◌}
use mathlib.Core.Bool.{Bool, true, false}
use mathlib.Core.List.{List, [], ◌∷◌, ◌++◌, map}
use mathlib.Core.Logic.{◌⊎◌, inl, inr, ⊎_elim}
use Prim.Native.Nat.{ℕ, ◌+◌, min}
use native.Mathlib.Omega.{arith}
use lib.ListN.{length}
use Rattle.paper.specs.Sizes.{PART, COUNT_MAX}
use Rattle.lists.specs.Bytes.{laid, zeros}
use Rattle.lists.proofs.Cases.{true_not_false}
use Rattle.lists.proofs.Laid.{length_zeros}
use Rattle.channel.specs.declared.Record.{Record}
use Rattle.channel.specs.declared.Took.{Took}
use Rattle.channel.specs.declared.Took.TheVariants.{Bars, Spoils, Holds, Finishes}
use Rattle.channel.specs.Stages.{took}
use Rattle.channel.specs.Channel.{Act, BadCreate, Create, Bring, Garbled, Closing, LocalClose, View, Shut, Open, Room, Did, counted}
use Rattle.channel.specs.Channel.{opened_record, restaged, opening, stage_after, part_after, answer_to, landed, act}
use Rattle.table.specs.Sound.{good_stage}
use Rattle.connection.specs.States.{State, view, room_in, Steady, FineAct}
use Rattle.client.specs.Events.{Event, Unreadable, Capabilities, Of}
use Rattle.client.specs.Client.{stepped}
use Rattle.steps.specs.States.{ruled}
use Rattle.steps.proofs.Channels.{step_own, step_answer}
use Rattle.demands.specs.Trace.{cons_if, seen}
use Rattle.demands.specs.Runs.{Call, after, first_of, Told, told, told_to, ends, is_event_of, own_events, asks_room, meets_full}
use Rattle.demands.specs.Runs.{JustReady, Running}
use Rattle.demands.specs.Joining.{Waiting, handed, once, join_all}
use Rattle.demands.specs.Telling.{told_with}
use Rattle.demands.specs.Garbled.{AllTold, is_opened, NotOpened}
use Rattle.demands.specs.Useless.{is_message}
use Rattle.demands.specs.Counts.{LastOpening, total, Counts, TheCeiling}
use Rattle.demands.proofs.Traces.{Input, with_flag, events_in, flags_in, alone_final, alone_outs, trace_final, trace_outs, inputs_events}
use Rattle.demands.proofs.Machine.{room_flag, flag_same, told_by, chan_next, chan_out, read_call, framed, running_call}
use Rattle.demands.proofs.Joined.{join_of, SoundView}
use Rattle.demands.proofs.Telling.{run_told, with_once, unflagged}
use Rattle.demands.proofs.Orders.{fresh, runs_on, fine_events}

-- ---- one event on an open channel

-- the number of messages that an answer stands for
abbrev one_if : Bool → ℕ
one_if true = 1
one_if false = 0

-- it is shut; or open, with its count by the answer, and a message is handed up with such an answer alone
data Onward (r : Record) (t : Told) : View → Type 0 where
  gone : Onward r t Shut
  open_still :
      (s : Record) (b : List ℕ) → s.count ≡ counted r.count (is_message t.answer) → handed t ≡ one_if (is_message t.answer)
      → Onward r t (Open s b)

landed_onward :
    (n : ℕ) (r : Record) (part block : List ℕ) (tk : Took)
    → Onward r (told_by (landed n r part block tk)) (landed n r part block tk).view
unfolding landed answer_to first_of
landed_onward n r part block (Bars why) = open_still _ _ refl refl
landed_onward n r part block (Spoils why) = open_still _ _ refl refl
landed_onward n r part block (Holds wanted at held) = open_still _ _ refl refl
landed_onward n r part block (Finishes at len) = open_still _ _ refl refl

act_onward :
    (l n : ℕ) (room : Room) (r : Record) (b : List ℕ) (a : Act)
    → Onward r (told_by (act l n room (Open r b) a)) (act l n room (Open r b) a).view
unfolding act restaged
act_onward l n room r b BadCreate = open_still _ _ refl refl
act_onward l n room r b (Create listed pri) = open_still _ _ refl refl
act_onward l n room r b (Bring offer block) = landed_onward n r b block (took r.stage offer (length block))
act_onward l n room r b (Garbled why) = open_still _ _ refl refl
act_onward l n room r b Closing = gone
act_onward l n room r b LocalClose = gone

event_onward :
    (l : ℕ) (full : Bool) (r : Record) (b : List ℕ) (e : Event)
    → Onward r (chan_out l full (Open r b) e) (chan_next l full (Open r b) e)
event_onward l full r b (Unreadable why) = open_still _ _ refl refl
event_onward l full r b (Capabilities version) = open_still _ _ refl refl
event_onward l full r b (Of n a) = act_onward l n (room_flag full) r b a

onward_count :
    (r : Record) (t : Told) (w : View) → Onward r t w → (s : Record) (c : List ℕ) → w ≡ Open s c
    → s.count ≡ counted r.count (is_message t.answer)
onward_count r t w gone s c e = let z : ◌≡◌ {A = ℕ} 0 1 = cc in absurd (omega arith)
onward_count r t w (open_still q b h up) s c e = let same : q ≡ s = cc in rw (← same) h

pub by_the_answer :
    (st : State) → Steady st → (n : ℕ) (a : Act) → FineAct a
    → (r next : Record) (b bytes : List ℕ) → view n st ≡ Open r b → view n (stepped st (Of n a)).state ≡ Open next bytes
    → next.count ≡ counted r.count (is_message (stepped st (Of n a)).answer)
by_the_answer st g n a z r next b bytes v w =
    let rule = act st.table.level n (room_in st) (Open r b) a in
    let same : ruled n st a ≡ rule = ap (λ (x : View). act st.table.level n (room_in st) x a) v in
    let then : rule.view ≡ Open next bytes = sym (ap (λ (d : Did). d.view) same) ∙ sym (step_own st g n a z) ∙ w in
    let on = act_onward st.table.level n (room_in st) r b a in
    rw (step_answer st g n a, same) (onward_count r (told_by rule) rule.view on next bytes then)

-- ---- a run of its own events

abbrev Inputs : Type 0
Inputs = List (Input Event Bool)

abbrev next : ℕ → View → Input Event Bool → View
next l v i = chan_next l i.flag v i.event

abbrev out : ℕ → View → Input Event Bool → Told
out l v i = chan_out l i.flag v i.event

abbrev ending : ℕ → View → Inputs → View
ending l v is = alone_final (chan_next l) v is

abbrev outs : ℕ → View → Inputs → List Told
outs l v is = alone_outs (chan_next l) (chan_out l) v is

-- a channel that is shut, and isn't opened, stays so
shut_next : (l : ℕ) (full : Bool) (e : Event) → is_opened (chan_out l full Shut e).answer ≡ false → chan_next l full Shut e ≡ Shut
unfolding act opening
shut_next l full (Unreadable why) h = refl
shut_next l full (Capabilities version) h = refl
shut_next l full (Of n BadCreate) h = refl
shut_next l true (Of n (Create true pri)) h = refl
shut_next l false (Of n (Create true pri)) h = absurd (true_not_false h)
shut_next l full (Of n (Create false pri)) h = refl
shut_next l full (Of n (Bring offer block)) h = refl
shut_next l full (Of n (Garbled why)) h = refl
shut_next l full (Of n Closing) h = refl
shut_next l full (Of n LocalClose) h = refl

shut_run : (l : ℕ) (is : Inputs) → AllTold NotOpened (outs l Shut is) → ending l Shut is ≡ Shut
shut_run l [] h = refl
shut_run l (i ∷ is) h = let e = shut_next l i.flag i.event h.0 in rw e (shut_run l is (rw e at h.1))

-- to an open channel a full table is nothing
abbrev roomy : Inputs → Inputs
roomy [] = []
roomy (i ∷ is) = record { event = i.event; flag = false } ∷ roomy is

open_roomy :
    (l : ℕ) (full : Bool) (r : Record) (b : List ℕ) (e : Event)
    → (chan_out l full (Open r b) e ≡ chan_out l false (Open r b) e) × (chan_next l full (Open r b) e ≡ chan_next l false (Open r b) e)
unfolding asks_room
open_roomy l full r b (Unreadable why) = (refl, refl)
open_roomy l full r b (Capabilities version) = (refl, refl)
open_roomy l full r b (Of n a) =
    let e : act l n (room_flag full) (Open r b) a ≡ act l n (room_flag false) (Open r b) a = flag_same l n full (Open r b) a in
    (ap told_by e, ap (λ (d : Did). d.view) e)

-- counting goes on where it stood
counts_on : (k h : ℕ) (t : Bool) → h ≡ one_if t → counted (min k COUNT_MAX) t ≡ min (k + h) COUNT_MAX
counts_on k h true e = omega arith
counts_on k h false e = omega arith

-- a run in which it isn't opened, and at whose end it is open: its count, and what it is told
record Ran (l : ℕ) (v : View) (is : Inputs) (k : ℕ) (s : Record) : Type 0 where
  pub count : s.count ≡ min (k + total (map handed (outs l v is))) COUNT_MAX
  pub alone : outs l v is ≡ outs l v (roomy is)

abbrev Runs : ℕ → Inputs → Type 0
Runs l is =
    (r : Record) (b : List ℕ) (k : ℕ) → r.count ≡ min k COUNT_MAX → AllTold NotOpened (outs l (Open r b) is)
    → (s : Record) (c : List ℕ) → ending l (Open r b) is ≡ Open s c → Ran l (Open r b) is k s

one_more : (l : ℕ) (i : Input Event Bool) (is : Inputs) → Runs l is → Runs l (i ∷ is)
one_more l i is later r b k h o s c e = go (next l (Open r b) i) refl (event_onward l i.flag r b i.event)
  where
    go : (w : View) → next l (Open r b) i ≡ w → Onward r (out l (Open r b) i) w → Ran l (Open r b) (i ∷ is) k s
    go w q gone =
        let shut = shut_run l is (rw q at o.1) in
        let z : ◌≡◌ {A = ℕ} 0 1 = cc in
        absurd (omega arith)
    go w q (open_still t d p up) =
        let m = is_message (out l (Open r b) i).answer in
        let then : t.count ≡ min (k + handed (out l (Open r b) i)) COUNT_MAX = p ∙ ap (λ (x : ℕ). counted x m) h ∙ counts_on k _ m up in
        let f = later t d _ then (rw q at o.1) s c (rw q at e) in
        let same = open_roomy l i.flag r b i.event in
        record { count = rw q (f.count ∙ omega arith); alone = rw (← same.1, ← same.0, q, f.alone) }

open_run : (l : ℕ) (is : Inputs) → Runs l is
open_run l [] r b k h o s c e = let same : r ≡ s = cc in record { count = rw (← same) (omega arith); alone = refl }
open_run l (i ∷ is) r b k h o s c e = one_more l i is (open_run l is) r b k h o s c e

roomy_events : (is : Inputs) → events_in (roomy is) ≡ events_in is
roomy_events [] = refl
roomy_events (i ∷ is) = ap (λ (es : List Event). i.event ∷ es) (roomy_events is)

roomy_flags : (is : Inputs) → flags_in (roomy is) ≡ map (λ (i : Input Event Bool). false) is
roomy_flags [] = refl
roomy_flags (i ∷ is) = ap (λ (fs : List Bool). false ∷ fs) (roomy_flags is)

-- ---- from an opening on

-- a channel just opened
record IsNew (l : ℕ) (w : View) : Type 0 where
  pub number : ℕ
  pub pri : ℕ
  pub is_open_law : w ≡ Open (opened_record l number pri) (zeros PART)

landed_opens_none : (n : ℕ) (r : Record) (part block : List ℕ) (tk : Took) → is_opened (landed n r part block tk).answer ≡ true → ⊥
unfolding landed answer_to
landed_opens_none n r part block (Bars why) h = true_not_false (sym h)
landed_opens_none n r part block (Spoils why) h = true_not_false (sym h)
landed_opens_none n r part block (Holds wanted at held) h = true_not_false (sym h)
landed_opens_none n r part block (Finishes at len) h = true_not_false (sym h)

-- an answer opened, and the channel then
opened_new : (l : ℕ) (full : Bool) (v : View) (e : Event) → is_opened (chan_out l full v e).answer ≡ true → IsNew l (chan_next l full v e)
unfolding act opening
opened_new l full v (Unreadable why) h = absurd (true_not_false (sym h))
opened_new l full v (Capabilities version) h = absurd (true_not_false (sym h))
opened_new l full Shut (Of n BadCreate) h = absurd (true_not_false (sym h))
opened_new l true Shut (Of n (Create true pri)) h = absurd (true_not_false (sym h))
opened_new l false Shut (Of n (Create true pri)) h = record { number = n; pri = pri; is_open_law = refl }
opened_new l full Shut (Of n (Create false pri)) h = absurd (true_not_false (sym h))
opened_new l full Shut (Of n (Bring offer block)) h = absurd (true_not_false (sym h))
opened_new l full Shut (Of n (Garbled why)) h = absurd (true_not_false (sym h))
opened_new l full Shut (Of n Closing) h = absurd (true_not_false (sym h))
opened_new l full Shut (Of n LocalClose) h = absurd (true_not_false (sym h))
opened_new l full (Open r b) (Of n BadCreate) h = absurd (true_not_false (sym h))
opened_new l full (Open r b) (Of n (Create listed pri)) h = absurd (true_not_false (sym h))
opened_new l full (Open r b) (Of n (Bring offer block)) h = absurd (landed_opens_none n r b block (took r.stage offer (length block)) h)
opened_new l full (Open r b) (Of n (Garbled why)) h = absurd (true_not_false (sym h))
opened_new l full (Open r b) (Of n Closing) h = absurd (true_not_false (sym h))
opened_new l full (Open r b) (Of n LocalClose) h = absurd (true_not_false (sym h))

-- ---- the same of calls

module _ (l : ℕ) (st : State) (g : Running l st) (n : ℕ) (v : View) (seen_as : view n st ≡ v) (xs : List Call) where
  inputs : Inputs
  inputs = seen after (is_event_of n) (with_flag read_call meets_full) st xs

  told_by_law : told_to n st xs ≡ outs l v inputs
  unfolding told_to inputs
  told_by_law = trace_outs (framed l n) st xs g ∙ ap (λ (w : View). outs l w inputs) seen_as

  ends_by : view n (ends st xs) ≡ ending l v inputs
  unfolding ends inputs
  ends_by = trace_final (framed l n) st xs g ∙ ap (λ (w : View). ending l w inputs) seen_as

  own_are : events_in (roomy inputs) ≡ own_events n xs
  unfolding own_events inputs
  own_are = roomy_events inputs ∙ inputs_events read_call after meets_full (is_event_of n) st xs

  -- what a channel is told to which no table is full
  told_as_law : SoundView v → outs l v inputs ≡ outs l v (roomy inputs) → told_to n st xs ≡ told_with (join_of v) (own_events n xs) []
  told_as_law sound alone =
      told_by_law ∙ alone ∙ run_told l v (roomy inputs) (rw own_are (fine_events n xs)) sound
      ∙ ap (told_with (join_of v) (events_in (roomy inputs))) (roomy_flags inputs) ∙ unflagged inputs (join_of v) (events_in (roomy inputs))
      ∙ ap (λ (es : List Event). told_with (join_of v) es []) own_are

call_opens :
    (l : ℕ) (st : State) → Running l st → (n : ℕ) (c : Call) → is_event_of n c ≡ true → is_opened (told st c).answer ≡ true
    → IsNew l (view n (after st c))
call_opens l st g n c own opened =
    let m = framed l n in
    rw (m.own st c g own) (opened_new l (meets_full st c) (view n st) (read_call c) (rw (m.says st c g own) at opened))

-- a run from an opening on, in which it isn't opened again, and at whose end it is open
counts :
    (l : ℕ) (st : State) → Running l st → (n : ℕ) → IsNew l (view n st) → (xs : List Call) → AllTold NotOpened (told_to n st xs)
    → (s : Record) (c : List ℕ) → view n (ends st xs) ≡ Open s c → Counts n st xs s.count
unfolding opened_record good_stage
counts l st g n new xs none s c e =
    let first = opened_record l new.number new.pri in
    let is = inputs l st g n (Open first (zeros PART)) new.is_open_law xs in
    let told = told_by_law l st g n (Open first (zeros PART)) new.is_open_law xs in
    let end = ends_by l st g n (Open first (zeros PART)) new.is_open_law xs in
    let ran = open_run l is first (zeros PART) 0 (omega arith) (subst (AllTold NotOpened) told none) s c (sym end ∙ e) in
    let alone = told_as_law l st g n (Open first (zeros PART)) new.is_open_law xs (length_zeros PART, refl) ran.alone in
    let up : s.count ≡ min (total (map handed (told_to n st xs))) COUNT_MAX = rw told (ran.count ∙ omega arith) in
    let each : map handed (told_to n st xs) ≡ map once (join_all Waiting (own_events n xs)) = ap (map handed) alone ∙ with_once Waiting _ [] in
    record { handed_up_law = up; joined = up ∙ ap (λ (ks : List ℕ). min (total ks) COUNT_MAX) each }

-- ---- the last opening

last_or_none : (n : ℕ) (st : State) (xs : List Call) → LastOpening n st xs ⊎ AllTold NotOpened (told_to n st xs)
unfolding told_to ends
last_or_none n st [] = inr tt
last_or_none n st (c ∷ xs) = ⊎_elim later (here (is_event_of n c) refl (is_opened (told st c).answer) refl) (last_or_none n (after st c) xs)
  where
    later :
        LastOpening n (after st c) xs
        → LastOpening n st (c ∷ xs) ⊎ AllTold NotOpened (cons_if (is_event_of n c) (told st c) (seen after (is_event_of n) told (after st c) xs))
    later o =
        inl (record {
          before = c ∷ o.before;
          opening = o.opening;
          since = o.since;
          in_the_run = ap (λ (ys : List Call). c ∷ ys) o.in_the_run;
          own = o.own;
          opened = o.opened;
          none_behind = o.none_behind;
        })

    here :
        (b : Bool) → is_event_of n c ≡ b → (u : Bool) → is_opened (told st c).answer ≡ u → AllTold NotOpened (told_to n (after st c) xs)
        → LastOpening n st (c ∷ xs) ⊎ AllTold NotOpened (cons_if b (told st c) (seen after (is_event_of n) told (after st c) xs))
    here true e true f none =
        inl (record { before = []; opening = c; since = xs; in_the_run = refl; own = e; opened = f; none_behind = none })
    here true e false f none = inr (f, none)
    here false e u f none = inr none

-- a run goes on where it stood
ends_on : (st : State) (xs ys : List Call) → ends st (xs ++ ys) ≡ ends (ends st xs) ys
unfolding ends
ends_on st [] ys = refl
ends_on st (x ∷ xs) ys = ends_on (after st x) xs ys

-- a channel that was shut, and was never opened, is shut
never_opened :
    (st : State) → JustReady st → (xs : List Call) (n : ℕ) → AllTold NotOpened (told_to n st xs) → view n (ends st xs) ≡ Shut
never_opened st j xs n none =
    let f = fresh st j in
    let is = inputs f.level st f.running n Shut (f.shut n) xs in
    let told = told_by_law f.level st f.running n Shut (f.shut n) xs in
    ends_by f.level st f.running n Shut (f.shut n) xs ∙ shut_run f.level is (subst (AllTold NotOpened) told none)

pub was_opened :
    (st : State) → JustReady st → (xs : List Call) (n : ℕ) (r : Record) (b : List ℕ) → view n (ends st xs) ≡ Open r b
    → LastOpening n st xs
was_opened st j xs n r b v = ⊎_elim (λ o. o) shut (last_or_none n st xs)
  where
    shut : AllTold NotOpened (told_to n st xs) → LastOpening n st xs
    shut none =
        let s = never_opened st j xs n none in
        let z : ◌≡◌ {A = ℕ} 0 1 = cc in
        absurd (omega arith)

pub since_its_opening :
    (st : State) → JustReady st → (xs : List Call) (n : ℕ) (r : Record) (b : List ℕ) → view n (ends st xs) ≡ Open r b
    → (o : LastOpening n st xs) → Counts n (after (ends st o.before) o.opening) o.since r.count
unfolding ends
since_its_opening st j xs n r b v o =
    let l = (fresh st j).level in
    let g = runs_on st j o.before in
    let new = call_opens l (ends st o.before) g n o.opening o.own o.opened in
    let behind = after (ends st o.before) o.opening in
    let at_the_end : ends st xs ≡ ends behind o.since = ap (ends st) o.in_the_run ∙ ends_on st o.before (o.opening ∷ o.since) in
    let running = running_call l (ends st o.before) o.opening g in
    counts l behind running n new o.since o.none_behind r b (sym (ap (view n) at_the_end) ∙ v)

-- ---- the ceiling

pub at_the_ceiling : TheCeiling
unfolding act landed stage_after part_after answer_to took laid COUNT_MAX
at_the_ceiling = record { reached = refl; kept = refl }
