-- Demand 3 and its general form, proved: what a channel is told and where it ends are functions of its own events and of whether they
-- met a full table. From a connection just made ready every state of a run is a state of a run again.
-- Assumes nothing.
use mathlib.Core.Path.{◌≡◌, refl, sym, ap, ◌∙◌, subst}
use mathlib.Core.Bool.{Bool, true, false}
use mathlib.Core.List.{List, [], ◌∷◌, map}
use Prim.Native.Nat.{ℕ, ◌≤◌, min}
use native.Mathlib.Omega.{arith}
use borrow.Author.Tests.{eq-eqb}
use lib.ListN.{length}
use Rattle.paper.specs.Sizes.{PARTS, STORE}
use Rattle.lists.specs.Bytes.{zeros}
use Rattle.lists.specs.Places.{place}
use Rattle.reading.specs.Reading.{read_pdu}
use Rattle.reading.specs.declared.Charges.{Charges}
use Rattle.reading.specs.declared.Pdu.TheVariants.{CapsRequest}
use Rattle.channel.specs.Channel.{Shut}
use Rattle.table.specs.Table.{empty_table, holds, number_place}
use Rattle.connection.specs.States.{State, state_of, view}
use Rattle.client.specs.Events.{Event, Capabilities, event_of}
use Rattle.client.specs.Client.{Stepped, started, store_started, readied, stepped, bad_call}
use Rattle.client.proofs.Steps.{made_ready}
use Rattle.connection.proofs.Views.{view_shut}
use Rattle.steps.specs.States.{FineEvent, Calm}
use Rattle.steps.proofs.Calm.{calm_start, calm_step}
use Rattle.demands.specs.Trace.{cons_if, keep, seen}
use Rattle.demands.specs.Runs.{receives, Call, after, told_to, ends, event_in, is_event_of, own_events, meets_full}
use Rattle.demands.specs.Runs.{full_flags, started_on, JustReady, Running}
use Rattle.demands.specs.Joining.{Off, brought, handed}
use Rattle.demands.specs.Telling.{told_with}
use Rattle.demands.specs.Orders.{TwoOrders, NeverFull, SameEitherWay, SameButPlaces}
use Rattle.demands.proofs.Traces.{Input, with_flag, events_in, flags_in, trace_inv, trace_final, trace_outs}
use Rattle.demands.proofs.Traces.{inputs_events, inputs_flags, never_seen}
use Rattle.demands.proofs.Totals.{same_channels}
use Rattle.demands.proofs.Machine.{read_call, framed, not_bad, call_state, fine_call}
use Rattle.demands.proofs.Joined.{AllFine, join_of, sane_view, call_blocks}
use Rattle.demands.proofs.Telling.{left_with, run_told, run_left, with_brings, with_once, unflagged}

-- ---- a connection just made ready

pub started_is : (store : List ℕ) → length store ≡ STORE → started_on store ≡ state_of empty_table (zeros STORE)
unfolding started_on started store_started
started_is store h = rw (eq-eqb (length store) STORE h)

-- the empty table holds no number
no_number : (n level : ℕ) → PARTS ≡ number_place n (record { totals = empty_table.totals; ready = true; level = level; records = empty_table.records })
unfolding number_place empty_table PARTS place holds
no_number n level = refl

pub empty_shut :
    (n level : ℕ) (store : List ℕ) → view n (state_of (record { totals = empty_table.totals; ready = true; level = level; records = empty_table.records }) store) ≡ Shut
empty_shut n level store = view_shut n (state_of (record { totals = empty_table.totals; ready = true; level = level; records = empty_table.records }) store) PARTS (no_number n level) (omega arith)

-- what the Capabilities request makes of it
pub record Fresh (st : State) : Type 0 where
  pub level : ℕ
  pub running : Running level st
  pub shut : (n : ℕ) → view n st ≡ Shut

caps_event :
    (list pdu : List ℕ) (version : ℕ) (charges : Charges) → read_pdu true pdu ≡ CapsRequest version charges
    → event_of list pdu (read_pdu true pdu) ≡ Capabilities version
unfolding event_of
caps_event list pdu version charges e = rw e

pub empty_unready : empty_table.ready ≡ false
unfolding empty_table
empty_unready = refl

pub read_caps :
    (list pdu : List ℕ) (version : ℕ) (charges : Charges) → read_pdu true pdu ≡ CapsRequest version charges
    → event_in (receives list pdu) ≡ Capabilities version
unfolding event_in
read_caps list pdu version charges e = caps_event list pdu version charges e

-- the state that it makes
pub ready_state : (st : State) (j : JustReady st) → st ≡ (readied (state_of empty_table (zeros STORE)) j.version).state
ready_state st j =
    let c = j.call in
    let empty = state_of empty_table (zeros STORE) in
    let event : event_in c.asked ≡ Capabilities j.version = ap event_in j.asks ∙ read_caps j.list j.pdu j.version j.charges j.accepted in
    j.then ∙ ap (λ (s : State). after s c) (started_is j.store j.size)
    ∙ call_state empty c calm_start.sane ∙ ap (λ (e : Event). (stepped empty e).state) event
    ∙ ap (λ (s : Stepped). s.state) (made_ready empty j.version empty_unready)

pub fresh : (st : State) → JustReady st → Fresh st
unfolding readied
fresh st j =
    let c = j.call in
    let empty = state_of empty_table (zeros STORE) in
    let event : event_in c.asked ≡ Capabilities j.version = ap event_in j.asks ∙ read_caps j.list j.pdu j.version j.charges j.accepted in
    let level = min j.version 2 in
    let good : 1 ≤ j.version = subst FineEvent event (fine_call c.asked) in
    let calm : Calm (readied empty j.version).state = subst (λ (s : Stepped). Calm s.state) (made_ready empty j.version empty_unready) (calm_step empty calm_start (Capabilities j.version) good) in
    rw (ready_state st j) (record { level = level; running = record { calm = calm; ready = refl; level = refl }; shut = λ n. empty_shut n level (zeros STORE) })

-- the blocks of a channel's own events
pub fine_events : (n : ℕ) (xs : List Call) → AllFine (own_events n xs)
unfolding own_events
fine_events n [] = tt
fine_events n (c ∷ xs) = go (is_event_of n c) (fine_events n xs)
  where
    go : (t : Bool) → AllFine (map read_call (keep (is_event_of n) xs)) → AllFine (map read_call (cons_if t c (keep (is_event_of n) xs)))
    go true f = (call_blocks c.asked, f)
    go false f = f

-- every state that calls reach from Start, in any order, is calm
pub calm_call : (st : State) → Calm st → (c : Call) → Calm (after st c)
calm_call st g c = rw (call_state st c g.sane) (calm_step st g (event_in c.asked) (fine_call c.asked))

pub calm_run : (st : State) → Calm st → (xs : List Call) → Calm (ends st xs)
unfolding ends
calm_run st g [] = g
calm_run st g (c ∷ xs) = calm_run (after st c) (calm_call st g c) xs

pub calm_started : (store : List ℕ) → length store ≡ STORE → Calm (started_on store)
calm_started store size = subst Calm (sym (started_is store size)) calm_start

-- so no proper call meets refusal 1
pub never_refusal_1 :
    (store : List ℕ) → length store ≡ STORE → (xs : List Call) (c : Call)
    → bad_call (ends (started_on store) xs).table (length (ends (started_on store) xs).store) (length c.reply) ≡ false
never_refusal_1 store size xs c = not_bad (ends (started_on store) xs) c (calm_run (started_on store) (calm_started store size) xs).sane

-- every state of a run from there is such a state again
pub runs_on : (st : State) (j : JustReady st) (xs : List Call) → Running (fresh st j).level (ends st xs)
unfolding ends
runs_on st j xs = let b = fresh st j in trace_inv (framed b.level 0) st xs b.running

pub runs_at_its_level : (st : State) → JustReady st → (xs : List Call) → Running (ends st xs).table.level (ends st xs)
runs_at_its_level st j xs = let g = runs_on st j xs in record { calm = g.calm; ready = g.ready; level = refl }

-- ---- one channel by itself. What is said anywhere of one channel beside others, in two orders, beside strangers, after a close or a
-- garbled block, follows from these two

module _ (l : ℕ) (st : State) (g : Running l st) (n : ℕ) (xs : List Call) where
  own : List (Input Event Bool)
  own = seen after (is_event_of n) (with_flag read_call meets_full) st xs

  own_events_law : events_in own ≡ own_events n xs
  unfolding own_events own
  own_events_law = inputs_events read_call after meets_full (is_event_of n) st xs

  own_flags : flags_in own ≡ full_flags n st xs
  unfolding full_flags own
  own_flags = inputs_flags read_call after meets_full (λ s. is_event_of n) st xs

  -- what it is told is what its own events give from where its joining stands, each with whether it met a full table
  pub told_with_law : told_to n st xs ≡ told_with (join_of (view n st)) (own_events n xs) (full_flags n st xs)
  unfolding told_to own
  told_with_law =
      trace_outs (framed l n) st xs g
      ∙ run_told l (view n st) own (rw own_events_law (fine_events n xs)) (sane_view st g.calm.sane n) ∙ rw (own_events_law, own_flags)

  -- and so is how it is left
  pub left_with_law : view n (ends st xs) ≡ left_with l (view n st) (own_events n xs) (full_flags n st xs)
  unfolding ends own
  left_with_law = trace_final (framed l n) st xs g ∙ run_left l (view n st) own ∙ rw (own_events_law, own_flags)

  -- where it is not open
  pub told_shut : view n st ≡ Shut → told_to n st xs ≡ told_with Off (own_events n xs) (full_flags n st xs)
  told_shut v = told_with_law ∙ rw v

  -- and no table is full
  pub told_roomy : view n st ≡ Shut → NeverFull st xs → told_to n st xs ≡ told_with Off (own_events n xs) []
  unfolding full_flags
  told_roomy v f =
      told_shut v ∙ ap (told_with Off (own_events n xs)) (never_seen after meets_full (is_event_of n) st xs f)
      ∙ unflagged (keep (is_event_of n) xs) Off (own_events n xs)

-- two runs, from two states or one, in which its own events are the same and met a full table alike
module _ (l l' : ℕ) (st st' : State) (g : Running l st) (g' : Running l' st') (n : ℕ) (xs ys : List Call)
    (e : own_events n xs ≡ own_events n ys) (f : full_flags n st xs ≡ full_flags n st' ys) where
  pub same_told : join_of (view n st) ≡ join_of (view n st') → told_to n st xs ≡ told_to n st' ys
  same_told v = told_with_law l st g n xs ∙ rw (v, e, f) (sym (told_with_law l' st' g' n ys))

  pub same_left : l ≡ l' → view n st ≡ view n st' → view n (ends st xs) ≡ view n (ends st' ys)
  same_left p v = left_with_law l st g n xs ∙ rw (p, v, e, f) (sym (left_with_law l' st' g' n ys))

-- from one state: strangers
module _ (l : ℕ) (st : State) (g : Running l st) (n : ℕ) (xs ys : List Call) (e : own_events n xs ≡ own_events n ys)
    (f : full_flags n st xs ≡ full_flags n st ys) where
  pub strangers_told : told_to n st xs ≡ told_to n st ys
  strangers_told = same_told l l st st g g n xs ys e f refl

  pub strangers_left : view n (ends st xs) ≡ view n (ends st ys)
  strangers_left = same_left l l st st g g n xs ys e f refl refl

-- ---- demand 3: strangers that meet no full table

-- where neither order meets a full table the flags are the same
same_flags :
    (n : ℕ) (st : State) (xs ys : List Call) → own_events n xs ≡ own_events n ys → NeverFull st xs → NeverFull st ys
    → full_flags n st xs ≡ full_flags n st ys
unfolding full_flags own_events
same_flags n st xs ys e f h =
    never_seen after meets_full (is_event_of n) st xs f ∙ as_events (keep (is_event_of n) xs)
    ∙ ap (map (λ (x : Event). false)) e
    ∙ sym (never_seen after meets_full (is_event_of n) st ys h ∙ as_events (keep (is_event_of n) ys))
  where
    as_events : (cs : List Call) → map (λ (c : Call). false) cs ≡ map (λ (x : Event). false) (map read_call cs)
    as_events [] = refl
    as_events (c ∷ cs) = ap (λ (r : List Bool). false ∷ r) (as_events cs)

module _ (st : State) (j : JustReady st) (xs ys : List Call) (o : TwoOrders xs ys) (f : NeverFull st xs) (h : NeverFull st ys) where
  pub same_either_way : (n : ℕ) → SameEitherWay st xs ys n
  same_either_way n =
      let b = fresh st j in
      let told = told_roomy b.level st b.running n xs (b.shut n) f in
      record {
        same_told = strangers_told b.level st b.running n xs ys (o n) (same_flags n st xs ys (o n) f h);
        joined = ap (map brought) told ∙ with_brings Off (own_events n xs) [];
        each_once = ap (map handed) told ∙ with_once Off (own_events n xs) [];
      }

  both_left : (n : ℕ) → view n (ends st xs) ≡ view n (ends st ys)
  both_left n =
      let b = fresh st j in
      strangers_left b.level st b.running n xs ys (o n) (same_flags n st xs ys (o n) f h)

  pub same_but_places : SameButPlaces (ends st xs) (ends st ys)
  same_but_places =
      let a = runs_on st j xs in
      let b = runs_on st j ys in
      record {
        ready = a.ready ∙ sym b.ready;
        level = a.level ∙ sym b.level;
        totals = same_channels (ends st xs) (ends st ys) a.calm.sane b.calm.sane both_left;
        channels = both_left;
        records_a = a.calm.blank;
        records_b = b.calm.blank;
        parts_a = a.calm.zero;
        parts_b = b.calm.zero;
      }
