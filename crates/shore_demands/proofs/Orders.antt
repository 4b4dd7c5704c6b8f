-- Demands 2 and 3 at the shore: what a number is told and how it is left are functions of its own events alone.
-- Assumes nothing.
use mathlib.Core.Path.{◌≡◌, refl, sym, ap, ◌∙◌}
use mathlib.Core.Bool.{Bool, true, false}
use mathlib.Core.List.{List, [], ◌∷◌, map}
use Prim.Native.Nat.{ℕ}
use Rattle.connection.specs.States.{view}
use Rattle.shore.specs.Events.{Event}
use Rattle.shore.specs.Shore.{Standing, state_in}
use Rattle.demands.specs.Trace.{cons_if, seen_at}
use Rattle.demands.specs.Joining.{Off}
use Rattle.demands.proofs.Traces.{Input, with_flag, events_in, inputs_read, trace_outs, trace_final}
use Rattle.demands.proofs.Joined.{sane_view}
use Rattle.demands.proofs.Totals.{same_channels}
use Rattle.shore_demands.specs.Runs.{Call, after, told_to, ends, event_in, is_event_of, own_events, JustReady, Running}
use Rattle.shore_demands.specs.Alone.{As, told_alone, brought, handed}
use Rattle.shore_demands.specs.Orders.{TwoOrders, SameEitherWay, SameAtTheEnd}
use Rattle.shore_demands.proofs.Frame.{step_asked}
use Rattle.shore_demands.proofs.Machine.{call_state, read_call, running_call, framed}
use Rattle.shore_demands.proofs.Telling.{link_of, AllFine, run_told, left_alone, run_left, alone_brings, alone_once, call_blocks}
use Rattle.shore_demands.proofs.Ready.{running, shut, runs_on}

-- the blocks of a number's own events
fine_events : (n : ℕ) (st : Standing) (xs : List Call) → AllFine (own_events n st xs)
unfolding own_events
fine_events n st [] = tt
fine_events n st (c ∷ xs) = go (is_event_of n st c) (fine_events n (after st c) xs)
  where
    rest : List Event
    rest = seen_at after (is_event_of n) (λ (s : Standing) (x : Call). event_in x.asked) (after st c) xs

    go : (t : Bool) → AllFine rest → AllFine (cons_if t (event_in c.asked) rest)
    go true f = (call_blocks c.asked, f)
    go false f = f

-- ---- one number by itself

module _ (l : ℕ) (st : Standing) (g : Running l st) (n : ℕ) (xs : List Call) where
  -- its own events, as the trace theorem has them
  own : List (Input Event (Unit {0}))
  own = seen_at after (is_event_of n) (with_flag read_call (λ s c. tt)) st xs

  own_events_law : events_in own ≡ own_events n st xs
  unfolding own_events own
  own_events_law = inputs_read read_call after (λ s c. tt) (is_event_of n) st xs

  -- what it is told is what its own events give from where it stands
  pub told_alone_law : told_to n st xs ≡ told_alone l n (link_of (view n (state_in st))) (own_events n st xs)
  unfolding told_to own
  told_alone_law =
      trace_outs (framed l n) st xs g
      ∙ run_told l n (view n (state_in st)) own (rw own_events_law (fine_events n st xs)) (sane_view (state_in st) g.calm.sane n)
      ∙ ap (told_alone l n (link_of (view n (state_in st)))) own_events_law

  -- and so is how it is left
  pub left_alone_law : view n (state_in (ends st xs)) ≡ left_alone l n (view n (state_in st)) (own_events n st xs)
  unfolding ends own
  left_alone_law = trace_final (framed l n) st xs g ∙ run_left l n (view n (state_in st)) own ∙ ap (left_alone l n (view n (state_in st))) own_events_law

-- the version that was asked for stays
pub asked_stays : (l : ℕ) (st : Standing) → Running l st → (xs : List Call) → (ends st xs).shore.asked ≡ st.shore.asked
unfolding ends
asked_stays l st g [] = refl
asked_stays l st g (c ∷ xs) =
    asked_stays l (after st c) (running_call l st c g) xs
    ∙ ap (λ (s : Standing). s.shore.asked) (call_state st c g.calm.sane) ∙ step_asked st g.asked (event_in c.asked)

-- ---- from a connection just made ready

module _ (st : Standing) (j : JustReady st) where
  -- every number is told what its own events alone should tell it
  pub every_call : (xs : List Call) (n : ℕ) → told_to n st xs ≡ told_alone st.shore.table.level n (As Off) (own_events n st xs)
  every_call xs n =
      let l = st.shore.table.level in
      told_alone_law l st (running st j) n xs ∙ ap (λ v. told_alone l n (link_of v) (own_events n st xs)) (shut st j n)

  module _ (xs ys : List Call) (o : TwoOrders st xs ys) where
    -- two orders tell each number the same, and its messages are those of its own events alone, each once
    pub each_channel : (n : ℕ) → SameEitherWay st xs ys n
    each_channel n =
        let l = st.shore.table.level in
        let told = every_call xs n in
        record {
          same_told = told ∙ ap (told_alone l n (As Off)) (o.own n) ∙ sym (every_call ys n);
          joined = ap (map brought) told ∙ alone_brings l n (As Off) (own_events n st xs);
          each_once = ap (map handed) told ∙ alone_once l n (As Off) (own_events n st xs);
        }

    -- and leave it the same
    both_left : (n : ℕ) → view n (state_in (ends st xs)) ≡ view n (state_in (ends st ys))
    both_left n =
        let l = st.shore.table.level in
        left_alone_law l st (running st j) n xs ∙ ap (left_alone l n (view n (state_in st))) (o.own n) ∙ sym (left_alone_law l st (running st j) n ys)

    -- at the end all is the same but for the places
    pub at_the_end : SameAtTheEnd (ends st xs) (ends st ys)
    at_the_end =
        let a = runs_on st j xs in
        let b = runs_on st j ys in
        let l = st.shore.table.level in
        record {
          state = record {
            ready = a.ready ∙ sym b.ready;
            level = a.level ∙ sym b.level;
            totals = same_channels (state_in (ends st xs)) (state_in (ends st ys)) a.calm.sane b.calm.sane both_left;
            channels = both_left;
            records_a = a.calm.blank;
            records_b = b.calm.blank;
            parts_a = a.calm.zero;
            parts_b = b.calm.zero;
          };
          asked = asked_stays l st (running st j) xs ∙ sym (asked_stays l st (running st j) ys);
        }
