-- Nothing twice, the fault that this product exists for: a channel begins anew by a close of either kind, or by a
-- new Start on the used store; from there on it is told what its own events since then give, and nothing from
-- before.
use Rattle.std.specs.Prelude.{ℕ, ◌≡◌, Bool, List, map}
use Rattle.connection.specs.States.{State}
use Rattle.client.specs.Events.{Of, close_act}
use Rattle.demands.specs.Runs.{Call, after, told_to, ends, event_in, own_events, full_flags, JustReady}
use Rattle.demands.specs.Joining.{Off, brought, join_with}
use Rattle.demands.specs.Telling.{told_with}

-- from a state on, a channel begins anew
pub data Anew (n : ℕ) (st : State) : State → Type 0 where
  -- it is closed by a Close (false) or by the host (true), open or not
  closed : (c : Call) (local : Bool) → event_in c.asked ≡ Of n (close_act local) → Anew n st (after st c)
  -- Start on the used store, then an accepted Capabilities request
  restarted : {anew : State} (j : JustReady anew) → j.store ≡ st.store → Anew n st anew

-- the channel is told what its own events give, alone, with their own full-table flags, and nothing else
pub record ToldAlone (n : ℕ) (st : State) (xs : List Call) : Type 0 where
  pub is_told : told_to n st xs ≡ told_with Off (own_events n xs) (full_flags n st xs)
  pub brings : map brought (told_to n st xs) ≡ join_with Off (own_events n xs) (full_flags n st xs)

-- two histories leave no trace
abbrev pub NoTrace : ℕ → Type 0
NoTrace n =
    (st : State) → JustReady st → (before : List Call) (anew : State) → Anew n (ends st before) anew
    → (st' : State) → JustReady st' → (before' : List Call) (anew' : State) → Anew n (ends st' before') anew'
    → (xs ys : List Call) → own_events n xs ≡ own_events n ys → full_flags n anew xs ≡ full_flags n anew' ys
    → told_to n anew xs ≡ told_to n anew' ys
