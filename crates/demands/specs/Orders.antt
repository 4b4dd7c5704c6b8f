-- Demand 3, stated: two orders of the same events.
use Rattle.std.specs.Prelude.{ℕ, ◌≡◌, List, map}
use Rattle.connection.specs.States.{State, view, FreePartsAreZero}
use Rattle.steps.specs.States.{FreeRecordsAreBlank}
use Rattle.demands.specs.Trace.{Never}
use Rattle.demands.specs.Runs.{Call, after, told_to, own_events, meets_full}
use Rattle.demands.specs.Joining.{Off, brought, join_all, once, handed}

-- "two orders of the same received PDUs and local closes that keep each channel's own events in order": for each
-- number the same events of that number in the same order; nothing is supposed of the others
abbrev pub TwoOrders : List Call → List Call → Type 0
TwoOrders xs ys = (n : ℕ) → own_events n xs ≡ own_events n ys

-- "neither order meets a full table"
abbrev pub NeverFull : State → List Call → Type 0
NeverFull st xs = Never after meets_full st xs

-- "each channel gets the same answers and replies, and its messages are exactly those that demand 2 gives for its
-- own events alone, each once"
pub record SameEitherWay (st : State) (xs ys : List Call) (n : ℕ) : Type 0 where
  pub same_told : told_to n st xs ≡ told_to n st ys
  pub joined : map brought (told_to n st xs) ≡ join_all Off (own_events n xs)
  pub each_once : map handed (told_to n st xs) ≡ map once (join_all Off (own_events n xs))

-- "At the end each open channel has the same record and the same stored bytes. Only where in the store a channel
-- stands may differ": ready, level, and what is free are the same too. The record is number, class, stage and count. And with
-- the totals: "Demand 3 gains: both are the same after either order"
pub record SameButPlaces (a b : State) : Type 0 where
  pub ready : a.table.ready ≡ b.table.ready
  pub level : a.table.level ≡ b.table.level
  -- the open channels and the bytes awaited, of all channels together
  pub totals : a.table.totals ≡ b.table.totals
  -- each number: not open in both, or open in both with the same record, its count too, and the same part
  pub channels : (n : ℕ) → view n a ≡ view n b
  -- every free record is as Start made it, and so is its part
  pub records_a : FreeRecordsAreBlank a
  pub records_b : FreeRecordsAreBlank b
  pub parts_a : FreePartsAreZero a
  pub parts_b : FreePartsAreZero b
