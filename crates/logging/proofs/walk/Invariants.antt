-- `logging::walk` meets its contract. What is left of the walk always leads to the same end; each turn logs the record in front, and lays
-- the blocks that became full behind those before.
use Prim.Native.Nat.{◌-◌}
use lib.ListN.{length}
use Rattle.logging.proofs.Walks.{Left}
use Rattle.logging.proofs.walk.Given as goal

abbrev pub invariant-loop-n : goal.invariant-loop-n
invariant-loop-n l = Left l.initial.next l.input l.initial.room l.initial.out l.room l.out l.next l.at l.used

abbrev pub decreases-loop-n : goal.decreases-loop-n
decreases-loop-n l = length l.input - l.at
