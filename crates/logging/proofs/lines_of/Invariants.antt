-- `logging::lines_of` meets its contract. What is left of the walk always leads to the same end; each turn lays the line of the record in
-- front behind the lines before.
use Prim.Native.Nat.{◌-◌}
use lib.ListN.{length}
use Rattle.logging.proofs.Said.{Left}
use Rattle.logging.proofs.lines_of.Given as goal

abbrev pub invariant-loop-n : goal.invariant-loop-n
invariant-loop-n l = Left l.records l.initial.pen l.pen l.at

abbrev pub decreases-loop-n : goal.decreases-loop-n
decreases-loop-n l = length l.records - l.at
