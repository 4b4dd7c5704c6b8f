-- `logread::read` meets its contract: a piece is of whole blocks that are left, and each piece brings a block.
use Rattle.std.proofs.Common.{◌-◌, ◌≤◌}
use Rattle.logread.proofs.read.Given as goal

abbrev pub invariant-loop-number : goal.invariant-loop-number
invariant-loop-number g l = l.number ≤ l.blocks

abbrev pub decreases-loop-number : goal.decreases-loop-number
decreases-loop-number g l = l.blocks - l.number
