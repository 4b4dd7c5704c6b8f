-- `cutting::Message::is_start` meets its contract. The loop follows the blocks: whether the offset is a start is whether it is
-- met from `at` on. The measure is what is left to the offset, and each block before the end has a byte.
use Prim.Native.Nat.{suc, ◌-◌, ◌≤◌}
use mathlib.Core.Path.{◌≡◌}
use Rattle.cutting.specs.Cutting.{meets, is_start}
use Rattle.cutting.proofs.Message.is_start.Given as goal

abbrev pub invariant-loop-at : goal.invariant-loop-at
invariant-loop-at l = (l.at ≤ l.self.total) × (is_start l.self.number l.self.total l.offset ≡ meets (suc (l.self.total - l.at)) l.self.number l.self.total l.offset l.at)

abbrev pub decreases-loop-at : goal.decreases-loop-at
decreases-loop-at l = l.offset - l.at
