-- `table::put` meets its contract: before turn i the bit is still to come, or the record was set.
use Rattle.table.proofs.OneHot.{SoFar}
use Rattle.paper.specs.Sizes.{PARTS}
use lib.ListN.{length}
use Prim.Native.Nat.{ℕ, ◌≤◌}
use mathlib.Core.Path.{◌≡◌}
use Rattle.table.specs.Table.{bit_of}
use Rattle.table.proofs.put.Given as goal

abbrev pub invariant-loop-i : goal.invariant-loop-i
invariant-loop-i l = (l.i ≤ PARTS) × (length l.initial.next.records ≡ PARTS) × ((j : ℕ) → l.initial.rest ≡ bit_of j → SoFar l.initial.next j l.record l.i l.rest l.next)
