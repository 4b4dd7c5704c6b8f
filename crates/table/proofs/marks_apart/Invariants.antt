-- `table::marks_apart` meets its contract: the records from i on have set their marks and are counted, and no number stands
-- in two of them.
use mathlib.Core.Path.{◌≡◌}
use Prim.Native.Nat.{◌+◌, ◌≤◌}
use lib.ListN.{length, drop}
use Rattle.paper.specs.Sizes.{PARTS}
use Rattle.table.specs.Totals.{opens, total}
use Rattle.table.proofs.Marks.{MARKS, Passed}
use Rattle.table.proofs.marks_apart.Given as goal

abbrev pub invariant-loop-i : goal.invariant-loop-i
invariant-loop-i l = (length l.table.records ≡ PARTS) × (length l.marks ≡ MARKS) × Passed l.table.records l.marks l.i
    × (l.channels ≡ total opens (drop l.i l.table.records)) × (l.channels + l.i ≤ PARTS)
