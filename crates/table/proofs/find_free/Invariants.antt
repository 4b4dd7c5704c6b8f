-- `table::find_free` meets its contract: no record before i is free.
use mathlib.Core.Path.{◌≡◌}
use Prim.Native.Nat.{◌+◌, ◌-◌, ◌≤◌}
use lib.ListN.{length, drop}
use Rattle.paper.specs.Sizes.{PARTS}
use Rattle.lists.specs.Places.{place}
use Rattle.table.specs.Table.{is_free}
use Rattle.table.proofs.find_free.Given as goal

abbrev pub invariant-loop-i : goal.invariant-loop-i
invariant-loop-i l = (l.i ≤ PARTS) × (length l.table.records ≡ PARTS) × (place is_free (drop l.i l.table.records) + l.i ≡ place is_free l.table.records)

abbrev pub decreases-loop-i : goal.decreases-loop-i
decreases-loop-i l = PARTS - l.i
