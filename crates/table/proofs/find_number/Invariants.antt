-- `table::find_number` meets its contract: no row before k holds the number.
use mathlib.Core.Path.{◌≡◌}
use Prim.Native.Nat.{◌+◌, ◌-◌, ◌≤◌}
use lib.ListN.{length, drop}
use Rattle.paper.specs.Sizes.{PARTS}
use Rattle.lists.specs.Places.{place}
use Rattle.table.specs.Table.{holds}
use Rattle.table.proofs.find_number.Given as goal

abbrev pub invariant-loop-k : goal.invariant-loop-k
invariant-loop-k l = (l.k ≤ PARTS) × (length l.table.records ≡ PARTS) × (place (holds l.number) (drop l.k l.table.records) + l.k ≡ place (holds l.number) l.table.records)

abbrev pub decreases-loop-k : goal.decreases-loop-k
decreases-loop-k l = PARTS - l.k
