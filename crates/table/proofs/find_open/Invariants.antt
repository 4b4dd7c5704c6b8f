-- `table::find_open` meets its contract: no row before k is open.
use mathlib.Core.Path.{◌≡◌}
use Prim.Native.Nat.{◌+◌, ◌-◌, ◌≤◌}
use lib.ListN.{length, drop}
use Rattle.paper.specs.Sizes.{PARTS}
use Rattle.lists.specs.Places.{place}
use Rattle.table.specs.Totals.{is_open}
use Rattle.table.proofs.find_open.Given as goal

abbrev pub invariant-loop-k : goal.invariant-loop-k
invariant-loop-k l = (l.k ≤ PARTS) × (length l.table.records ≡ PARTS) × (place is_open (drop l.k l.table.records) + l.k ≡ place is_open l.table.records)

abbrev pub decreases-loop-k : goal.decreases-loop-k
decreases-loop-k l = PARTS - l.k
