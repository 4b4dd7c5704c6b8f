-- `saved::find_number` meets its contract: no record before i holds the number.
use mathlib.Core.Path.{◌≡◌}
use Prim.Native.Nat.{◌+◌, ◌≤◌}
use lib.ListN.{drop}
use Rattle.paper.specs.Sizes.{PARTS}
use Rattle.lists.specs.Places.{place}
use Rattle.table.specs.Table.{holds}
use Rattle.saved.specs.Saved.{table_in}
use Rattle.saved.proofs.find_number.Given as goal

abbrev pub invariant-loop-i : goal.invariant-loop-i
invariant-loop-i l = (l.i ≤ PARTS) × (place (holds l.number) (drop l.i (table_in l.state).records) + l.i ≡ place (holds l.number) (table_in l.state).records)
