-- `saved::find_free` meets its contract: no record before i is free.
use mathlib.Core.Path.{◌≡◌}
use Prim.Native.Nat.{◌+◌, ◌≤◌}
use lib.ListN.{drop}
use Rattle.paper.specs.Sizes.{PARTS}
use Rattle.lists.specs.Places.{place}
use Rattle.table.specs.Table.{is_free}
use Rattle.saved.specs.Saved.{table_in}
use Rattle.saved.proofs.find_free.Given as goal

abbrev pub invariant-loop-i : goal.invariant-loop-i
invariant-loop-i l = (l.i ≤ PARTS) × (place is_free (drop l.i (table_in l.state).records) + l.i ≡ place is_free (table_in l.state).records)
