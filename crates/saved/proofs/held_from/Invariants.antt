-- `saved::held_from` meets its contract: no record from the place k up to i holds the number.
use mathlib.Core.Path.{◌≡◌}
use lib.ListN.{drop}
use Rattle.table.specs.Table.{holds}
use Rattle.table.specs.Sound.{some}
use Rattle.saved.specs.Saved.{table_in}
use Rattle.saved.proofs.held_from.Given as goal

abbrev pub invariant-loop-i : goal.invariant-loop-i
invariant-loop-i l = some (holds l.number) (drop l.k (table_in l.state).records) ≡ some (holds l.number) (drop l.i (table_in l.state).records)
