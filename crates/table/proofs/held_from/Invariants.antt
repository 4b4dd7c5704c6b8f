-- `table::held_from` meets its contract: no record from the place k up to i holds the number.
use mathlib.Core.Path.{◌≡◌}
use lib.ListN.{length, drop}
use Rattle.paper.specs.Sizes.{PARTS}
use Rattle.table.specs.Table.{holds}
use Rattle.table.specs.Sound.{some}
use Rattle.table.proofs.held_from.Given as goal

abbrev pub invariant-loop-i : goal.invariant-loop-i
invariant-loop-i l = (length l.table.records ≡ PARTS) × (some (holds l.number) (drop l.k l.table.records) ≡ some (holds l.number) (drop l.i l.table.records))
