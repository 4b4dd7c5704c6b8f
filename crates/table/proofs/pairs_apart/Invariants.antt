-- `table::pairs_apart` meets its contract: the number of no taken record before i stands behind it too.
use mathlib.Core.Path.{◌≡◌}
use lib.ListN.{length, drop}
use Rattle.paper.specs.Sizes.{PARTS}
use Rattle.table.specs.Sound.{no_number_twice}
use Rattle.table.proofs.pairs_apart.Given as goal

abbrev pub invariant-loop-i : goal.invariant-loop-i
invariant-loop-i l = (length l.table.records ≡ PARTS) × (no_number_twice l.table.records ≡ no_number_twice (drop l.i l.table.records))
