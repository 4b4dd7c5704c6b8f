-- `saved::pairs_apart` meets its contract: the number of no taken record before i stands behind it too.
use mathlib.Core.Path.{◌≡◌}
use lib.ListN.{drop}
use Rattle.table.specs.Sound.{no_number_twice}
use Rattle.saved.specs.Saved.{table_in}
use Rattle.saved.proofs.pairs_apart.Given as goal

abbrev pub invariant-loop-i : goal.invariant-loop-i
invariant-loop-i l = no_number_twice (table_in l.state).records ≡ no_number_twice (drop l.i (table_in l.state).records)
