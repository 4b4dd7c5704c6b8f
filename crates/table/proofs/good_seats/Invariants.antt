-- `table::good_seats` meets its contract: every record before the index has a class, and none of them is taken when not ready.
use mathlib.Core.Path.{◌≡◌}
use lib.ListN.{length, drop}
use Rattle.paper.specs.Sizes.{PARTS}
use Rattle.table.specs.Sound.{good_seat, every}
use Rattle.table.proofs.good_seats.Given as goal

abbrev pub invariant-loop-record : goal.invariant-loop-record
invariant-loop-record l = (length l.table.records ≡ PARTS) × (every (good_seat l.table.ready) l.table.records ≡ every (good_seat l.table.ready) (drop l.record-index l.table.records))
