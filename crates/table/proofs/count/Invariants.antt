-- `table::count` meets its contract: so many records before the index are open.
use mathlib.Core.Path.{◌≡◌}
use Prim.Native.Nat.{◌+◌, ◌≤◌}
use lib.ListN.{length, drop}
use Rattle.paper.specs.Sizes.{PARTS}
use Rattle.table.specs.Totals.{opens, total}
use Rattle.table.proofs.count.Given as goal

abbrev pub invariant-loop-record : goal.invariant-loop-record
invariant-loop-record l = (length l.fn.table.records ≡ PARTS) × (l.channels ≤ l.record-index) × (l.channels + total opens (drop l.record-index l.fn.table.records) ≡ total opens l.fn.table.records)
