-- `table::stages` meets its contract: every stage before the index is good, and so many bytes are still to come over the open ones.
use mathlib.Core.Path.{◌≡◌}
use Prim.Native.Nat.{◌+◌, ◌*◌, ◌≤◌}
use lib.ListN.{length, drop}
use Rattle.paper.specs.Sizes.{PARTS}
use Rattle.table.specs.Totals.{awaits, total}
use Rattle.table.specs.Sound.{is_staged, every}
use Rattle.table.proofs.stages.Given as goal

abbrev pub invariant-loop-record : goal.invariant-loop-record
invariant-loop-record l = (length l.fn.table.records ≡ PARTS) × (every is_staged l.fn.table.records ≡ every is_staged (drop l.record-index l.fn.table.records))
    × (l.awaited + total awaits (drop l.record-index l.fn.table.records) ≡ total awaits l.fn.table.records) × (l.awaited ≤ 4096 * l.record-index)
