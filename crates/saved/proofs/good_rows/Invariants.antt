-- `saved::good_rows` meets its contract: every row before i is fine, and what the records before i add is counted.
use mathlib.Core.Path.{◌≡◌}
use Prim.Native.Nat.{◌+◌, ◌*◌, ◌≤◌}
use Rattle.paper.specs.Sizes.{PARTS}
use Rattle.saved.specs.Judging.{fine_rows}
use Rattle.saved.proofs.Judged.{fine_from, opens_from, awaits_from}
use Rattle.saved.proofs.good_rows.Given as goal

abbrev pub invariant-loop-i : goal.invariant-loop-i
invariant-loop-i l = (fine_rows l.ready l.asks PARTS l.state ≡ fine_from l.ready l.asks l.state l.i) × (l.channels + opens_from l.state l.i ≡ opens_from l.state 0)
    × (l.awaited + awaits_from l.state l.i ≡ awaits_from l.state 0) × (l.channels ≤ l.i) × (l.awaited ≤ 4096 * l.i)
