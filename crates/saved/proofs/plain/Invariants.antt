-- `saved::plain` meets its contract: the rows from i on are fine, what their records add is counted, and their numbers' marks are set.
use mathlib.Core.Path.{◌≡◌}
use lib.ListN.{length}
use Rattle.table.proofs.Marks.{MARKS}
use Rattle.saved.proofs.Passing.{Sofar}
use Rattle.saved.proofs.plain.Given as goal

abbrev pub invariant-loop-i : goal.invariant-loop-i
invariant-loop-i l = (length l.marks ≡ MARKS) × Sofar l.ready l.asks l.state l.marks l.channels l.awaited l.i
