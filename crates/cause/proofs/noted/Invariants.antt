-- `cause::noted` meets its contract: before turn i the first i notes are done, and the others are as they were.
use Rattle.std.proofs.Common.{◌≡◌, length}
use Rattle.paper.specs.Sizes.{PARTS}
use Rattle.cause.proofs.Notes.{SoFar}
use Rattle.cause.proofs.noted.Given as goal

abbrev pub invariant-loop-i : goal.invariant-loop-i
invariant-loop-i l = (length l.initial.next ≡ PARTS) × SoFar l.note l.before l.after l.initial.next l.next l.i
