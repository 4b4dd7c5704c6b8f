-- `cause::onward` meets its contract: the notes, the place behind, and what is said.
use Rattle.std.proofs.Common.{refl}
use Rattle.cause.specs.Cause.{course_on}
use Rattle.cause.proofs.onward.Goals as goal

pub returns : goal.returns
unfolding course_on
returns c = rw (c.notes_after.ensures, c.said_after-said.ensures) refl
