-- `published::theirs` meets its contract: each arm is a case of the definition.
use Rattle.std.proofs.Common.{arith}
use Rattle.lines.proofs.Lays.{nothing, at_most}
use Rattle.published.specs.Comparing.{their_text}
use Rattle.published.proofs.theirs.Goals as goal

pub returns-in-Some-Some : goal.returns-in-Some-Some
unfolding their_text
returns-in-Some-Some c = rw (c.in-Some-Some.is, rw c.in-Some-Some.is at c.in-Some-Some.field-0-is) c.point_text.ensures

pub returns-in-Some-None : goal.returns-in-Some-None
unfolding their_text
returns-in-Some-None c =
    rw (c.in-Some-None.is, rw c.in-Some-None.is at c.in-Some-None.field-0-is) (at_most _ c.text.ensures (omega arith))

pub returns-in-None : goal.returns-in-None
unfolding their_text
returns-in-None c = rw c.in-None.is (at_most _ (nothing _ (omega arith) (omega arith)) (omega arith))
