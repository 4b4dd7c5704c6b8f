-- `viewing::reason` meets its contract: each arm is a case of the definition.
use Rattle.std.proofs.Common.{arith}
use Rattle.lines.proofs.Lays.{at_most}
use Rattle.viewing.specs.Texts.{reason_for}
use Rattle.viewing.proofs.reason.Goals as goal

pub returns-in-Empty : goal.returns-in-Empty
unfolding reason_for
returns-in-Empty c = rw c.in-Empty.is (at_most _ c.text.ensures (omega arith))

pub returns-in-HasZero : goal.returns-in-HasZero
unfolding reason_for
returns-in-HasZero c = rw c.in-HasZero.is (at_most _ c.text-in-HasZero.ensures (omega arith))

pub returns-in-Unnamed : goal.returns-in-Unnamed
unfolding reason_for
returns-in-Unnamed c = rw c.in-Unnamed.is (rw c.refusal_number.ensures at c.refused.ensures)
