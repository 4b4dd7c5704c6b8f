-- `published::ours` meets its contract: a dash, or four digits.
use Rattle.std.proofs.Common.{arith}
use borrow.Author.Tests.{eq-eqb, ne_eqb}
use Rattle.codepage.specs.Points.{NONE}
use Rattle.lines.proofs.Lays.{at_most}
use Rattle.published.specs.Comparing.{our_text}
use Rattle.published.proofs.ours.Goals as goal

pub returns-then-point-eq-NONE : goal.returns-then-point-eq-NONE
unfolding our_text
returns-then-point-eq-NONE c = rw (eq-eqb _ NONE c.if-point-eq-NONE.true) (at_most _ c.text.ensures (omega arith))

pub returns : goal.returns
unfolding our_text
returns c = rw (ne_eqb _ NONE c.if-point-eq-NONE.false) c.point_text.ensures
