-- `Pen::verdict` meets its contract: the field's two cases are the test's.
use Rattle.std.proofs.Common.{arith}
use borrow.Author.Tests.{eq-eqb, ne_eqb}
use Rattle.lines.specs.Lines.{verdict_field}
use Rattle.lines.proofs.Lays.{at_most}
use Rattle.lines.proofs.Pen.verdict.Goals as goal

pub returns-then-refusal-eq0 : goal.returns-then-refusal-eq0
unfolding verdict_field
returns-then-refusal-eq0 c = rw (eq-eqb _ 0 c.if-refusal-eq0.true) (at_most _ c.text.ensures (omega arith))

pub returns : goal.returns
unfolding verdict_field
returns c = rw (ne_eqb _ 0 c.if-refusal-eq0.false) c.refused.ensures
