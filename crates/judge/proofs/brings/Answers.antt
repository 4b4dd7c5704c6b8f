-- `judge::brings` meets its contract: its test is the definition's.
use Rattle.std.proofs.Common.{eq-eqb, ne_eqb}
use Rattle.judge.specs.Judge.{brought}
use Rattle.judge.proofs.brings.Goals as goal

pub returns-then-theirs-number : goal.returns-then-theirs-number
unfolding brought
returns-then-theirs-number c = rw (ne_eqb _ _ c.if-theirs-number.true)

pub returns : goal.returns
unfolding brought
returns c = rw (eq-eqb _ _ c.if-theirs-number.false) c.lands.ensures
