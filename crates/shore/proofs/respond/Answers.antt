-- `shore::respond` meets its contract: its tests are the definition's.
use mathlib.Core.Path.{◌∙◌}
use borrow.Author.Tests.{eq-eqb, ne_eqb}
use Rattle.shore.specs.Deciding.{responding}
use Rattle.shore.proofs.respond.Goals as goal

pub returns-then-ready : goal.returns-then-ready
unfolding responding
returns-then-ready c = c.too_soon.ensures ∙ rw c.if-ready.true

pub returns-then-asked-eq0 : goal.returns-then-asked-eq0
unfolding responding
returns-then-asked-eq0 c = c.too_soon-then-asked-eq0.ensures ∙ rw (c.if-ready.false, eq-eqb _ _ c.if-asked-eq0.true)

pub returns : goal.returns
unfolding responding
returns c = rw (c.if-ready.false, ne_eqb _ _ c.if-asked-eq0.false) (c.says.ensures ∙ rw c.level_between-between.ensures)
