-- `linklog::take_up` meets its contract: its tests are the definition's.
use mathlib.Core.Path.{sym, ◌∙◌}
use native.Mathlib.Omega.{arith}
use Rattle.linklog.proofs.Taking.{up_empty, up_bad, up_good}
use Rattle.linklog.proofs.take_up.Goals as goal

pub returns-then-blocks-eq0 : goal.returns-then-blocks-eq0
returns-then-blocks-eq0 c = up_empty _ _ c.if-blocks-eq0.true

pub returns-then-not-good : goal.returns-then-not-good
returns-then-not-good c = up_bad _ _ c.if-blocks-eq0.false (sym c.good.ensures ∙ c.if-not-good.true)

pub returns : goal.returns
returns c = up_good _ _ c.if-blocks-eq0.false (sym c.good.ensures ∙ c.if-not-good.false)

pub overflow_sub-blocks : goal.overflow_sub-blocks
overflow_sub-blocks c = omega (arith, c.if-blocks-eq0.false)
