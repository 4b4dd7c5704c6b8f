-- `viewing::show` meets its contract: the guards are the cases of the definition.
use mathlib.Core.Path.{refl, sym, ◌∙◌}
use borrow.Author.Tests.{lt-ltb, le-ltb}
use Rattle.paper.specs.Sizes.{LIST_MAX}
use Rattle.viewing.specs.Lists.{LINES_MAX, shown_for, shown_in}
use native.Mathlib.Omega.{arith}
use Rattle.viewing.proofs.show.Goals as goal

pub returns-then-out-lt-LINES_MAX : goal.returns-then-out-lt-LINES_MAX
unfolding shown_for shown_in LINES_MAX LIST_MAX
returns-then-out-lt-LINES_MAX c = rw (lt-ltb _ _ c.if-out-lt-LINES_MAX.true) (record { value = (refl, tt); out_after = refl })

pub returns-then-not-good : goal.returns-then-not-good
unfolding shown_for shown_in LINES_MAX LIST_MAX
returns-then-not-good c = rw (le-ltb _ _ c.if-out-lt-LINES_MAX.false, sym c.good.ensures ∙ c.if-not-good.true) (record { value = (refl, tt); out_after = refl })

pub lay_lines-requires : goal.lay_lines-requires
unfolding LINES_MAX LIST_MAX
lay_lines-requires c = (sym c.good.ensures ∙ c.if-not-good.false, c.if-out-lt-LINES_MAX.false)

pub returns : goal.returns
unfolding shown_for shown_in LINES_MAX LIST_MAX
returns c = rw (
  le-ltb _ _ c.if-out-lt-LINES_MAX.false,
  sym c.good.ensures ∙ c.if-not-good.false,
  c.lay_lines.ensures.value.0,
) (record { value = (refl, omega (arith, c.lay_lines.ensures.value)); out_after = c.lay_lines.ensures.out_after })
