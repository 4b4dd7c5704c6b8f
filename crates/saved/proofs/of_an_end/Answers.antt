-- `saved::of_an_end` meets its contract.
use mathlib.Core.Path.{sym, ◌∙◌}
use Rattle.saved.proofs.of_an_end.Goals as goal

pub returns-then-good_head : goal.returns-then-good_head
returns-then-good_head c = sym (rw (sym c.good_head.ensures ∙ c.if-good_head.true))

pub returns : goal.returns
returns c = sym (rw (sym c.good_head.ensures ∙ c.if-good_head.false) (sym c.good_head-2.ensures))
