-- `table::good_stages` meets its contract: the pass meets it, with or without the mark.
use mathlib.Core.Path.{sym, ◌∙◌}
use Rattle.lists.proofs.Cases.{true_not_false}
use Rattle.table.proofs.good_stages.Goals as goal

pub stages-requires : goal.stages-requires
stages-requires c = λ e. absurd (true_not_false e)

pub returns-then-some_awaited : goal.returns-then-some_awaited
returns-then-some_awaited c = c.stages.ensures

pub stages-requires-2 : goal.stages-requires-2
stages-requires-2 c = λ e. sym c.some_awaited.ensures ∙ c.if-some_awaited.false

pub returns : goal.returns
returns c = c.stages-2.ensures
