-- `lines::answer` meets its contract: the fields are laid at the front.
use Rattle.std.proofs.Common.{arith, rules}
use Rattle.lines.specs.Lines.{answer_fields}
use Rattle.lines.proofs.answer.Goals as goal

pub returns-clause-value : goal.returns-clause-value
unfolding answer_fields
returns-clause-value c = let w = c.answer.ensures in omega (arith, w.at, w.within)

pub returns-clause-out_after : goal.returns-clause-out_after
unfolding answer_fields
returns-clause-out_after c = search (rules, c.answer.ensures)
