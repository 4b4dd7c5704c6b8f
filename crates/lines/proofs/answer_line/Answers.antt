-- `lines::answer_line` meets its contract: the fields of the answer are laid behind the place.
use Rattle.std.proofs.Common.{arith, rules}
use Rattle.lines.specs.Lines.{answer_line}
use Rattle.lines.proofs.Lays.{then}
use Rattle.lines.proofs.answer_line.Goals as goal

pub returns-clause-value : goal.returns-clause-value
unfolding answer_line
returns-clause-value g c = let w = then c.field.ensures c.answer.ensures in omega (arith, w.at, w.within)

pub returns-clause-out_after : goal.returns-clause-out_after
unfolding answer_line
returns-clause-out_after g c = search (rules, then c.field.ensures c.answer.ensures)
