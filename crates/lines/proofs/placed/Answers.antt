-- `lines::placed` meets its contract: the word is laid behind the place.
use Rattle.std.proofs.Common.{arith, rules}
use Rattle.lines.specs.Lines.{placed_line}
use Rattle.lines.proofs.Lays.{then}
use Rattle.lines.proofs.placed.Goals as goal

pub returns-clause-value : goal.returns-clause-value
unfolding placed_line
returns-clause-value c = let w = then c.field.ensures c.text.ensures in omega (arith, w.at, w.within)

pub returns-clause-out_after : goal.returns-clause-out_after
unfolding placed_line
returns-clause-out_after c = search (rules, then c.field.ensures c.text.ensures)
