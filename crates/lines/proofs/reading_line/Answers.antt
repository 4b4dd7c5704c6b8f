-- `lines::reading_line` meets its contract: what reading said is laid behind the place.
use Rattle.std.proofs.Common.{arith, rules}
use Rattle.lines.specs.Lines.{reading_line_of}
use Rattle.lines.proofs.Lays.{then}
use Rattle.lines.proofs.reading_line.Goals as goal

pub returns-clause-value : goal.returns-clause-value
unfolding reading_line_of
returns-clause-value c = let w = then c.field.ensures c.verdict.ensures in omega (arith, w.at, w.within)

pub returns-clause-out_after : goal.returns-clause-out_after
unfolding reading_line_of
returns-clause-out_after c = search (rules, then c.field.ensures c.verdict.ensures)
