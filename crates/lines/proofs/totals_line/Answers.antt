-- `lines::totals_line` meets its contract: each field is laid behind the one before.
use Rattle.std.proofs.Common.{arith, rules}
use Rattle.lines.specs.Lines.{totals_line_of}
use Rattle.lines.proofs.Lays.{then}
use Rattle.lines.proofs.totals_line.Goals as goal

pub returns-clause-value : goal.returns-clause-value
unfolding totals_line_of
returns-clause-value c = let w = then (then c.field.ensures c.field-2.ensures) c.field-3.ensures in omega (arith, w.at, w.within)

pub returns-clause-out_after : goal.returns-clause-out_after
unfolding totals_line_of
returns-clause-out_after c = search (rules, then (then c.field.ensures c.field-2.ensures) c.field-3.ensures)
