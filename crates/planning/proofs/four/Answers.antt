-- `planning::four` meets its contract: each field is laid behind the one before.
use Rattle.std.proofs.Common.{arith}
use Rattle.lines.proofs.Lays.{then, at_most}
use Rattle.planning.specs.Lines.{four_line}
use Rattle.planning.proofs.four.Goals as goal

pub returns : goal.returns
unfolding four_line
returns c = at_most _ (then (then (then c.field.ensures c.field-2.ensures) c.field-3.ensures) c.field-4.ensures) (omega arith)
