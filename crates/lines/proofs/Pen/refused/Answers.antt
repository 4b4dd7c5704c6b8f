-- `Pen::refused` meets its contract: the number is laid behind the word.
use Rattle.std.proofs.Common.{arith}
use Rattle.lines.specs.Lines.{refused_line, word_field}
use Rattle.lines.proofs.Lays.{then, at_most}
use Rattle.lines.proofs.Pen.refused.Goals as goal

pub returns : goal.returns
unfolding refused_line word_field
returns c = at_most _ (then c.text.ensures c.field.ensures) (omega arith)
