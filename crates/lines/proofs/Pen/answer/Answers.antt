-- `Pen::answer` meets its contract: each field is laid behind the one before.
use Rattle.std.proofs.Common.{arith}
use Rattle.lines.specs.Lines.{ANSWER_MAX, fields_text}
use Rattle.lines.proofs.Lays.{then, at_most}
use Rattle.lines.proofs.Pen.answer.Goals as goal

pub returns : goal.returns
unfolding fields_text
returns g c =
    let w = then (then (then c.text.ensures c.channel.ensures) c.field.ensures) c.field-2.ensures in
    rw (c.word.ensures.value, c.concern.ensures, c.number.ensures) at (at_most ANSWER_MAX w (omega (arith, c.word.ensures.within)))
