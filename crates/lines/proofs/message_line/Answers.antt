-- `lines::message_line` meets its contract: each field is laid behind the one before.
use Rattle.std.proofs.Common.{arith, rules}
use Rattle.paper.specs.Sizes.{MESSAGE_MAX}
use Rattle.lines.specs.Lines.{message_line_of, MESSAGE_LINE_MAX}
use Rattle.lines.proofs.Lays.{then}
use Rattle.lines.proofs.message_line.Goals as goal

pub returns-clause-value : goal.returns-clause-value
unfolding message_line_of MESSAGE_LINE_MAX MESSAGE_MAX
returns-clause-value c =
    let w = then (then (then c.field.ensures c.field-2.ensures) c.bytes.ensures) c.text.ensures in
    omega (arith, w.at, w.within)

pub returns-clause-out_after : goal.returns-clause-out_after
unfolding message_line_of MESSAGE_MAX
returns-clause-out_after c = search (rules, then (then (then c.field.ensures c.field-2.ensures) c.bytes.ensures) c.text.ensures)
