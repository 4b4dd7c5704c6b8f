-- `logging::close_line` meets its contract: the number is laid behind the word.
use mathlib.Core.Path.{ap, ◌∙◌}
use Rattle.lists.proofs.Laid.{to_end}
use Rattle.numbers.specs.Numbers.{value_of}
use Rattle.records.specs.Records.{LENGTH}
use Rattle.lines.proofs.Lays.{then}
use Rattle.logging.specs.Lines.{entry_line}
use Rattle.logging.proofs.Inputs.{number_behind}
use Rattle.logging.proofs.close_line.Goals as goal

pub returns : goal.returns
unfolding entry_line
returns c =
    let bytes = c.args.bytes.now in
    let number = c.number-number.ensures ∙ ap value_of (to_end bytes LENGTH) ∙ number_behind bytes in
    then c.text.ensures (rw (c.from.ensures ∙ number) at c.field.ensures)
