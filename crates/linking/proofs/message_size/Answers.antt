-- `linking::message_size` meets its contract: the two bytes, or what is there of them.
use mathlib.Core.Path.{ap, ◌∙◌}
use Rattle.numbers.specs.Numbers.{value_of}
use Rattle.records.specs.Desk.{message_length}
use Rattle.lists.proofs.Lent.{part_lent}
use Rattle.linking.proofs.message_size.Goals as goal

pub returns : goal.returns
unfolding message_length
returns c =
    let a = c.args in
    c.number.ensures ∙ ap value_of (part_lent a.bytes.now 5 2 _ _ c.min-start.ensures c.min-end.ensures)
