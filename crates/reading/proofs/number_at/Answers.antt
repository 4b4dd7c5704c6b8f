-- `reading::number_at` meets its contract: the part that it lends is the n bytes.
use mathlib.Core.Path.{ap, ◌∙◌}
use Rattle.numbers.specs.Numbers.{measured_of, value_at, wide_at}
use Rattle.lists.proofs.Laid.{from_to}
use Rattle.reading.proofs.number_at.Goals as goal

pub returns : goal.returns
unfolding value_at wide_at
returns c =
    let a = c.args in
    c.measure.ensures ∙ ap measured_of (from_to a.pdu.now a.at a.n)
