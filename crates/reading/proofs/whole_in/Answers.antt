-- `reading::whole_in` meets its contract: its tests are the definition's, and the number is read in the width of the code.
use Rattle.std.specs.Prelude.{Some}
use mathlib.Core.Path.{ap}
use borrow.Author.Tests.{ne_eqb}
use Rattle.numbers.specs.declared.Measured.{Measured}
use Rattle.numbers.proofs.Widths.{width_le}
use Rattle.reading.specs.Garbled.{whole_in}
use Rattle.reading.proofs.Garbled.{too_few, all_there}
use Rattle.lists.proofs.Cases.{tests}
use native.Mathlib.Omega.{arith}
use Rattle.reading.proofs.whole_in.Goals as goal

pub returns-then-code-eq3 : goal.returns-then-code-eq3
unfolding whole_in
returns-then-code-eq3 c = search tests

pub returns-then-pdu-width : goal.returns-then-pdu-width
unfolding whole_in
returns-then-pdu-width c = rw (← c.width-width.ensures, too_few _ _ c.if-pdu-width.true) (search tests)

pub number_at-number-requires : goal.number_at-number-requires
number_at-number-requires c = omega (arith, c.width-width.ensures, width_le c.args.code)

pub returns : goal.returns
unfolding whole_in
returns c = rw (← c.width-width.ensures)
    (rw (ne_eqb _ _ c.if-code-eq3.false, all_there _ _ c.if-pdu-width.false) (ap (λ (m : Measured). Some m.value) c.number_at-number.ensures))
