-- `reading::numbered` meets its contract: its tests are the definition's, and the number is read in the width of cbId.
use mathlib.Core.Path.{◌≡◌, sym, ◌∙◌}
use mathlib.Core.Bool.{false}
use borrow.Author.Tests.{ne_eqb, le-ltb}
use Rattle.numbers.proofs.Widths.{width_le}
use Rattle.reading.specs.Reading.{numbered, bad_length_width}
use Rattle.reading.specs.Strict.{loose_numbered}
use Rattle.reading.proofs.Judged.{is_refused_law}
use Rattle.lists.proofs.Cases.{tests}
use native.Mathlib.Omega.{arith}
use Rattle.reading.proofs.numbered.Goals as goal

pub returns-then-cb_id-eq3 : goal.returns-then-cb_id-eq3
unfolding numbered
returns-then-cb_id-eq3 c = let both = is_refused_law _ _ c.refused.ensures.0 (search tests) in record { answer_value = both.0; result_value = both.1 }

pub returns-then-bad_length_width : goal.returns-then-bad_length_width
unfolding numbered
returns-then-bad_length_width c = let both = is_refused_law _ _ c.refused-then-bad_length_width.ensures.0 (search (tests, sym c.bad_length_width.ensures ∙ c.if-bad_length_width.true)) in record { answer_value = both.0; result_value = both.1 }

pub overflow_add-width : goal.overflow_add-width
overflow_add-width c = omega (arith, c.width-width.ensures, width_le c.args.cb_id)

pub returns-then-pdu-width : goal.returns-then-pdu-width
unfolding numbered
returns-then-pdu-width c =
    let good_widths : bad_length_width c.args.cmd
    c.args.middle ≡ false = sym c.bad_length_width.ensures ∙ c.if-bad_length_width.false in
    let both = is_refused_law _ _ c.refused-then-pdu-width.ensures.0
    (rw (← c.width-width.ensures) (search (tests, good_widths))) in record { answer_value = both.0; result_value = both.1 }

pub number_at-requires : goal.number_at-requires
number_at-requires c = omega (arith, c.width-width.ensures, width_le c.args.cb_id)

pub after_number-requires : goal.after_number-requires
after_number-requires c = omega (
  arith,
  c.width-width.ensures,
  width_le c.args.cb_id,
)

pub returns : goal.returns
unfolding numbered loose_numbered
returns c =
    let good_widths : bad_length_width c.args.cmd
    c.args.middle ≡ false = sym c.bad_length_width.ensures ∙ c.if-bad_length_width.false in
    let got = rw c.number_at.ensures at c.after_number.ensures in
    rw (← c.width-width.ensures)
    (rw (ne_eqb _ _ c.if-cb_id-eq3.false, good_widths, le-ltb _ _ c.if-pdu-width.false) got)
