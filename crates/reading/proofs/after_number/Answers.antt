-- `reading::after_number` meets its contract: by command and direction, each arm is its own stage.
use mathlib.Core.Path.{◌≡◌, refl, sym}
use mathlib.Core.Bool.{false, not, ◌||◌}
use borrow.Author.Tests.{ne_eqb}
use lib.Dec.{eqb}
use Rattle.paper.specs.Commands.{CREATE}
use Rattle.numbers.proofs.Widths.{width_le}
use Rattle.reading.specs.Reading.{after_number}
use Rattle.reading.specs.Strict.{has_sp, loose_after}
use Rattle.reading.proofs.Judged.{is_found, loose_request, loose_first, loose_sp, has_sp_law}
use Rattle.lists.proofs.Cases.{tests}
use native.Mathlib.Omega.{arith}
use Rattle.reading.proofs.after_number.Goals as goal

pub returns-then-from_server : goal.returns-then-from_server
unfolding after_number
returns-then-from_server c =
    let both = is_found _ (rw (c.if-cmd-eq-CREATE.true, c.if-from_server.true) c.create_request-answer.ensures)
    (rw (c.if-cmd-eq-CREATE.true, c.if-from_server.true) (sym (loose_request _ _ _ _))) in record { answer_value = both.0; result_value = both.1 }

pub returns-then-cmd-eq-CREATE : goal.returns-then-cmd-eq-CREATE
unfolding after_number has_sp
returns-then-cmd-eq-CREATE c =
    let both = is_found _ (rw (c.if-cmd-eq-CREATE.true, c.if-from_server.false) c.create_response-answer.ensures)
    (rw (c.if-cmd-eq-CREATE.true, c.if-from_server.false) (sym (loose_sp _ _ _ _ false CREATE refl refl))) in record { answer_value = both.0; result_value = both.1 }

pub data_first-requires : goal.data_first-requires
data_first-requires c = omega (arith, c.width.ensures, width_le c.args.middle)

pub returns-then-cmd-eq-DATA_FIRST : goal.returns-then-cmd-eq-DATA_FIRST
unfolding after_number
returns-then-cmd-eq-DATA_FIRST c = rw c.if-cmd-eq-DATA_FIRST.true
    (rw (loose_first _ _ _ _ _, ← c.width.ensures) c.data_first.ensures)

pub returns-then-cmd-eq-DATA : goal.returns-then-cmd-eq-DATA
unfolding after_number
returns-then-cmd-eq-DATA c =
    let by_sp : let a = c.args in
    loose_after a.from_server a.pdu.now a.cmd a.middle a.number.wide a.at ≡ (a.number.wide || not (eqb a.middle 0)) = loose_sp _ _ _ _ _ _ (ne_eqb _ _ c.if-cmd-eq-DATA_FIRST.false) (has_sp_law _ _ c.if-cmd-eq-CREATE.false c.if-cmd-eq-DATA_FIRST.false) in
    let both = is_found _ (search tests) (sym (by_sp)) in record { answer_value = both.0; result_value = both.1 }

pub returns : goal.returns
unfolding after_number
returns c =
    let by_sp : let a = c.args in
    loose_after a.from_server a.pdu.now a.cmd a.middle a.number.wide a.at ≡ (a.number.wide || not (eqb a.middle 0)) = loose_sp _ _ _ _ _ _ (ne_eqb _ _ c.if-cmd-eq-DATA_FIRST.false) (has_sp_law _ _ c.if-cmd-eq-CREATE.false c.if-cmd-eq-DATA_FIRST.false) in
    let both = is_found _ (search (tests, c.closing-answer.ensures)) (sym (by_sp)) in record { answer_value = both.0; result_value = both.1 }
