-- `table::sound` meets its contract: its tests are the definition's, in another order.
use mathlib.Core.Path.{sym, ◌∙◌}
use Rattle.table.proofs.Soundness.{in_order}
use Rattle.table.proofs.sound.Goals as goal

pub returns-then-not-good_numbers : goal.returns-then-not-good_numbers
returns-then-not-good_numbers c =
    let a = c.args in
    let numbers = sym c.good_numbers.ensures ∙ c.if-not-good_numbers.true in
    sym (in_order a.table ∙ rw numbers)

pub returns-then-not-good_seats : goal.returns-then-not-good_seats
returns-then-not-good_seats c =
    let a = c.args in
    let numbers = sym c.good_numbers.ensures ∙ c.if-not-good_numbers.false in
    let seats = sym c.good_seats.ensures ∙ c.if-not-good_seats.true in
    sym (in_order a.table ∙ rw (numbers, seats))

pub returns-then-not-good_stages : goal.returns-then-not-good_stages
returns-then-not-good_stages c =
    let numbers = sym c.good_numbers.ensures ∙ c.if-not-good_numbers.false in
    let seats = sym c.good_seats.ensures ∙ c.if-not-good_seats.false in
    let stages = sym c.good_stages.ensures ∙ c.if-not-good_stages.true in
    sym (in_order c.args.table ∙ rw (numbers, seats, stages))

pub returns : goal.returns
returns c =
    let numbers = sym c.good_numbers.ensures ∙ c.if-not-good_numbers.false in
    let seats = sym c.good_seats.ensures ∙ c.if-not-good_seats.false in
    let stages = sym c.good_stages.ensures ∙ c.if-not-good_stages.false in
    c.good_level.ensures ∙ sym (in_order c.args.table ∙ rw (numbers, seats, stages))
