-- `linklog::turn` meets its contract: the reader is judged, then the block, and a good one is entered.
use mathlib.Core.Path.{sym, ap, ◌∙◌}
use native.Mathlib.Omega.{arith}
use Rattle.numbers.proofs.Widths.{value_below}
use Rattle.blocks.specs.Block.{number_in}
use Rattle.blocks.proofs.Judged.{good_says, uses_le}
use Rattle.linklog.proofs.Readers.{no_reader, bad_turn, good_turn}
use Rattle.linklog.proofs.turn.Goals as goal
use Rattle.std.specs.Prelude.{Ok}

pub returns-then-not-is_reader : goal.returns-then-not-is_reader
returns-then-not-is_reader c = let both = no_reader _ _ _ _ _ (sym c.is_reader.ensures ∙ c.if-not-is_reader.true) in record { value = both.0; room_after = both.1 }

pub returns-then-not-good : goal.returns-then-not-good
returns-then-not-good c =
    -- what is said of the block
    let judged = sym (rw c.is_last_of.ensures at c.good.ensures) in
    let bad = bad_turn _ _ _ _ _ (sym c.is_reader.ensures ∙ c.if-not-is_reader.false)
    (judged ∙ c.if-not-good.true) in
    record { value = ap Ok c.seeking.ensures ∙ bad.0; room_after = bad.1 }

pub enter-requires : goal.enter-requires
enter-requires c = sym c.is_reader.ensures ∙ c.if-not-is_reader.false

pub invariant_of-enter : goal.invariant_of-enter
unfolding number_in
invariant_of-enter c =
    let a = c.args in
    let judged = sym (rw c.is_last_of.ensures at c.good.ensures) in
    let says = good_says _ _ a.block.now (judged ∙ c.if-not-good.false) in
    let small = value_below a.block.now 0 2 (omega arith) (λ i. (c.type_inv.block i).fits) in
    record { numbered = omega (arith, says.2, small); long = says.0; fits = uses_le _ _ says.3; begins = says.4 }

pub returns : goal.returns
returns c =
    let judged = sym (rw c.is_last_of.ensures at c.good.ensures) in
    let good = good_turn _ _ _ _ _ (sym c.is_reader.ensures ∙ c.if-not-is_reader.false)
    (judged ∙ c.if-not-good.false) in
    let done = c.enter.ensures in
    record { value = ap Ok done.value ∙ good.0; room_after = done.room_after ∙ good.1 }
