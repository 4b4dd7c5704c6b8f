-- `cutting::cut` meets its contract: its refusals are in the definition's order, and at a start the PDU is laid.
use mathlib.Core.Path.{refl, sym, ◌∙◌}
use lib.ListN.{length}
use Rattle.paper.specs.Sizes.{PDU_MAX, MESSAGE_MAX}
use Rattle.cutting.proofs.Starts.{start_within}
use Rattle.cutting.proofs.Answers.{short_buffer, long_message, no_start, lays}
use Rattle.cutting.proofs.cut.Goals as goal

pub returns-then-out-lt-PDU_MAX : goal.returns-then-out-lt-PDU_MAX
unfolding PDU_MAX
returns-then-out-lt-PDU_MAX c = let both = short_buffer _ _ _ _ c.if-out-lt-PDU_MAX.true in record { value = both.0; out_after = both.1 }

pub returns-then-message-gt-MESSAGE_MAX : goal.returns-then-message-gt-MESSAGE_MAX
unfolding PDU_MAX MESSAGE_MAX
returns-then-message-gt-MESSAGE_MAX c = let both = long_message _ _ _ _ c.if-out-lt-PDU_MAX.false c.if-message-gt-MESSAGE_MAX.true in record { value = both.0; out_after = both.1 }

pub returns-then-not-is_start : goal.returns-then-not-is_start
unfolding PDU_MAX MESSAGE_MAX
returns-then-not-is_start c =
    let not_met = sym c.is_start.ensures ∙ c.if-not-is_start.true in
    let both = no_start _ _ _ _ c.if-out-lt-PDU_MAX.false c.if-message-gt-MESSAGE_MAX.false not_met in record { value = both.0; out_after = both.1 }

pub lay-requires : goal.lay-requires
unfolding MESSAGE_MAX
lay-requires c =
    let a = c.args in
    let met = sym c.is_start.ensures ∙ c.if-not-is_start.false in
    (refl, start_within a.number (length a.message.now) a.offset met)

pub returns : goal.returns
unfolding PDU_MAX MESSAGE_MAX
returns c =
    let met = sym c.is_start.ensures ∙ c.if-not-is_start.false in
    let both = lays _ _ _ _ c.if-out-lt-PDU_MAX.false
    c.if-message-gt-MESSAGE_MAX.false met c.lay.ensures.value
    c.lay.ensures.out_after in record { value = both.0; out_after = both.1 }
