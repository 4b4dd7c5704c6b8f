-- `cutting::dvc_cut` meets its contract: the answer is the cutter's, packed, and its numbers are small enough for that.
use mathlib.Core.Path.{sym, ◌∙◌, ap, subst}
use Prim.Native.Nat.{◌≤◌}
use Rattle.paper.specs.Sizes.{PDU_MAX, MESSAGE_MAX}
use Rattle.cutting.specs.Cutting.{packed, LENGTH_UNIT}
use Rattle.cutting.proofs.Answers.{Possible, possible}
use native.Mathlib.Omega.{arith}
use Rattle.cutting.proofs.dvc_cut.Goals as goal

pub overflow_cast-result : goal.overflow_cast-result
unfolding PDU_MAX MESSAGE_MAX
overflow_cast-result c =
    let sizes : (2 ≤ c.in-Ok.piece.len)
    × ((c.in-Ok.piece.len ≤ PDU_MAX) × (c.in-Ok.piece.next ≤ MESSAGE_MAX)) = let a = c.args in
    subst Possible (sym c.cut.ensures.value ∙ c.in-Ok.is)
    (possible a.number a.message.now a.offset a.out.now) in
    omega (arith, sizes)

pub overflow_mul-result : goal.overflow_mul-result
unfolding PDU_MAX MESSAGE_MAX
overflow_mul-result c =
    let sizes : (2 ≤ c.in-Ok.piece.len)
    × ((c.in-Ok.piece.len ≤ PDU_MAX) × (c.in-Ok.piece.next ≤ MESSAGE_MAX)) = let a = c.args in
    subst Possible (sym c.cut.ensures.value ∙ c.in-Ok.is)
    (possible a.number a.message.now a.offset a.out.now) in
    omega (arith, sizes)

pub overflow_cast-result-in-Ok : goal.overflow_cast-result-in-Ok
unfolding PDU_MAX MESSAGE_MAX
overflow_cast-result-in-Ok c =
    let sizes : (2 ≤ c.in-Ok.piece.len)
    × ((c.in-Ok.piece.len ≤ PDU_MAX) × (c.in-Ok.piece.next ≤ MESSAGE_MAX)) = let a = c.args in
    subst Possible (sym c.cut.ensures.value ∙ c.in-Ok.is)
    (possible a.number a.message.now a.offset a.out.now) in
    omega (arith, sizes)

pub overflow_add-result : goal.overflow_add-result
unfolding PDU_MAX MESSAGE_MAX
overflow_add-result c =
    let sizes : (2 ≤ c.in-Ok.piece.len)
    × ((c.in-Ok.piece.len ≤ PDU_MAX) × (c.in-Ok.piece.next ≤ MESSAGE_MAX)) = let a = c.args in
    subst Possible (sym c.cut.ensures.value ∙ c.in-Ok.is)
    (possible a.number a.message.now a.offset a.out.now) in
    omega (arith, sizes)

pub returns-in-Ok : goal.returns-in-Ok
unfolding packed LENGTH_UNIT
returns-in-Ok c =
    let cut = c.cut.ensures in
    record { value = sym (ap packed (sym cut.value ∙ c.in-Ok.is)); out_after = cut.out_after }

pub returns-in-Err : goal.returns-in-Err
unfolding packed
returns-in-Err c =
    let cut = c.cut.ensures in
    record { value = c.refusal_number.ensures ∙ sym (ap packed (sym cut.value ∙ c.in-Err.is)); out_after = cut.out_after }
