use mathlib.Core.Path.{◌≡◌, sym, ◌∙◌}
use mathlib.Core.List.{List}
use Prim.Native.Nat.{ℕ, ◌+◌, ◌-◌, ◌≤◌, ◌<◌}
use lib.ListN.{length, take, drop, length-take, length-drop}
use Rattle.lists.proofs.Laid.{to_end, from_to}
use Rattle.records.specs.Records.{LENGTH}
use Rattle.std.specs.Prelude.{None, Some}
use Rattle.records.specs.Records.{found}
use Rattle.records.proofs.Found.{none_found, some_found}
use Rattle.logging.specs.Input.{input_whole}
use Rattle.logging.proofs.Inputs.{input_framing, input_head}
use Rattle.logging.proofs.Fills.{so_far_le}
use Rattle.logging.proofs.Walks.{begins, goes_on_law, ends_so}
use borrow.Author.Rules.{rules}
use native.Mathlib.Omega.{arith}
use Rattle.logging.proofs.walk.Goals as goal

-- the record in front is whole: it has its length, and its bytes are there
in_front : (input : List ℕ) (at n : ℕ) → at ≤ length input → Some n ≡ found (input_whole (take (length input - at) (drop at input)))
    → (n ≡ input_whole (drop at input)) × ((LENGTH ≤ n) × (at + n ≤ length input))
unfolding input_whole
in_front input at n within is =
    let some = some_found (input_whole (drop at input)) n (sym (rw (to_end input at) at is)) in
    let more : 0 < input_whole (drop at input) = omega (arith, some) in
    let head = input_head (drop at input) more in
    let fits = input_framing.fits (drop at input) in
    let long = length-drop at input in
    (some.0, (omega (arith, some, head), omega (arith, some, fits, long)))

-- and where none is
none_there : (input : List ℕ) (at : ℕ) → None ≡ found (input_whole (take (length input - at) (drop at input))) → input_whole (drop at input) ≡ 0
unfolding input_whole
none_there input at is = none_found (input_whole (drop at input)) (sym (rw (to_end input at) at is))

pub loop-n-init : goal.loop-n-init
loop-n-init c = begins _ _ _ _

pub slice_bounds-whole-count : goal.slice_bounds-whole-count
slice_bounds-whole-count c = omega (arith, c.loop-n.invariant.leads.0)

pub slice_bounds-whole-start : goal.slice_bounds-whole-start
slice_bounds-whole-start c = omega (arith, c.loop-n.invariant.leads.0)

pub slice_bounds-whole-end : goal.slice_bounds-whole-end
slice_bounds-whole-end c = omega (arith, c.loop-n.invariant.leads.0)

pub overflow_add-end : goal.overflow_add-end
overflow_add-end c =
    let front = in_front c.args.input.now c.loop-n.at _ c.loop-n.invariant.leads.0 (sym c.in-Some.is ∙ c.whole.ensures.value) in
    omega (arith, front)

pub slice_bounds-step-count : goal.slice_bounds-step-count
slice_bounds-step-count c =
    let front = in_front c.args.input.now c.loop-n.at _ c.loop-n.invariant.leads.0 (sym c.in-Some.is ∙ c.whole.ensures.value) in
    omega (arith, front)

pub slice_bounds-step-start : goal.slice_bounds-step-start
slice_bounds-step-start c =
    let front = in_front c.args.input.now c.loop-n.at _ c.loop-n.invariant.leads.0 (sym c.in-Some.is ∙ c.whole.ensures.value) in
    omega (arith, front)

pub slice_bounds-step-end : goal.slice_bounds-step-end
slice_bounds-step-end c =
    let front = in_front c.args.input.now c.loop-n.at _ c.loop-n.invariant.leads.0 (sym c.in-Some.is ∙ c.whole.ensures.value) in
    omega (arith, front)

pub step-stepped-requires : goal.step-stepped-requires
step-stepped-requires c =
    let front = in_front c.args.input.now c.loop-n.at _ c.loop-n.invariant.leads.0 (sym c.in-Some.is ∙ c.whole.ensures.value) in
    let at = c.loop-n.at in
    let input = c.args.input.now in
    let n = c.in-Some.n in
    rw (from_to input at n, length-take n (drop at input), length-drop at input) (omega (arith, front))

pub overflow_add-used : goal.overflow_add-used
overflow_add-used c =
    let front = in_front c.args.input.now c.loop-n.at _ c.loop-n.invariant.leads.0 (sym c.in-Some.is ∙ c.whole.ensures.value) in
    let l = c.loop-n in
    let a = c.args in
    let step = rw (from_to a.input.now l.at c.in-Some.n) at c.step-stepped.ensures in
    let on =
    goes_on_law a.course a.input.now a.room.now a.out.now l.room l.out l.next l.at l.used l.invariant c.in-Some.n front.0 (omega (arith, front))
    front.1.1 _ _ _ _ step.course_value.0 step.course_value.1 step.room_after step.out_after (search rules) in
    omega (arith, on.filled, on.leads.0, so_far_le a.course.log a.room.now)

pub loop-n-smaller : goal.loop-n-smaller
loop-n-smaller c =
    let front = in_front c.args.input.now c.loop-n.at _ c.loop-n.invariant.leads.0 (sym c.in-Some.is ∙ c.whole.ensures.value) in
    omega (arith, front)

pub loop-n-preserved : goal.loop-n-preserved
loop-n-preserved c =
    let front = in_front c.args.input.now c.loop-n.at _ c.loop-n.invariant.leads.0 (sym c.in-Some.is ∙ c.whole.ensures.value) in
    let l = c.loop-n in
    let a = c.args in
    let step = rw (from_to a.input.now l.at c.in-Some.n) at c.step-stepped.ensures in
    let on =
    goes_on_law a.course a.input.now a.room.now a.out.now l.room l.out l.next l.at l.used l.invariant c.in-Some.n front.0 (omega (arith, front))
    front.1.1 _ _ _ _ step.course_value.0 step.course_value.1 step.room_after step.out_after (search rules) in
    on

pub returns : goal.returns
returns c =
    let l = c.loop-n in
    let a = c.args in
    let input = a.input.now in
    let none = none_there input l.at (sym c.in_default.is ∙ c.whole.ensures.value) in
    let end = ends_so a.course input a.room.now a.out.now l.room l.out l.next l.at l.used l.invariant none in
    record { course_value = end.0; taken_value = end.1.0; room_after = end.1.1.0; out_after = end.1.1.1 }
