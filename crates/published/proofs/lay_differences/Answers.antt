use Rattle.std.proofs.Common.{◌≤◌, length, arith, ◌∙◌, ap}
use Rattle.lists.proofs.Laid.{back_end}
use Rattle.published.specs.Claims.{claim_in}
use Rattle.published.specs.Comparing.{COMPARED_MAX}
use Rattle.published.proofs.Files.{on_first, on_long, on_end, on_next}
use Rattle.published.proofs.lay_differences.Goals as goal

pub loop-k-init : goal.loop-k-init
loop-k-init c = on_first c.args.file.now c.args.out.now c.requires.0

pub slice_bounds-difference-count : goal.slice_bounds-difference-count
unfolding COMPARED_MAX
slice_bounds-difference-count c = let on = c.loop-k.invariant in omega (arith, on_long _ _ _ _ _ _ on, on.few, c.loop-k-test.true, c.requires.1)

pub slice_bounds-difference-start : goal.slice_bounds-difference-start
unfolding COMPARED_MAX
slice_bounds-difference-start c = let on = c.loop-k.invariant in omega (arith, on_long _ _ _ _ _ _ on, on.few, c.loop-k-test.true, c.requires.1)

pub overflow_add-used : goal.overflow_add-used
overflow_add-used c = omega (arith, c.difference-used.ensures.value.1, c.loop-k.invariant.few, c.loop-k-test.true)

pub loop-k-preserved : goal.loop-k-preserved
unfolding COMPARED_MAX
loop-k-preserved c =
    let l = c.loop-k in
    let on = l.invariant in
    let did = c.difference-used.ensures in
    let claim = c.claim_in.ensures ∙ ap (claim_in l.k) c.first_line.ensures.line in
    let room : l.used ≤ length l.out = omega (arith, on_long _ _ _ _ _ _ on, on.few, c.loop-k-test.true, c.requires.1) in
    rw c.first_line.ensures.behind
    (on_next _ _ _ _ _ _ on c.loop-k-test.true _ _ _ claim did.value.0 did.value.1 (back_end l.out l.used _ _ room did.out_after))

pub returns : goal.returns
unfolding COMPARED_MAX
returns c =
    let on = c.loop-k.invariant in
    rw (on_end _ _ _ _ _ _ on (omega arith)) (record { value = (on.used_is, omega (arith, on.few)); out_after = on.so_far })
