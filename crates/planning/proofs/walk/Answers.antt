use Rattle.std.proofs.Common.{arith, rules, ◌∙◌}
use Rattle.lines.proofs.Lays.{writes}
use Rattle.planning.proofs.Sets.{sets_max}
use Rattle.planning.proofs.Walks.{goes, goes_on, goes_to}
use Rattle.planning.proofs.walk.Goals as goal

pub loop-set-init : goal.loop-set-init
loop-set-init c =
    let set = c.chunks_exact-set-items.ensures in
    rw (c.into_iter-set-iterator.ensures.into_iter_gives, set.rest) (set.size, goes c.args.course c.args.input.now _)

pub step-next-requires : goal.step-next-requires
step-next-requires c =
    let wrote = c.loop-set.invariant.1.left.wrote in
    omega (arith, sets_max, wrote.at, wrote.within)

pub loop-set-preserved : goal.loop-set-preserved
loop-set-preserved c =
    let steps = c.in-Some.ensures.steps in
    let so_far = c.loop-set.invariant in
    let done = c.step-next.ensures in
    let wrote = so_far.1.left.wrote in
    let line = writes done.line (omega (arith, sets_max, wrote.at, wrote.within)) in
    (steps.0 ∙ so_far.0, goes_on _ _ so_far.1 steps.1.0 (steps.1.1 ∙ so_far.0) done.course_value line)

pub returns-clause-course_value : goal.returns-clause-course_value
returns-clause-course_value c =
    let end = goes_to c.loop-set.invariant.1 (omega (arith, c.in-None.ensures.steps.1.0, c.loop-set.invariant.0)) in
    let w = end.2.0 in
    (end.0, (omega (arith, w.at), omega (arith, w.at, end.2.1)))

pub returns-clause-taken_value : goal.returns-clause-taken_value
returns-clause-taken_value c = (goes_to c.loop-set.invariant.1 (omega (arith, c.in-None.ensures.steps.1.0, c.loop-set.invariant.0))).1

pub returns-clause-out_after : goal.returns-clause-out_after
returns-clause-out_after c = search (rules, (goes_to c.loop-set.invariant.1 (omega (arith, c.in-None.ensures.steps.1.0, c.loop-set.invariant.0))).2.0)
