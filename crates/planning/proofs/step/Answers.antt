-- `planning::step` meets its contract: behind the limit nothing is laid, and within it `share` does what is asked.
use Rattle.std.proofs.Common.{refl, arith, rules, le-ltb}
use Rattle.paper.specs.Sizes.{SETS_MAX}
use Rattle.lines.proofs.Lays.{nothing, at_most}
use Rattle.planning.specs.Course.{course_after, line_for}
use Rattle.planning.proofs.Sets.{sets_max}
use Rattle.planning.proofs.step.Goals as goal

pub returns-then-course-ge-SETS_MAX : goal.returns-then-course-ge-SETS_MAX
unfolding course_after line_for
returns-then-course-ge-SETS_MAX c =
    let a = c.args in
    rw (le-ltb a.course.sets SETS_MAX (omega (arith, sets_max, c.if-course-ge-SETS_MAX.true)), sets_max) (record { course_value = refl; line = at_most _ (nothing a.pen.now (omega arith) (omega (arith, sets_max))) (omega arith) })

pub share-requires : goal.share-requires
share-requires c = (omega (arith, sets_max, c.if-course-ge-SETS_MAX.false), search rules)
