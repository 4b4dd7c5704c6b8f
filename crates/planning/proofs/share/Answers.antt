-- `planning::share` meets its contract: within the limit the set's line is laid, and its shares are added.
use Rattle.std.proofs.Common.{refl, rules, lt-ltb}
use Rattle.paper.specs.Sizes.{SETS_MAX}
use Rattle.planning.specs.Sets.{charges_in}
use Rattle.planning.specs.Lines.{shares_line}
use Rattle.planning.specs.Course.{course_after, line_for}
use Rattle.planning.proofs.Sets.{sets_max}
use Rattle.planning.proofs.share.Goals as goal

pub returns : goal.returns
unfolding course_after line_for shares_line charges_in SETS_MAX
returns c =
    let a = c.args in
    let line = rw (c.from.ensures, c.from-2.ensures, c.from-3.ensures, c.from-4.ensures, c.shares_of-shares.ensures, c.charges_at.ensures) at c.four.ensures in
    rw (lt-ltb a.course.sets SETS_MAX (search rules), c.add.ensures, c.shares_of-shares.ensures, c.charges_at.ensures)
    (record { course_value = refl; line = line })

pub overflow_add-result : goal.overflow_add-result
overflow_add-result c = search (rules, sets_max)
