-- `judge::judge` meets its contract: each arm is a case of the definition.
use Rattle.judge.specs.Judge.{course_after}
use Rattle.judge.proofs.judge.Goals as goal

pub returns-in-Going : goal.returns-in-Going
returns-in-Going c = rw c.in-Going.is c.goes.ensures

pub returns-in-Handed : goal.returns-in-Handed
unfolding course_after
returns-in-Handed c = rw c.in-Handed.is

pub returns-in-Faulty : goal.returns-in-Faulty
unfolding course_after
returns-in-Faulty c = rw c.in-Faulty.is
