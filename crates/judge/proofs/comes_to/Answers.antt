-- `judge::comes_to` meets its contract: each arm is a case of the definition.
use Rattle.judge.specs.Judge.{judgement_on}
use Rattle.std.proofs.Common.{rules}
use Rattle.judge.proofs.comes_to.Goals as goal

pub returns-then-same : goal.returns-then-same
unfolding judgement_on
returns-then-same c = search rules

pub returns-in-Going : goal.returns-in-Going
unfolding judgement_on
returns-in-Going c = search rules

pub returns-else-same : goal.returns-else-same
unfolding judgement_on
returns-else-same c = search rules

pub returns-in-Faulty : goal.returns-in-Faulty
unfolding judgement_on
returns-in-Faulty c = rw c.in-Faulty.is
