-- `planning::begin` meets its contract: field by field.
use Rattle.std.proofs.Common.{refl}
use Rattle.planning.specs.Course.{start_course}
use Rattle.planning.proofs.begin.Goals as goal

pub returns : goal.returns
unfolding start_course
returns c = refl
