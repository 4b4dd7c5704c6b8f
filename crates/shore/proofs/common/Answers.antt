-- `shore::common` meets its contract: what was decided, said at this end.
use Rattle.shore.specs.Deciding.{as_common}
use Rattle.shore.proofs.common.Goals as goal

pub returns : goal.returns
unfolding as_common
returns c = rw c.said_as.ensures
