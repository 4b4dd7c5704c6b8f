-- `shore::closing` meets its contract: a close by the host, with no block.
use Rattle.shore.specs.Asking.{closing_of}
use Rattle.shore.proofs.closing.Goals as goal

pub returns : goal.returns
unfolding closing_of
returns c = c.bare.ensures
