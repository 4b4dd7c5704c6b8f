-- `client::closing` meets its contract: a close by the host, with no block.
use Rattle.client.specs.Asking.{closing_of}
use Rattle.client.proofs.closing.Goals as goal

pub returns : goal.returns
unfolding closing_of
returns c = c.bare.ensures
