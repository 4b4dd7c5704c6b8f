-- `shore::start` meets its contract: the client's Start, and no request yet.
use Rattle.client.specs.Client.{started as clientStarted}
use Rattle.shore.specs.Shore.{started}
use Rattle.shore.proofs.start.Goals as goal

pub returns : goal.returns
unfolding started clientStarted
returns c = record { value = rw c.start-started.ensures.value; store_after = c.start-started.ensures.store_after }
