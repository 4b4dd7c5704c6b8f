-- `client::local_close` meets its contract: the step with the close's event.
use Rattle.client.specs.Client.{locally_closed}
use Rattle.client.proofs.Asking.{event_closing}
use Rattle.client.proofs.local_close.Goals as goal

pub returns : goal.returns
unfolding locally_closed
returns c = rw (c.closing.ensures, event_closing) at c.step.ensures
