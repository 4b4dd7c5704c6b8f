-- `shore::local_close` meets its contract: the step with the close's event.
use Rattle.shore.specs.Shore.{locally_closed}
use Rattle.shore.proofs.Asking.{event_closing}
use Rattle.shore.proofs.local_close.Goals as goal

pub returns : goal.returns
unfolding locally_closed
returns c = rw (c.closing.ensures, event_closing) at c.step.ensures
