-- `shore::receive` meets its contract: the step with the PDU's event.
use mathlib.Core.Bool.{false}
use Rattle.reading.specs.Reading.{read_pdu}
use Rattle.shore.specs.Shore.{received}
use Rattle.shore.proofs.Asking.{event_heard}
use Rattle.shore.proofs.receive.Goals as goal

pub returns : goal.returns
unfolding received
returns c =
    let a = c.args in
    rw (← event_heard a.pdu.now (read_pdu false a.pdu.now), ← c.hear.ensures) c.step.ensures
