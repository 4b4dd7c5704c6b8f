-- `client::receive` meets its contract: the step with the PDU's event.
use mathlib.Core.Bool.{true}
use Rattle.reading.specs.Reading.{read_pdu}
use Rattle.client.specs.Client.{received}
use Rattle.client.proofs.Asking.{event_asked_law}
use Rattle.client.proofs.receive.Goals as goal

pub returns : goal.returns
unfolding received
returns c =
    let a = c.args in
    rw (← event_asked_law a.list.now a.pdu.now (read_pdu true a.pdu.now), ← c.heard.ensures) c.step.ensures
