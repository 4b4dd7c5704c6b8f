-- `shore_face::dvc_shore_local_close` meets its contract: the call with the close's event.
use mathlib.Core.List.{[]}
use Rattle.shore_face.specs.Face.{asked_by}
use Rattle.shore_face.proofs.Calls.{closes}
use Rattle.shore_face.proofs.dvc_shore_local_close.Goals as goal

pub returns : goal.returns
unfolding asked_by
returns c =
    let a = c.args in
    let did = c.call.ensures in
    rw (closes a.state.now a.store.now [] a.number a.reply.now) (record { value = did.value; state_after = did.state_after; store_after = did.store_after; reply_after = did.reply_after })
