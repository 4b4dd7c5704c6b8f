-- `client_face::dvc_local_close` meets its contract: the call with what the close asks.
use Rattle.client_face.proofs.Calls.{closes_face, face_is}
use Rattle.client_face.specs.Face.{asked_by}
use Rattle.client_face.proofs.dvc_local_close.Goals as goal

pub returns : goal.returns
unfolding asked_by
returns c =
    let a = c.args in
    let e = c.call.ensures in
    let both = face_is _ _ _ _ _ _ (closes_face a.state.now a.store.now a.number a.reply.now) (e.value, (e.state_after, (e.store_after, e.reply_after))) in
    record { value = both.0; state_after = both.1.0; store_after = both.1.1.0; reply_after = both.1.1.1 }
