-- `client_face::call` meets its contract: refusal 1 stands in front and leaves every byte, and behind it the step is given.
use mathlib.Core.Path.{refl, sym, ◌∙◌}
use lib.ListN.{length}
use Rattle.numbers.specs.Numbers.{Bytes}
use Rattle.connection.specs.States.{state_of}
use Rattle.client.specs.Asking.{event_asked}
use Rattle.client.specs.Client.{stepped}
use Rattle.saved.specs.Saved.{table_in}
use Rattle.client_face.specs.Face.{asked_by}
use Rattle.client_face.proofs.Calls.{face_refuses, face_proper, face_passes, gives_face}
use borrow.Author.Rules.{rules}
use Rattle.client_face.proofs.call.Goals as goal

pub returns-then-bad : goal.returns-then-bad
returns-then-bad c =
    let a = c.args in
    let l = a.state.now in
    let bytes : Bytes l = λ i. search rules in
    let bad = sym c.bad.ensures ∙ c.if-bad.true in
    rw (face_refuses l a.store.now a.reply.now (event_asked (asked_by a.closes a.list.now a.pdu.now) a.pdu.now) bytes bad)
    (record { value = c.refused.ensures; state_after = refl; store_after = refl; reply_after = refl })

pub taken-requires : goal.taken-requires
taken-requires c =
    let a = c.args in
    face_proper a.state.now (length a.store.now) (length a.reply.now) (sym c.bad.ensures ∙ c.if-bad.false)

pub returns : goal.returns
unfolding event_asked
returns c =
    let a = c.args in
    let l = a.state.now in
    let pdu = a.pdu.now in
    let event = event_asked (asked_by a.closes a.list.now pdu) pdu in
    let good = sym c.bad.ensures ∙ c.if-bad.false in
    let asked = c.asked-asked.ensures in
    let block = c.of.ensures in
    let both = gives_face _ (stepped (state_of (table_in l) a.store.now) event) a.reply.now _ _ _ _ (face_passes l a.store.now a.reply.now event good)
    (rw asked at (rw block at c.taken.ensures)) in
    record { value = both.0; state_after = both.1.0; store_after = both.1.1.0; reply_after = both.1.1.1 }
