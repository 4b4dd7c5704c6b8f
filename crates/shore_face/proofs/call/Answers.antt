-- `shore_face::call` meets its contract: refusal 1 stands in front, and behind it the step is given.
use mathlib.Core.Path.{sym, ◌∙◌}
use lib.ListN.{length}
use Rattle.shore.specs.Asking.{event_asked}
use Rattle.shore_face.specs.Face.{asked_by}
use Rattle.shore_face.proofs.Calls.{fair, face_gives_law, face_refuses}
use borrow.Author.Rules.{rules}
use Rattle.shore_face.proofs.call.Goals as goal

pub returns-then-bad : goal.returns-then-bad
returns-then-bad c =
    let a = c.args in
    let pdu = a.pdu.now in
    let both = face_refuses a.state.now a.store.now a.reply.now (event_asked (asked_by a.closes pdu) pdu) _ (λ i. search rules)
    (sym c.bad.ensures ∙ c.if-bad.true) c.refused.ensures in
    record { value = both.0; state_after = both.1.0; store_after = both.1.1.0; reply_after = both.1.1.1 }

pub taken-requires : goal.taken-requires
taken-requires c =
    let a = c.args in
    fair a.state.now (length a.store.now) (length a.reply.now) (sym c.bad.ensures ∙ c.if-bad.false)

pub returns : goal.returns
unfolding event_asked
returns c =
    let a = c.args in
    let pdu = a.pdu.now in
    let good = sym c.bad.ensures ∙ c.if-bad.false in
    let asked = c.asked-asked.ensures in
    let block = c.of.ensures in
    let both = face_gives_law a.state.now a.store.now a.reply.now (event_asked (asked_by a.closes pdu) pdu) _ _ _ _ good (rw asked at (rw block at c.taken.ensures)) in
    (record { value = both.0; state_after = both.1.0; store_after = both.1.1.0; reply_after = both.1.1.1 })
