-- `client::step` meets its contract: refusal 1 stands in front, and behind it the step is given.
use mathlib.Core.Path.{sym, ◌∙◌}
use lib.ListN.{length}
use Rattle.paper.specs.Sizes.{PARTS}
use Rattle.paper.specs.declared.Refusal.TheVariants.{BadCall}
use Rattle.connection.specs.States.{state_of}
use Rattle.client.specs.Asking.{event_asked}
use Rattle.client.specs.Client.{refused, stepped}
use Rattle.client.proofs.Steps.{gives_refused}
use Rattle.client.proofs.Calls.{proper, refuses, passes, gives_whole}
use Rattle.client.proofs.step.Goals as goal

pub returns-then-bad_call : goal.returns-then-bad_call
unfolding PARTS
returns-then-bad_call c =
    let a = c.args in
    let store = a.store.now in
    let reply = a.reply.now in
    let st = state_of a.table store in
    let bad = sym c.bad_call.ensures ∙ c.if-bad_call.true in
    let both = gives_whole _ (refused st BadCall) reply _ _ _ (refuses a.table store reply (stepped st (event_asked a.asked a.pdu.now)) bad)
    (gives_refused st BadCall reply _ c.refused.ensures) in record { value = both.0; store_after = both.1.0; reply_after = both.1.1 }

pub taken-requires : goal.taken-requires
taken-requires c =
    let a = c.args in
    let good = proper a.table (length a.store.now) (length a.reply.now) (sym c.bad_call.ensures ∙ c.if-bad_call.false) in
    (good.store_size, good.sound)

pub returns : goal.returns
unfolding event_asked
returns c =
    let a = c.args in
    let store = a.store.now in
    let reply = a.reply.now in
    let st = state_of a.table store in
    let good = sym c.bad_call.ensures ∙ c.if-bad_call.false in
    let block = c.of.ensures in
    let both = gives_whole _ (stepped st (event_asked a.asked a.pdu.now)) reply _ _ _ (passes a.table store reply (stepped st (event_asked a.asked a.pdu.now)) good)
    (rw block at c.taken.ensures) in record { value = both.0; store_after = both.1.0; reply_after = both.1.1 }
