-- `linking::from_panel` meets its contract: what the call sent, if anything, goes to the shore behind its own text.
use mathlib.Core.Path.{◌≡◌}
use Prim.Native.Nat.{◌+◌, ◌*◌}
use lib.ListN.{take}
use Rattle.paper.specs.Sizes.{STORE, PARTS, PART, MESSAGE_MAX}
use Rattle.lines.specs.Lines.{MESSAGE_LINE_MAX}
use Rattle.linking.specs.Linking.{Goes, both_of, panel_text, CALL_MAX, carry, to_shore, from_panel}
use Rattle.linking.proofs.Crossing.{then_crosses, then_stays, sent_lent, nothing_sent, something_sent, panel_lent}
use native.Mathlib.Omega.{arith}
use Rattle.linking.proofs.from_panel.Goals as goal

pub returns-then-n-eq0 : goal.returns-then-n-eq0
unfolding from_panel STORE PARTS PART
returns-then-n-eq0 c =
    let a = c.args in
    let store = a.store.now in
    let text = rw (panel_lent store _ c.min-half.ensures) at c.panel_text-told.ensures in
    let twice : 2 * CALL_MAX ≡ CALL_MAX + CALL_MAX = omega arith in
    let r = a.received in
    rw twice (then_stays (record { both = both_of r.table a.shore store; text = panel_text a.place r (take STORE store) }) (carry (take r.sent a.reply.now) (to_shore a.place)) a.out.now _ _ CALL_MAX CALL_MAX (nothing_sent r.sent _ a.reply.now (to_shore a.place) _ c.min-n.ensures c.if-n-eq0.true) text.value.0 text.value.1 text.out_after)

pub overflow_add-result : goal.overflow_add-result
unfolding CALL_MAX MESSAGE_LINE_MAX MESSAGE_MAX
overflow_add-result c = omega (arith, c.to_shore-crossed.ensures.fits, c.panel_text-told.ensures.value.1)

pub returns : goal.returns
unfolding from_panel STORE PARTS PART
returns c =
    let a = c.args in
    let store = a.store.now in
    let text = rw (panel_lent store _ c.min-half.ensures) at c.panel_text-told.ensures in
    let twice : 2 * CALL_MAX ≡ CALL_MAX + CALL_MAX = omega arith in
    let r = a.received in
    let g : Goes = record { both = both_of r.table a.shore store; text = panel_text a.place r (take STORE store) } in
    let goes = something_sent r.sent _ a.reply.now (to_shore a.place) g.both c.min-n.ensures c.if-n-eq0.false in
    let did = rw (sent_lent r.sent _ a.reply.now c.min-n.ensures, ← goes) at c.to_shore-crossed.ensures in
    rw twice (then_crosses g (carry (take r.sent a.reply.now) (to_shore a.place)) a.out.now _ _ _ CALL_MAX CALL_MAX text.value.0 text.value.1 text.out_after c.min-from.ensures did)
