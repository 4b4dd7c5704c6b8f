-- `linking::shore_hosts` meets its contract: what the call sent, if anything, goes to the panel behind its own text.
use mathlib.Core.Path.{◌≡◌}
use mathlib.Core.List.{◌++◌}
use Prim.Native.Nat.{◌*◌, min}
use lib.ListN.{length, take}
use Rattle.paper.specs.Sizes.{STORE, PARTS, PART, PDU_MAX, MESSAGE_MAX}
use Rattle.lists.specs.Bytes.{zeros}
use Rattle.lines.specs.Lines.{MESSAGE_LINE_MAX}
use Rattle.linking.specs.Linking.{Goes, both_of, with_store, shore_text, CALL_MAX, carry, to_panel, host_called, shore_hosts}
use Rattle.linking.proofs.Crossing.{then_crosses, then_stays, sent_lent, nothing_sent, something_sent, shore_lent, shore_back, shore_again}
use native.Mathlib.Omega.{arith}
use Rattle.linking.proofs.shore_hosts.Goals as goal

pub returns-then-n-eq0 : goal.returns-then-n-eq0
unfolding shore_hosts host_called zeros PDU_MAX STORE PARTS PART
returns-then-n-eq0 c =
    let a = c.args in
    let store = a.store.now in
    let h = c.min-half.result in
    let half = c.min-half.ensures in
    let new = c.hosted-given.new.store in
    let got = rw (shore_lent store h half) at c.hosted-given.ensures in
    let text = rw (shore_again store new h half, got.value, got.store_after) at c.shore_text-told.ensures in
    let buffer = c.hosted-given.new.buffer in
    let n : c.min-n.result ≡ min c.hosted-given.result.sent (length buffer) = omega (arith, c.min-n.ensures, c.hosted-given.auto.buffer) in
    let w = host_called (with_store a.ends store) a.bytes.now in
    let g : Goes = record { both = both_of a.ends.panel w.result.shore (take STORE store ++ w.store); text = shore_text a.place w.result w.store } in
    let none = rw (got.value, got.buffer_after) at (nothing_sent c.hosted-given.result.sent c.min-n.result buffer (to_panel a.list.now a.place) g.both n c.if-n-eq0.true) in
    rw (got.value, shore_back store new h half, got.store_after) (then_stays g (carry (take w.result.sent w.reply) (to_panel a.list.now a.place)) a.out.now _ _ CALL_MAX (2 * CALL_MAX) none text.value.0 text.value.1 text.out_after)

pub overflow_add-result : goal.overflow_add-result
unfolding CALL_MAX MESSAGE_LINE_MAX MESSAGE_MAX
overflow_add-result c = omega (arith, c.to_panel-crossed.ensures.fits, c.shore_text-told.ensures.value.1)

pub returns : goal.returns
unfolding shore_hosts host_called zeros PDU_MAX STORE PARTS PART
returns c =
    let a = c.args in
    let store = a.store.now in
    let h = c.min-half.result in
    let half = c.min-half.ensures in
    let new = c.hosted-given.new.store in
    let got = rw (shore_lent store h half) at c.hosted-given.ensures in
    let text = rw (shore_again store new h half, got.value, got.store_after) at c.shore_text-told.ensures in
    let buffer = c.hosted-given.new.buffer in
    let n : c.min-n.result ≡ min c.hosted-given.result.sent (length buffer) = omega (arith, c.min-n.ensures, c.hosted-given.auto.buffer) in
    let w = host_called (with_store a.ends store) a.bytes.now in
    let g : Goes = record { both = both_of a.ends.panel w.result.shore (take STORE store ++ w.store); text = shore_text a.place w.result w.store } in
    let some = rw (got.value, got.buffer_after) at (something_sent c.hosted-given.result.sent c.min-n.result buffer (to_panel a.list.now a.place) g.both n c.if-n-eq0.false) in
    let did = rw (sent_lent c.hosted-given.result.sent c.min-n.result buffer n, got.value, shore_back store new h half, got.store_after, got.buffer_after, ← some) at c.to_panel-crossed.ensures in
    then_crosses g (carry (take w.result.sent w.reply) (to_panel a.list.now a.place)) a.out.now _ _ _ CALL_MAX (2 * CALL_MAX) text.value.0 text.value.1 text.out_after c.min-from.ensures did
