-- `linking::to_panel` meets its contract: the panel's half is lent, and what comes of the call is `from_panel`'s.
use Rattle.paper.specs.Sizes.{STORE, PARTS, PART, REPLY_MIN}
use Rattle.lists.specs.Bytes.{zeros}
use Rattle.linking.specs.Linking.{to_panel}
use Rattle.linking.proofs.Crossing.{panel_lent, panel_back}
use Rattle.linking.proofs.to_panel.Goals as goal

pub returns : goal.returns
unfolding to_panel zeros REPLY_MIN STORE PARTS PART
returns c =
    let a = c.args in
    let store = a.store.now in
    let h = c.min-half.result in
    let half = c.min-half.ensures in
    let got = rw (panel_lent store h half) at c.receive-received.ensures in
    rw (got.value, panel_back store c.receive-received.new.store h half, got.store_after, got.reply_after) at c.from_panel.ensures
