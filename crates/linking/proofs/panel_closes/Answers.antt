-- `linking::panel_closes` meets its contract: the panel's half is lent, and what comes of the call is `from_panel`'s.
use Rattle.paper.specs.Sizes.{STORE, PARTS, PART, REPLY_MIN}
use Rattle.lists.specs.Bytes.{zeros}
use Rattle.linking.specs.Linking.{panel_closes}
use Rattle.linking.proofs.Crossing.{panel_lent, panel_back}
use Rattle.linking.proofs.panel_closes.Goals as goal

pub returns : goal.returns
unfolding panel_closes zeros REPLY_MIN STORE PARTS PART
returns c =
    let a = c.args in
    let store = a.store.now in
    let h = c.min-half.result in
    let half = c.min-half.ensures in
    let got = rw (panel_lent store h half) at c.local_close-received.ensures in
    rw (got.value, panel_back store c.local_close-received.new.store h half, got.store_after, got.reply_after) at c.from_panel.ensures
