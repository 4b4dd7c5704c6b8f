-- `linking::start` meets its contract: each half is lent to its end's Start.
use mathlib.Core.Path.{◌∙◌}
use Rattle.paper.specs.Sizes.{STORE, PARTS, PART}
use Rattle.client.specs.Client.{started}
use Rattle.shore.specs.Shore.{started as shoreStarted}
use Rattle.linking.specs.Linking.{both_started}
use Rattle.linking.proofs.Crossing.{panel_lent, second_lent, second_back}
use Rattle.linking.proofs.start.Goals as goal

pub returns : goal.returns
unfolding both_started started shoreStarted STORE PARTS PART
returns c =
    let a = c.args in
    let store = a.store.now in
    let h = c.min-half.result in
    let half = c.min-half.ensures in
    let new = c.start-panel.new.store in
    let first = rw (panel_lent store h half) at c.start-panel.ensures in
    let second = rw (second_lent store new h half c.start-panel.auto.store) at c.start-shore.ensures in
    record { value = rw (first.value, second.value); store_after = second_back store new c.start-shore.new.store h half c.start-panel.auto.store ∙ rw (first.store_after, second.store_after) }
