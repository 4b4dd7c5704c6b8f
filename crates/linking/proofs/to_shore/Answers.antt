-- `linking::to_shore` meets its contract: the shore's half is lent, and comes back.
use mathlib.Core.Path.{◌∙◌}
use Rattle.paper.specs.Sizes.{STORE, PARTS, PART, REPLY_MIN}
use Rattle.lists.specs.Bytes.{zeros}
use Rattle.linking.specs.Linking.{heard_by_shore, to_shore}
use Rattle.linking.proofs.Crossing.{shore_lent, shore_back, shore_again}
use Rattle.linking.proofs.to_shore.Goals as goal

pub returns : goal.returns
unfolding to_shore heard_by_shore zeros REPLY_MIN STORE PARTS PART
returns c =
    let a = c.args in
    let store = a.store.now in
    let half = c.min-half.ensures in
    let h = c.min-half.result in
    let new = c.receive-given.new.store in
    let got = rw (shore_lent store h half) at c.receive-given.ensures in
    let back = shore_back store new h half in
    let text = rw (shore_again store new h half, got.value, got.store_after) at c.shore_text-laid.ensures in
    record {
      ends = rw got.value;
      length_laid = text.value.0;
      fits = text.value.1;
      stored = back ∙ rw got.store_after;
      lines = text.out_after;
    }
