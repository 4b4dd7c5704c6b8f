-- `walking::answered` meets its contract: a local close among moves, and else a received PDU, each with a fresh reply buffer.
use Rattle.std.proofs.Common.{◌≡◌, ◌≤◌, true, false, length, sym, ap, ◌∙◌}
use Rattle.paper.specs.Sizes.{REPLY_MIN}
use Rattle.lists.specs.Bytes.{zeros}
use Rattle.lists.proofs.Laid.{to_end}
use Rattle.numbers.specs.Numbers.{value_of}
use Rattle.walking.specs.Walking.{is_close, answered}
use Rattle.walking.proofs.Records.{close_some}
use Rattle.walking.proofs.answered.Goals as goal

pub slice_bounds-number-count : goal.slice_bounds-number-count
slice_bounds-number-count c =
    let has_first : 1 ≤ length c.args.bytes.now = close_some _ _ (sym c.is_close.ensures ∙ c.if-is_close.true) in
    has_first

pub slice_bounds-number-start : goal.slice_bounds-number-start
slice_bounds-number-start c =
    let has_first : 1 ≤ length c.args.bytes.now = close_some _ _ (sym c.is_close.ensures ∙ c.if-is_close.true) in
    has_first

pub returns-then-is_close : goal.returns-then-is_close
unfolding answered zeros REPLY_MIN
returns-then-is_close c =
    let a = c.args in
    let yes : is_close a.told a.bytes.now ≡ true = sym c.is_close.ensures ∙ c.if-is_close.true in
    let number = c.number-number.ensures ∙ ap value_of (to_end a.bytes.now 1) in
    let did = rw number at c.local_close.ensures in
    rw yes (record { value = did.value; store_after = did.store_after })

pub returns : goal.returns
unfolding answered zeros REPLY_MIN
returns c =
    let a = c.args in
    let no : is_close a.told a.bytes.now ≡ false = sym c.is_close.ensures ∙ c.if-is_close.false in
    rw no (record { value = c.receive.ensures.value; store_after = c.receive.ensures.store_after })
