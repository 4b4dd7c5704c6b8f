-- `handing::message` meets its contract: what is lent of the store is the first bytes of the part.
use mathlib.Core.Path.{◌≡◌, ap}
use Prim.Native.Nat.{ℕ, ◌+◌, ◌*◌, min}
use lib.ListN.{length}
use Rattle.paper.specs.Sizes.{PART, MESSAGE_MAX}
use Rattle.lines.specs.Lines.{MESSAGE_LINE_MAX}
use Rattle.handing.specs.Handing.{handed_up}
use Rattle.handing.proofs.Lent.{message_lent, no_part}
use native.Mathlib.Omega.{arith}
use Rattle.handing.proofs.message.Goals as goal

pub returns-then-most-at : goal.returns-then-most-at
unfolding handed_up PART MESSAGE_LINE_MAX
returns-then-most-at c =
    let a = c.args in
    let did = c.message_line.ensures in
    rw (no_part a.store.now a.at a.len c.if-most-at.true) (record { value = did.value; out_after = did.out_after })

pub returns : goal.returns
unfolding handed_up PART MESSAGE_MAX MESSAGE_LINE_MAX
returns c =
    let a = c.args in
    let start : 4096 * a.at ≡ min (4096 * a.at) (length a.store.now) = omega (arith, c.if-most-at.false) in
    let end = ap (λ (x : ℕ). 4096 * a.at + x) (rw c.min-n.ensures at c.min.ensures) in
    let lent = message_lent a.store.now a.at a.len (4096 * a.at) _ start end in
    let did = rw lent at c.message_line-2.ensures in
    (record { value = did.value; out_after = did.out_after })
