-- `linking::host_sends` meets its contract: number, message and count are the record's.
use mathlib.Core.Path.{ap, ◌∙◌}
use Prim.Native.Nat.{ℕ, ◌+◌}
use Rattle.numbers.specs.Numbers.{value_of}
use Rattle.linking.specs.Linking.{message_in, host_sends}
use Rattle.lists.proofs.Lent.{rest_lent, size_lent}
use Rattle.linking.proofs.host_sends.Goals as goal

pub returns : goal.returns
unfolding host_sends message_in
returns c =
    let a = c.args in
    let bytes = a.bytes.now in
    let number = c.number-number.ensures ∙ ap value_of (rest_lent bytes 1 c.min-lead.result c.min-lead.ensures) in
    let count = rw c.count_in.ensures at c.min-count.ensures in
    let end = ap (λ (x : ℕ). c.min-start.result + x) (rw c.message_size.ensures at c.min.ensures) in
    let message = size_lent bytes 7 _ c.min-start.result _ c.min-start.ensures end in
    rw (count, number, message) at c.send.ensures
