-- `reading::Extent::of` meets its contract: a place behind the PDU, or bytes past its end, are as the definition's `drop` and `take`
-- leave them.
use mathlib.Core.Path.{ap}
use Prim.Native.Nat.{ℕ, ◌+◌}
use Rattle.lists.proofs.Lent.{size_lent}
use Rattle.reading.specs.Said.{bytes_at}
use Rattle.reading.proofs.Extent.of.Goals as goal

pub returns : goal.returns
unfolding bytes_at
returns c = size_lent _ _ _ _ _ c.min-at.ensures (ap (λ (n : ℕ). c.min-at.result + n) c.min-len.ensures)
