-- `said::same` meets its contract: the bytes lent are the first n, and two that are compared are the same or not.
use mathlib.Core.Path.{ap, ◌∙◌}
use Prim.Native.Nat.{ℕ}
use lib.ListN.{take}
use lib.Pointwise.{bytes_decides}
use Rattle.lists.proofs.Laid.{take_least}
use Rattle.listeners.proofs.Matches.{compared}
use Rattle.said.proofs.same.Goals as goal

pub returns : goal.returns
returns c =
    let a = c.args in
    let first = ap (λ (k : ℕ). take k a.buffer.now) c.min-end.ensures ∙ take_least a.n a.buffer.now in
    rw (← first) (c.eq.ensures ∙ compared _ _ _ (bytes_decides _ _).0 (bytes_decides _ _).1)
