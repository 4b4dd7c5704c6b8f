-- `numbers::short_at` meets its contract: the part that it lends is the two bytes, or what is there of them, and their value is
-- below 65,536.
use mathlib.Core.Path.{◌≡◌, ap, ◌∙◌}
use Prim.Native.Nat.{◌+◌, min}
use lib.ListN.{length}
use Rattle.lists.proofs.Lent.{part_lent}
use Rattle.numbers.specs.Numbers.{value_of, value_at}
use Rattle.numbers.proofs.Widths.{value_below}
use native.Mathlib.Omega.{arith}
use Rattle.numbers.proofs.short_at.Goals as goal
use Rattle.numbers.proofs.short_at.Goals.{After-number}

lent : (c : After-number) → c.number.result ≡ value_at c.args.bytes.now c.args.at 2
unfolding value_at
lent c =
    let a = c.args in
    let end : c.min-end.result ≡ min (a.at + 2) (length a.bytes.now) = omega arith in
    c.number.ensures ∙ ap value_of (part_lent a.bytes.now a.at 2 _ _ c.min-start.ensures end)

pub overflow_cast-result : goal.overflow_cast-result
overflow_cast-result c =
    let a = c.args in
    let room = value_below a.bytes.now a.at 2 (omega arith) (λ i. (c.type_inv.bytes i).fits) in
    record { fits = omega (arith, lent (goal.at.overflow_cast-result c).After-number, room) }

pub returns : goal.returns
returns c = lent (goal.at.returns c).After-number
