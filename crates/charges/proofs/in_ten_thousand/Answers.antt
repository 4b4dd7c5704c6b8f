-- `charges::in_ten_thousand` meets its contract: a part is at most the whole, and of nothing it is nothing.
use mathlib.Core.Path.{sym}
use Prim.Native.Nat.{◌*◌, ◌/◌, ◌≤◌}
use native.Mathlib.Nat.{div-zero, div-le_of_le-mul}
use native.Mathlib.Omega.{arith}
use Rattle.charges.specs.Formula.{WHOLE}
use Rattle.charges.specs.Weights.{part}
use Rattle.charges.proofs.in_ten_thousand.Goals as goal

pub returns-then-all-eq0 : goal.returns-then-all-eq0
unfolding part
returns-then-all-eq0 c = rw c.if-all-eq0.true (sym (div-zero (WHOLE * c.args.weight)))

pub overflow_cast-result : goal.overflow_cast-result
overflow_cast-result c =
    let a = c.args in
    let h : WHOLE * a.weight / a.all ≤ WHOLE = div-le_of_le-mul a.all (omega arith) in
    omega (arith, c.rounded.ensures, h)

pub returns-else-all-eq0 : goal.returns-else-all-eq0
unfolding part
returns-else-all-eq0 c = c.rounded.ensures
