-- `codepage::number_for` meets its contract: a length is itself, and a refusal's number is below zero.
use mathlib.Core.Path.{subst, ap, ◌∙◌}
use Prim.Native.Nat.{ℕ, ◌<◌, ◌^◌}
use lib.IntN.{pos, neg_ℤ}
use mir.Syntax.{w64}
use mir.Facts.{to_z_pos}
use native.Mathlib.Omega.{arith}
use Rattle.codepage.specs.Names.{Countable, number_for}
use Rattle.codepage.proofs.Signs.{less_fits, less_is}
use Rattle.codepage.proofs.number_for.Goals as goal

pub overflow_cast-result : goal.overflow_cast-result
overflow_cast-result c =
    let small : c.in-Ok.n < 2 ^ 63 = subst Countable c.in-Ok.is c.requires in
    record { sfits = small }

pub overflow_sub-result : goal.overflow_sub-result
overflow_sub-result c = less_fits c.refusal_number.result (omega arith)

pub returns-in-Ok : goal.returns-in-Ok
unfolding number_for
returns-in-Ok c =
    let small : c.in-Ok.n < 2 ^ 63 = subst Countable c.in-Ok.is c.requires in
    rw c.in-Ok.is (to_z_pos w64 (small))

pub returns-in-Err : goal.returns-in-Err
unfolding number_for
returns-in-Err c = rw c.in-Err.is
    (less_is c.refusal_number.result (omega arith) ∙ ap (λ (n : ℕ). neg_ℤ (pos n)) c.refusal_number.ensures)
