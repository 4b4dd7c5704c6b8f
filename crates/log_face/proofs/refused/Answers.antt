-- `log_face::refused` meets its contract: the number, taken from nothing.
use mathlib.Core.Path.{ap, ◌∙◌}
use Prim.Native.Nat.{ℕ}
use lib.IntN.{pos, neg_ℤ}
use native.Mathlib.Omega.{arith}
use Rattle.codepage.proofs.Signs.{less_fits, less_is}
use Rattle.log_face.specs.Words.{refused_as}
use Rattle.log_face.proofs.refused.Goals as goal

pub returns : goal.returns
unfolding refused_as
returns c = less_is c.refusal_number.result (omega arith) ∙ ap (λ (n : ℕ). neg_ℤ (pos n)) c.refusal_number.ensures

pub overflow_sub-result : goal.overflow_sub-result
overflow_sub-result c = less_fits c.refusal_number.result (omega arith)
