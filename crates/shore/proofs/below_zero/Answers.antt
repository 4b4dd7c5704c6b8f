-- `shore::below_zero` meets its contract: a status is below zero exactly if it is no natural number.
use mathlib.Core.Path.{◌≡◌, refl, ap, ◌∙◌}
use native.Mathlib.Omega.{arith}
use borrow.Author.Tests.{le-ltb}
use lib.IntN.{ℤ, pos, negsuc}
use lib.Signed.{lt_z}
use mir.Syntax.{w32}
use mir.Facts.{to_z-of_z}
use Rattle.shore.specs.Rules.{is_below_zero}
use Rattle.shore.proofs.below_zero.Goals as goal

below : (status : ℤ) → lt_z status (pos 0) ≡ is_below_zero status
below (pos k) = le-ltb k 0 (omega arith)
below (negsuc k) = refl

pub returns : goal.returns
returns c = ap (λ (z : ℤ). lt_z z (pos 0)) (to_z-of_z {w = w32} c.ranges.status) ∙ below c.args.status
