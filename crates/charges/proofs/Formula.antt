-- The code's product form is the formula.
-- Assumes nothing.
use mathlib.Core.Path.{◌≡◌, refl, sym, ◌∙◌}
use mathlib.Core.Bool.{Bool, true, false, cond}
use mathlib.Core.List.{List, map}
use Prim.Native.Nat.{ℕ, ◌*◌, ◌/◌, ◌<◌}
use native.Mathlib.Nat.{mul_comm, mul_assoc, mul-zero, zero-div, mul-div-mul_right}
use native.Mathlib.Omega.{arith}
use borrow.Author.Tests.{eqb-false}
use lib.Dec.{eqb}
use Rattle.reading.specs.declared.Charges.{Charges}
use Rattle.charges.specs.Formula.{product, but_one, non_zero, WHOLE, share_of, charges_of, shares_of}
use Rattle.charges.specs.Weights.{or_one, weight, part, weighed}
use Rattle.charges.proofs.Products.{ones, all_weights_law, without_0, without_1, without_2, without_3}

-- a share is the part of a weight, where the product of all is the charge times that weight
as_part : (charges : List ℕ) (charge others all : ℕ) → product (map or_one charges) ≡ or_one charge * others → but_one (non_zero charges) ≡ all
    → share_of charges charge ≡ part (cond (eqb charge 0) 0 others) all
unfolding share_of part or_one
as_part charges charge others all e f = go (eqb charge 0) refl (ones charges ∙ e)
  where
    go : (t : Bool) → eqb charge 0 ≡ t → product (non_zero charges) ≡ cond t 1 charge * others
        → cond t 0 (WHOLE * product (non_zero charges) / (but_one (non_zero charges) * charge)) ≡ WHOLE * cond t 0 others / all
    go true z g = rw (mul-zero WHOLE, zero-div all)
    go false z g =
        let some : 0 < charge = omega (arith, eqb-false charge 0 z) in
        rw (g, f, mul_comm charge others, sym (mul_assoc WHOLE others charge)) (mul-div-mul_right (WHOLE * others) all some)

pub product_form : (c : Charges) → shares_of c ≡ weighed c
unfolding shares_of weighed weight product
product_form c =
    let o0 = or_one c.class0 in
    let o1 = or_one c.class1 in
    let o2 = or_one c.class2 in
    let o3 = or_one c.class3 in
    let all = all_weights_law c.class0 c.class1 c.class2 c.class3 in
    rw (
      as_part (charges_of c) c.class0 (o1 * o2 * o3) _ (without_0 o0 o1 o2 o3) all,
      as_part (charges_of c) c.class1 (o0 * o2 * o3) _ (without_1 o0 o1 o2 o3) all,
      as_part (charges_of c) c.class2 (o0 * o1 * o3) _ (without_2 o0 o1 o2 o3) all,
      as_part (charges_of c) c.class3 (o0 * o1 * o2) _ (without_3 o0 o1 o2 o3) all,
    )
