-- The formula's product and its sum of products, over the charges that aren't 0, are those of the code's weights.
-- Assumes nothing.
use mathlib.Core.Path.{◌≡◌, refl, ap, ◌∙◌}
use mathlib.Core.Bool.{Bool, true, false, cond}
use mathlib.Core.List.{List, [], ◌∷◌, map}
use Prim.Native.Nat.{ℕ, ◌+◌, ◌*◌, ◌≤◌}
use native.Mathlib.Nat.{mul_comm, mul_assoc, mul_left_comm, mul-add, mul-one, mul-zero, mul-le-mul, add_assoc, add-zero}
use native.Mathlib.Omega.{arith}
use lib.Dec.{eqb}
use Rattle.charges.specs.Formula.{product, but_one, non_zero}
use Rattle.charges.specs.Weights.{CHARGE_MAX, WEIGHT_MAX, or_one, weight, all_weights}

-- ---- bounds

pub two_below : (a b : ℕ) → a ≤ CHARGE_MAX → b ≤ CHARGE_MAX → a * b ≤ CHARGE_MAX * CHARGE_MAX
two_below a b h g = mul-le-mul {n₁ = a} {m₁ = b} {n₂ = CHARGE_MAX} {m₂ = CHARGE_MAX} h g

pub three_below : (a b c : ℕ) → a ≤ CHARGE_MAX → b ≤ CHARGE_MAX → c ≤ CHARGE_MAX → a * b * c ≤ WEIGHT_MAX
three_below a b c h g k =
    mul-le-mul {n₁ = a * b} {m₁ = c} {n₂ = CHARGE_MAX * CHARGE_MAX} {m₂ = CHARGE_MAX} (two_below a b h g) k

-- ---- any number of charges

-- charges of 0 left out of the product are ones in it
pub ones : (charges : List ℕ) → product (non_zero charges) ≡ product (map or_one charges)
unfolding product non_zero or_one
ones [] = refl
ones (charge ∷ charges) = go (eqb charge 0) (ones charges)
  where
    go : (t : Bool) → product (non_zero charges) ≡ product (map or_one charges)
        → product (cond t (non_zero charges) (charge ∷ non_zero charges)) ≡ cond t 1 charge * product (map or_one charges)
    go true behind = behind ∙ omega arith
    go false behind = ap (λ (n : ℕ). charge * n) behind

-- the products of all but one, with ones for zeros, and none without a charge of 0
weights : List ℕ → ℕ
weights [] = 0
weights (charge ∷ charges) = cond (eqb charge 0) 0 (product (map or_one charges)) + or_one charge * weights charges

but_one_law : (charges : List ℕ) → but_one (non_zero charges) ≡ weights charges
unfolding but_one non_zero or_one weights
but_one_law [] = refl
but_one_law (charge ∷ charges) = go (eqb charge 0) (ones charges) (but_one_law charges)
  where
    go : (t : Bool) → product (non_zero charges) ≡ product (map or_one charges) → but_one (non_zero charges) ≡ weights charges
        → but_one (cond t (non_zero charges) (charge ∷ non_zero charges))
        ≡ cond t 0 (product (map or_one charges)) + cond t 1 charge * weights charges
    go true one behind = behind ∙ omega arith
    go false one behind = rw (one, behind)

-- ---- four

-- a number times a weight
scaled : (t : Bool) (n m : ℕ) → n * cond t 0 m ≡ cond t 0 (n * m)
scaled true n m = omega arith
scaled false n m = refl

-- the sum of the products is that of the four weights
pub all_weights_law : (c0 c1 c2 c3 : ℕ) → but_one (non_zero (c0 ∷ c1 ∷ c2 ∷ c3 ∷ [])) ≡ all_weights c0 c1 c2 c3
unfolding weights weight product
all_weights_law c0 c1 c2 c3 =
    but_one_law (c0 ∷ c1 ∷ c2 ∷ c3 ∷ [])
    ∙ simp (mul-add, scaled, mul-one, mul-zero, mul_assoc, add_assoc, add-zero)

-- the product is each charge times the others
module _ (a b c d : ℕ) where
  abbrev all : ℕ
  all = a * (b * (c * (d * 1)))

  pub without_0 : all ≡ a * (b * c * d)
  without_0 = rw (mul-one d, mul_assoc b c d)

  pub without_1 : all ≡ b * (a * c * d)
  without_1 = rw (mul-one d, mul_assoc a c d) (mul_left_comm a b (c * d))

  pub without_2 : all ≡ c * (a * b * d)
  without_2 = rw (mul-one d, mul_left_comm b c d, mul_assoc a b d) (mul_left_comm a c (b * d))

  pub without_3 : all ≡ d * (a * b * c)
  without_3 = rw (mul-one d, mul_comm c d, mul_left_comm b d c, mul_assoc a b c) (mul_left_comm a d (b * c))
