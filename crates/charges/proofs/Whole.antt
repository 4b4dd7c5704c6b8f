-- The bandwidths of charges above 0 add up to 1, as exact fractions.
-- Assumes nothing.
use mathlib.Core.Path.{◌≡◌, refl, sym, ◌∙◌}
use mathlib.Core.List.{List, [], ◌∷◌, map}
use Prim.Native.Nat.{ℕ, ◌*◌, ◌<◌}
use native.Mathlib.Nat.{mul_comm, mul_assoc, mul-add, add-mul, mul-one, zero-mul, mul-zero, mul-mul-mul_comm, mul-pos, eq_of_mul-eq-mul_right}
use native.Mathlib.Omega.{arith}
use Rattle.charges.specs.Fractions.{Fraction, over, sum, Same}
use Rattle.charges.specs.Formula.{product, but_one, bandwidths}

-- products, put in another order
own : (p s c q b : ℕ) → p * b * (s * (c * q)) ≡ p * q * (s * c * b)
own p s c q b = rw (sym (mul_assoc s c q), mul_comm (s * c) q, mul-mul-mul_comm p b q (s * c), mul_comm b (s * c)) refl

others : (p s c r b : ℕ) → p * r * b * (s * c * c) ≡ p * (c * r) * (s * c * b)
others p s c r b =
    rw (mul-mul-mul_comm (p * r) b (s * c) c, mul_comm c r, sym (mul_assoc p r c), mul-mul-mul_comm (p * r) c (s * c) b, mul_comm b c) refl

later : (a s c q : ℕ) → a * (s * c) * (s * (c * q)) ≡ a * (s * q) * (s * c * c)
later a s c q = rw (mul_comm c q, sym (mul_assoc s q c)) (mul-mul-mul_comm a (s * c) (s * q) c)

-- fractions of one top, each over s times a charge
module _ (p s : ℕ) where
  abbrev parts : List ℕ → List Fraction
  parts charges = map (λ (charge : ℕ). over p (s * charge)) charges

  total : (charges : List ℕ) → (sum (parts charges)).top * (s * product charges) ≡ p * but_one charges * (sum (parts charges)).bottom
  unfolding sum product but_one
  total [] = rw (mul-zero p) (zero-mul (s * 1))
  total (c ∷ charges) =
      let a = (sum (parts charges)).top in
      let b = (sum (parts charges)).bottom in
      let q = product charges in
      let r = but_one charges in
      rw (
        add-mul (p * b) (a * (s * c)) (s * (c * q)),
        own p s c q b,
        later a s c q,
        total charges,
        others p s c r b,
        mul-add p q (c * r),
        add-mul (p * q) (p * (c * r)) (s * c * b),
      ) refl

pub add_up_to_one : (charges : List ℕ) → 0 < product charges → 0 < but_one charges → Same (sum (bandwidths charges)) (over 1 1)
add_up_to_one charges some more =
    let p = product charges in
    let s = but_one charges in
    let a = (sum (bandwidths charges)).top in
    let b = (sum (bandwidths charges)).bottom in
    let all : a * (s * p) ≡ b * (s * p) = total p s charges ∙ rw (mul_comm p s, mul_comm (s * p) b) refl in
    rw (mul-one a) (eq_of_mul-eq-mul_right (s * p) (mul-pos more some) a b all ∙ omega arith)
