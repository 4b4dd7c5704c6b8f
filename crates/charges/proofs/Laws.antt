-- The laws of shares, proved over the formula; the sum of the four over the weights.
-- Assumes nothing.
use mathlib.Core.Path.{◌≡◌, refl, sym, ap, ◌∙◌}
use mathlib.Core.Logic.{⊎_elim}
use mathlib.Core.List.{List, [], ◌∷◌}
use Prim.Native.Nat.{ℕ, zero, suc, ◌+◌, ◌*◌, ◌/◌, ◌≤◌, ◌<◌}
use native.Mathlib.Nat.{mul_comm, mul_assoc, mul-add, mul-one, mul-zero, add_assoc}
use native.Mathlib.Nat.{add-zero, mul-pos, mul-le-mul_left, div-zero, div-mul-le_self, le-div_iff_mul-le}
use native.Mathlib.Omega.{arith}
use borrow.Author.Tests.{ne_eqb, eqb-false}
use lib.Dec.{eqb}
use lib.ListN.{get_or}
use Rattle.lists.proofs.Cases.{choice, lt_or_le}
use Rattle.reading.specs.declared.Charges.{Charges}
use Rattle.charges.specs.Fractions.{over, times, sum, Same}
use Rattle.charges.specs.Formula.{product, but_one, base, bandwidth, bandwidths, non_zero, WHOLE, share_of, charges_of, shares_of}
use Rattle.charges.specs.Weights.{or_one, weight, all_weights, part, parts, weighed}
use Rattle.charges.specs.Promises.{charge_at, share_at, total}
use Rattle.charges.proofs.Products.{all_weights_law}
use Rattle.charges.proofs.Formula.{product_form}
use Rattle.charges.proofs.Whole.{add_up_to_one}
use Rattle.charges.proofs.Bound.{four_parts}

-- ---- the formula

pub as_it_stands : (c0 c1 c2 c3 : ℕ)
    → base (c0 ∷ c1 ∷ c2 ∷ c3 ∷ []) ≡ over (c0 * c1 * c2 * c3) (c1 * c2 * c3 + c0 * c2 * c3 + c0 * c1 * c3 + c0 * c1 * c2)
unfolding product but_one
as_it_stands c0 c1 c2 c3 = simp (mul-add, mul-one, mul-zero, mul_assoc, add_assoc, add-zero)

pub all_four : (c0 c1 c2 c3 : ℕ) → 0 < c0 → 0 < c1 → 0 < c2 → 0 < c3
    → non_zero (c0 ∷ c1 ∷ c2 ∷ c3 ∷ []) ≡ c0 ∷ c1 ∷ c2 ∷ c3 ∷ []
unfolding non_zero
all_four c0 c1 c2 c3 h0 h1 h2 h3 =
    rw (ne_eqb c0 0 (λ e. omega arith), ne_eqb c1 0 (λ e. omega arith), ne_eqb c2 0 (λ e. omega arith), ne_eqb c3 0 (λ e. omega arith))

pub by_reciprocal : (charges : List ℕ) (charge : ℕ) → Same (times charge (bandwidth charges charge)) (base charges)
by_reciprocal charges charge =
    rw (mul_comm charge (product charges), mul_assoc (product charges) charge (but_one charges), mul_comm charge (but_one charges))

-- a charge of 0 has no share
none_of_zero : (charges : List ℕ) → 0 ≡ share_of charges 0
unfolding share_of
none_of_zero charges = refl

pub of_each : (c : Charges) (class : ℕ) → share_at c class ≡ share_of (charges_of c) (charge_at c class)
unfolding shares_of
of_each c zero = refl
of_each c (suc zero) = refl
of_each c (suc (suc zero)) = refl
of_each c (suc (suc (suc zero))) = refl
of_each c (suc (suc (suc (suc class)))) = none_of_zero (charges_of c)

-- ---- the shares

pub all_zero_law : shares_of (record { class0 = 0; class1 = 0; class2 = 0; class3 = 0 })
    ≡ record { class0 = 0; class1 = 0; class2 = 0; class3 = 0 }
unfolding shares_of share_of
all_zero_law = refl

pub example : shares_of (record { class0 = 936; class1 = 3276; class2 = 9362; class3 = 21845 })
    ≡ record { class0 = 7000; class1 = 2000; class2 = 699; class3 = 299 }
unfolding shares_of share_of product but_one non_zero
example = refl

pub equal_charges : (c : Charges) (i k : ℕ) → charge_at c i ≡ charge_at c k → share_at c i ≡ share_at c k
equal_charges c i k e = of_each c i ∙ ap (share_of (charges_of c)) e ∙ sym (of_each c k)

-- the greater the bottom, the smaller the part
by_more : (n a b : ℕ) → 0 < a → a ≤ b → n / b ≤ n / a
by_more n a b some h =
    (le-div_iff_mul-le some).1 (omega (arith, mul-le-mul_left (n / b) h, div-mul-le_self n b))

smaller : (charges : List ℕ) (a b : ℕ) → 0 < a → a ≤ b → share_of charges b ≤ share_of charges a
unfolding share_of
smaller charges a b some h =
    let bottom = but_one (non_zero charges) in
    let top = WHOLE * product (non_zero charges) in
    rw (ne_eqb a 0 (λ e. omega arith), ne_eqb b 0 (λ e. omega arith))
    (⊎_elim
    (λ (k : 0 < bottom). by_more top (bottom * a) (bottom * b) (mul-pos k some) (mul-le-mul_left bottom h))
    (λ (k : bottom ≤ 0).
    let none : bottom ≡ 0 = omega arith in
    let left : 0 * b ≡ 0 = omega arith in
    rw (none, left, div-zero top) (omega arith))
    (lt_or_le 0 bottom))

pub smaller_charge : (c : Charges) (i k : ℕ) → 0 < charge_at c i → charge_at c i ≤ charge_at c k → share_at c k ≤ share_at c i
smaller_charge c i k some h = rw (of_each c i, of_each c k) (smaller (charges_of c) (charge_at c i) (charge_at c k) some h)

only : (charges : List ℕ) (charge : ℕ) → 0 < share_of charges charge → 0 < charge
unfolding share_of
only charges zero h = absurd (omega (arith, h))
only charges (suc charge) h = omega arith

pub only_where : (c : Charges) (class : ℕ) → 0 < share_at c class → 0 < charge_at c class
only_where c class h = only (charges_of c) (charge_at c class) (rw (sym (of_each c class)) h)

-- ---- their sum

one_up : (charge : ℕ) → 0 < or_one charge
unfolding or_one
one_up charge = choice (λ (n : ℕ). 0 < n) (eqb charge 0) (λ t. omega arith) (λ t. omega (arith, eqb-false charge 0 t))

-- a class in the formula has a weight
has_weight : (charge a b c : ℕ) → 0 < charge → 0 < weight charge (or_one a) (or_one b) (or_one c)
unfolding weight
has_weight charge a b c some =
    rw (ne_eqb charge 0 (λ e. omega arith)) (mul-pos (mul-pos (one_up a) (one_up b)) (one_up c))

parts_add_up : (w0 w1 w2 w3 : ℕ) → 0 < w0 + w1 + w2 + w3
    → (9997 ≤ total (parts w0 w1 w2 w3)) × (total (parts w0 w1 w2 w3) ≤ 10000)
unfolding part
parts_add_up w0 w1 w2 w3 some =
    let sum = four_parts WHOLE w0 w1 w2 w3 (w0 + w1 + w2 + w3) refl some in
    (omega (arith, sum.0), sum.1)

no_parts : (w0 w1 w2 w3 : ℕ) → w0 + w1 + w2 + w3 ≡ 0 → total (parts w0 w1 w2 w3) ≤ WHOLE
unfolding part
no_parts w0 w1 w2 w3 none = rw (none, div-zero (WHOLE * w0), div-zero (WHOLE * w1), div-zero (WHOLE * w2), div-zero (WHOLE * w3)) (omega arith)

-- whatever the charges, they come to at most the whole
pub at_most : (c : Charges) → total (shares_of c) ≤ WHOLE
unfolding weighed
at_most c = rw (product_form c) (go _ _ _ _)
  where
    go : (w0 w1 w2 w3 : ℕ) → total (parts w0 w1 w2 w3) ≤ WHOLE
    go w0 w1 w2 w3 =
        ⊎_elim (λ (some : 0 < w0 + w1 + w2 + w3). (parts_add_up w0 w1 w2 w3 some).1)
        (λ (none : w0 + w1 + w2 + w3 ≤ 0). no_parts w0 w1 w2 w3 (omega arith)) (lt_or_le 0 (w0 + w1 + w2 + w3))

some_weight : (c0 c1 c2 c3 class : ℕ) → 0 < get_or (c0 ∷ c1 ∷ c2 ∷ c3 ∷ []) class 0 → 0 < all_weights c0 c1 c2 c3
some_weight c0 c1 c2 c3 zero h = omega (arith, has_weight c0 c1 c2 c3 h)
some_weight c0 c1 c2 c3 (suc zero) h = omega (arith, has_weight c1 c0 c2 c3 h)
some_weight c0 c1 c2 c3 (suc (suc zero)) h = omega (arith, has_weight c2 c0 c1 c3 h)
some_weight c0 c1 c2 c3 (suc (suc (suc zero))) h = omega (arith, has_weight c3 c0 c1 c2 h)
some_weight c0 c1 c2 c3 (suc (suc (suc (suc class)))) h = absurd (omega (arith, h))

pub add_up : (c : Charges) (class : ℕ) → 0 < charge_at c class → (9997 ≤ total (shares_of c)) × (total (shares_of c) ≤ 10000)
unfolding weighed
add_up c class some = rw (product_form c) (parts_add_up _ _ _ _ (some_weight c.class0 c.class1 c.class2 c.class3 class some))

-- ---- the exact bandwidths

product_up : (charges : List ℕ) → 0 < product (non_zero charges)
unfolding product non_zero
product_up [] = omega arith
product_up (charge ∷ charges) =
    let behind = product_up charges in
    choice (λ (left : List ℕ). 0 < product left) (eqb charge 0) (λ t. behind)
    (λ t. mul-pos {m = charge} {n = product (non_zero charges)} (omega (arith, eqb-false charge 0 t)) behind)

-- where a charge is above 0 the formula's bottom is
bottom_up : (c : Charges) (class : ℕ) → 0 < charge_at c class → 0 < but_one (non_zero (charges_of c))
bottom_up c class some =
    rw (all_weights_law c.class0 c.class1 c.class2 c.class3) (some_weight c.class0 c.class1 c.class2 c.class3 class some)

pub over_no_zero : (c : Charges) (class : ℕ) → 0 < charge_at c class → 0 < (bandwidth (non_zero (charges_of c)) (charge_at c class)).bottom
over_no_zero c class some = mul-pos (bottom_up c class some) some

pub come_to_one : (c : Charges) (class : ℕ) → 0 < charge_at c class → Same (sum (bandwidths (non_zero (charges_of c)))) (over 1 1)
come_to_one c class some = add_up_to_one (non_zero (charges_of c)) (product_up (charges_of c)) (bottom_up c class some)
