-- The page of shares by class: what is promised of `charges::shares_of`, whose contract is the formula.
-- Assumes nothing.
use mathlib.Core.Path.{◌≡◌}
use mathlib.Core.List.{List, [], ◌∷◌}
use Prim.Native.Nat.{ℕ, ◌+◌, ◌*◌, ◌≤◌, ◌<◌}
use Rattle.reading.specs.declared.Charges.{Charges}
use Rattle.charges.specs.Fractions.{over, times, sum, Same}
use Rattle.charges.specs.Formula.{base, bandwidth, bandwidths, non_zero, share_of, charges_of, shares_of}
use Rattle.charges.specs.Weights.{weighed}
use Rattle.charges.specs.Promises.{charge_at, share_at, total}
use Rattle.charges.proofs.Formula as formula
use Rattle.charges.proofs.Laws as laws

-- ---- the formula

-- with all four charges above 0 it is [MS-RDPEDYC] 2.2.1.1.2's, as it stands there
pub as_it_stands : (c0 c1 c2 c3 : ℕ)
    → base (c0 ∷ c1 ∷ c2 ∷ c3 ∷ []) ≡ over (c0 * c1 * c2 * c3) (c1 * c2 * c3 + c0 * c2 * c3 + c0 * c1 * c3 + c0 * c1 * c2)
as_it_stands = laws.as_it_stands

pub all_four : (c0 c1 c2 c3 : ℕ) → 0 < c0 → 0 < c1 → 0 < c2 → 0 < c3
    → non_zero (c0 ∷ c1 ∷ c2 ∷ c3 ∷ []) ≡ c0 ∷ c1 ∷ c2 ∷ c3 ∷ []
all_four = laws.all_four

-- a class's bandwidth goes with the reciprocal of its charge: the charge times it is the same for every class
pub by_reciprocal : (charges : List ℕ) (charge : ℕ) → Same (times charge (bandwidth charges charge)) (base charges)
by_reciprocal = laws.by_reciprocal

-- "the total sum of all BandwidthPriorityX values is equal to 1", over those above 0; and no bandwidth is over 0
pub come_to_one : (c : Charges) (class : ℕ) → 0 < charge_at c class → Same (sum (bandwidths (non_zero (charges_of c)))) (over 1 1)
come_to_one = laws.come_to_one

pub over_no_zero : (c : Charges) (class : ℕ) → 0 < charge_at c class → 0 < (bandwidth (non_zero (charges_of c)) (charge_at c class)).bottom
over_no_zero = laws.over_no_zero

-- the code's product form is the formula
pub product_form : (c : Charges) → shares_of c ≡ weighed c
product_form = formula.product_form

-- a class's share is by its charge alone, beside the four
pub of_each : (c : Charges) (class : ℕ) → share_at c class ≡ share_of (charges_of c) (charge_at c class)
of_each = laws.of_each

-- ---- the shares

-- "With at least one charge above 0 the four add up to between 9,997 and 10,000."
pub add_up : (c : Charges) (class : ℕ) → 0 < charge_at c class → (9997 ≤ total (shares_of c)) × (total (shares_of c) ≤ 10000)
add_up = laws.add_up

-- "Charges 936, 3276, 9362, 21845 give 7000, 2000, 699, 299."
pub example : shares_of (record { class0 = 936; class1 = 3276; class2 = 9362; class3 = 21845 })
    ≡ record { class0 = 7000; class1 = 2000; class2 = 699; class3 = 299 }
example = laws.example

-- all four 0: four zeros
pub all_zero_law : shares_of (record { class0 = 0; class1 = 0; class2 = 0; class3 = 0 })
    ≡ record { class0 = 0; class1 = 0; class2 = 0; class3 = 0 }
all_zero_law = laws.all_zero_law

-- equal charges have equal shares
pub equal_charges : (c : Charges) (i k : ℕ) → charge_at c i ≡ charge_at c k → share_at c i ≡ share_at c k
equal_charges = laws.equal_charges

-- of two charges above 0 the smaller never has the smaller share
pub smaller_charge : (c : Charges) (i k : ℕ) → 0 < charge_at c i → charge_at c i ≤ charge_at c k → share_at c k ≤ share_at c i
smaller_charge = laws.smaller_charge

-- "A class with charge 0 is outside the formula and has share 0": a share is over 0 only where the charge is
pub only_where : (c : Charges) (class : ℕ) → 0 < share_at c class → 0 < charge_at c class
only_where = laws.only_where
