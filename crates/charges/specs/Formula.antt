-- [MS-RDPEDYC] 2.2.1.1.2: "The PriorityCharge fields determine how much bandwidth is allocated for each priority class. The percentage is
-- calculated using the following formula." It stands here for any number of charges, since of those that are 0 "the priority formula is
-- not used [..]; remaining bandwidth is shared among channels with non-zero PriorityChargeX values, as described in the formula".
use Rattle.std.specs.Prelude.{ℕ, ◌+◌, ◌*◌, cond, List, [], ◌∷◌, map, eqb}
use Rattle.reading.specs.declared.Charges.{Charges}
use Rattle.charges.specs.declared.Shares.{Shares}
use Rattle.charges.specs.Fractions.{Fraction, over, divided_by, times, floor}

-- ---- the formula

-- "PriorityCharge0 * PriorityCharge1 * PriorityCharge2 * PriorityCharge3"
unfoldable pub product : List ℕ → ℕ
product [] = 1
product (charge ∷ charges) = charge * product charges

-- "PriorityCharge1 * PriorityCharge2 * PriorityCharge3 + PriorityCharge0 * PriorityCharge2 * PriorityCharge3 + ..": the product of all but
-- the first, and those of the first with all but one of the others
unfoldable pub but_one : List ℕ → ℕ
but_one [] = 0
but_one (charge ∷ charges) = product charges + charge * but_one charges

-- "Base = PriorityCharge0 * PriorityCharge1 * PriorityCharge2 * PriorityCharge3 / (PriorityCharge1 * ..)"
abbrev pub base : List ℕ → Fraction
base charges = over (product charges) (but_one charges)

-- "BandwidthPriority0 = Base / PriorityCharge0", and so for each
abbrev pub bandwidth : List ℕ → ℕ → Fraction
bandwidth charges charge = divided_by (base charges) charge

-- those of all charges
abbrev pub bandwidths : List ℕ → List Fraction
bandwidths charges = map (bandwidth charges) charges

-- ---- shares

-- "in ten-thousandths"
abbrev pub WHOLE : ℕ
WHOLE = 10000

-- "non-zero PriorityChargeX values"
unfoldable pub non_zero : List ℕ → List ℕ
non_zero [] = []
non_zero (charge ∷ charges) = cond (eqb charge 0) (non_zero charges) (charge ∷ non_zero charges)

-- "in ten-thousandths rounded down. A class with charge 0 is outside the formula and has share 0."
unfoldable pub share_of : List ℕ → ℕ → ℕ
share_of charges charge = cond (eqb charge 0) 0 (floor (times WHOLE (bandwidth (non_zero charges) charge)))

abbrev pub charges_of : Charges → List ℕ
charges_of c = c.class0 ∷ c.class1 ∷ c.class2 ∷ c.class3 ∷ []

unfoldable pub shares_of : Charges → Shares
shares_of c =
    record {
      class0 = share_of (charges_of c) c.class0;
      class1 = share_of (charges_of c) c.class1;
      class2 = share_of (charges_of c) c.class2;
      class3 = share_of (charges_of c) c.class3;
    }
