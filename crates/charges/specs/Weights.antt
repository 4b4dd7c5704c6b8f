-- The formula's fractions over one bottom, as the code has them: a class weighs the product of the other charges, and its share is its
-- weight's part of all four.
use Rattle.std.specs.Prelude.{ℕ, ◌+◌, ◌*◌, ◌/◌, cond, eqb}
use Rattle.reading.specs.declared.Charges.{Charges}
use Rattle.charges.specs.declared.Shares.{Shares}
use Rattle.charges.specs.Formula.{WHOLE}

-- a charge has two bytes, and a weight has three charges
abbrev pub CHARGE_MAX : ℕ
CHARGE_MAX = 65535

abbrev pub WEIGHT_MAX : ℕ
WEIGHT_MAX = CHARGE_MAX * CHARGE_MAX * CHARGE_MAX

-- a charge of 0 is left out of every product
unfoldable pub or_one : ℕ → ℕ
or_one charge = cond (eqb charge 0) 1 charge

-- and has no weight
unfoldable pub weight : ℕ → ℕ → ℕ → ℕ → ℕ
weight charge a b c = cond (eqb charge 0) 0 (a * b * c)

-- the four together
abbrev pub all_weights : ℕ → ℕ → ℕ → ℕ → ℕ
all_weights c0 c1 c2 c3 =
    weight c0 (or_one c1) (or_one c2) (or_one c3) + weight c1 (or_one c0) (or_one c2) (or_one c3)
    + weight c2 (or_one c0) (or_one c1) (or_one c3) + weight c3 (or_one c0) (or_one c1) (or_one c2)

-- a weight's part of all, in ten-thousandths rounded down
unfoldable pub part : ℕ → ℕ → ℕ
part w all = WHOLE * w / all

abbrev pub parts : ℕ → ℕ → ℕ → ℕ → Shares
parts w0 w1 w2 w3 =
    record {
      class0 = part w0 (w0 + w1 + w2 + w3);
      class1 = part w1 (w0 + w1 + w2 + w3);
      class2 = part w2 (w0 + w1 + w2 + w3);
      class3 = part w3 (w0 + w1 + w2 + w3);
    }

unfoldable pub weighed : Charges → Shares
weighed c =
    parts
    (weight c.class0 (or_one c.class1) (or_one c.class2) (or_one c.class3))
    (weight c.class1 (or_one c.class0) (or_one c.class2) (or_one c.class3))
    (weight c.class2 (or_one c.class0) (or_one c.class1) (or_one c.class3))
    (weight c.class3 (or_one c.class0) (or_one c.class1) (or_one c.class2))
