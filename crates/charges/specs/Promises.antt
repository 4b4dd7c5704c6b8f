-- What is promised of shares, class by class.
use Rattle.std.specs.Prelude.{ℕ, ◌+◌, [], ◌∷◌, get_or}
use Rattle.reading.specs.declared.Charges.{Charges}
use Rattle.charges.specs.declared.Shares.{Shares}
use Rattle.charges.specs.Formula.{charges_of, shares_of}

-- the charge and the share of a class. Behind class 3 there are none
abbrev pub charge_at : Charges → ℕ → ℕ
charge_at c class = get_or (charges_of c) class 0

abbrev pub share_at : Charges → ℕ → ℕ
share_at c class =
    get_or ((shares_of c).class0 ∷ (shares_of c).class1 ∷ (shares_of c).class2 ∷ (shares_of c).class3 ∷ []) class 0

-- the four added up
abbrev pub total : Shares → ℕ
total s = s.class0 + s.class1 + s.class2 + s.class3
