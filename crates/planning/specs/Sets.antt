-- "A file of eight-byte sets": four charges of two bytes each, little-endian.
use Rattle.std.specs.Prelude.{ℕ, cond, List, length, nat_lt}
use Rattle.reading.specs.declared.Charges.{Charges}
use Rattle.reading.specs.Reading.{charges_at}
use Rattle.records.specs.Items.{items_in}

abbrev pub SET : ℕ
SET = 8

-- the bytes of the set at the front, or 0 where no whole set stands there
unfoldable pub set_extent : List ℕ → ℕ
set_extent input = cond (nat_lt (length input) SET) 0 SET

unfoldable pub charges_in : List ℕ → Charges
charges_in set = charges_at set 0

-- the whole sets of a file
abbrev pub sets_of : List ℕ → List Charges
sets_of file = items_in set_extent charges_in file
