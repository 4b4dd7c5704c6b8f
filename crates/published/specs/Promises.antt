-- What is promised of a file that is compared.
use Rattle.std.specs.Prelude.{ℕ, zero, suc, List, [], ◌∷◌, Option, None, Some}
use Rattle.codepage.specs.Points.{point_for}
use Rattle.published.specs.Claims.{claim_in}

-- what a line says its byte has: a code point, or None
abbrev pub told : Option (Option ℕ) → Option ℕ
told (Some point) = point
told None = None

-- the table that the lines tell, from the k-th byte on
unfoldable pub table_in : ℕ → List (List ℕ) → List (Option ℕ)
table_in k [] = []
table_in k (line ∷ lines) = told (claim_in k line) ∷ table_in (suc k) lines

-- ours, of n bytes from the k-th on
unfoldable pub our_table : ℕ → ℕ → List (Option ℕ)
our_table k zero = []
our_table k (suc n) = point_for k ∷ our_table (suc k) n
