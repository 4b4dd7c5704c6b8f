-- A number in decimal digits, in ASCII.
use Rattle.std.specs.Prelude.{ℕ, zero, suc, ◌+◌, ◌-◌, ◌*◌, ◌/◌, ◌%◌, cond, List, [], ◌∷◌, ◌++◌, ltb}

-- the code of a digit below 10
abbrev pub digit : ℕ → ℕ
digit d = 48 + d

-- the digits of n, the highest first: those of a tenth of it, and its last. The first number only bounds the steps
unfoldable pub digits_in : ℕ → ℕ → List ℕ
digits_in zero n = []
digits_in (suc steps) n = cond (ltb n 10) (digit n ∷ []) (digits_in steps (n / 10) ++ (digit (n % 10) ∷ []))

-- n has fewer digits than n + 1, so that the bound never counts
unfoldable pub decimal : ℕ → List ℕ
decimal n = digits_in (suc n) n

-- a number below 2 ^ 64 has at most twenty digits, and one byte ends them
abbrev pub FIELD_MAX : ℕ
FIELD_MAX = 21

-- a number with the byte that ends it
unfoldable pub field : ℕ → ℕ → List ℕ
field n end = decimal n ++ (end ∷ [])

-- the number that digits spell, behind a number already spelled
unfoldable pub spelt : ℕ → List ℕ → ℕ
spelt front [] = front
spelt front (d ∷ ds) = spelt (10 * front + (d - 48)) ds
