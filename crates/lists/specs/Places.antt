-- The first place in a list that passes a test: how a record, a number or a zero byte is found.
use Rattle.std.specs.Prelude.{ℕ, suc, Bool, true, false, List, [], ◌∷◌}

-- the place of an element that passes, or one further than in the rest
abbrev pub here_or : Bool → ℕ → ℕ
here_or true n = 0
here_or false n = suc n

-- the place of the first element that passes, or the length where none does
unfoldable pub place : {A : Type 0} → (A → Bool) → List A → ℕ
place p [] = 0
place p (x ∷ xs) = here_or (p x) (place p xs)
