-- The first bytes of a text that has so many.
-- Assumes nothing.
use mathlib.Core.Path.{◌≡◌, refl}
use mathlib.Core.List.{List, [], ◌∷◌}
use Prim.Native.Nat.{ℕ, ◌-◌, ◌≤◌, ◌<◌}
use native.Mathlib.Omega.{arith}
use lib.ListN.{length, take, drop, get_or, length-drop}
use lib.Seq.{take-length}

pub one_there : (text : List ℕ) → 1 ≤ length text → text ≡ get_or text 0 0 ∷ drop 1 text
one_there [] h = absurd (omega arith)
one_there (b ∷ text) h = refl

pub two_there : (text : List ℕ) → 2 ≤ length text → text ≡ get_or text 0 0 ∷ get_or text 1 0 ∷ drop 2 text
two_there [] h = absurd (omega arith)
two_there (b ∷ []) h = absurd (omega arith)
two_there (b ∷ c ∷ text) h = refl

pub none_there : (text : List ℕ) → length text < 1 → text ≡ []
none_there [] h = refl
none_there (b ∷ text) h = absurd (omega arith)

-- what a text has behind so many bytes, as the code takes it
pub rest_behind : (text : List ℕ) (n : ℕ) → take (length text - n) (drop n text) ≡ drop n text
rest_behind text n = rw (← (length-drop n text)) (take-length (drop n text))
