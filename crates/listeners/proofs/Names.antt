-- How a list falls into names: at its zero bytes.
-- Assumes nothing.
use mathlib.Core.Path.{◌≡◌, refl}
use mathlib.Core.Bool.{Bool, true, false, cond}
use mathlib.Core.List.{List, [], ◌∷◌, ◌++◌}
use Prim.Native.Nat.{ℕ, suc}
use native.Mathlib.Omega.{arith}
use lib.ListN.{length}
use Rattle.lists.specs.Places.{place, here_or}
use Rattle.lists.specs.Bytes.{is_zero}
use Rattle.listeners.specs.Listeners.{names, with_first}

-- no byte is zero
abbrev pub Clean : List ℕ → Type 0
Clean bytes = place is_zero bytes ≡ length bytes

-- bytes that no zero byte ends are no name
pub names_none : (l : List ℕ) → Clean l → names l ≡ []
unfolding names place
names_none [] h = refl
names_none (b ∷ l) h = go (is_zero b) h (names_none l)
  where
    go : (t : Bool) → here_or t (place is_zero l) ≡ suc (length l) → (Clean l → names l ≡ [])
        → cond t ([] ∷ names l) (with_first b (names l)) ≡ []
    go true k ih = absurd (omega arith)
    go false k ih = rw (ih (omega arith))

-- bytes and a zero byte in front of a list are its first name
pub names_front : (name rest : List ℕ) → Clean name → names (name ++ (0 ∷ rest)) ≡ name ∷ names rest
unfolding names place
names_front [] rest h = refl
names_front (b ∷ name) rest h = go (is_zero b) h (names_front name rest)
  where
    go : (t : Bool) → here_or t (place is_zero name) ≡ suc (length name)
        → (Clean name → names (name ++ (0 ∷ rest)) ≡ name ∷ names rest)
        → cond t ([] ∷ names (name ++ (0 ∷ rest))) (with_first b (names (name ++ (0 ∷ rest)))) ≡ (b ∷ name) ∷ names
        rest
    go true k ih = absurd (omega arith)
    go false k ih = rw (ih (omega arith))
