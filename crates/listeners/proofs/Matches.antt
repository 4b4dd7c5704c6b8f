-- The match of two names is true exactly where they are equal.
-- Assumes nothing.
use mathlib.Core.Path.{◌≡◌, refl, sym}
use mathlib.Core.Bool.{Bool, true, false}
use mathlib.Core.List.{List, [], ◌∷◌, ◌++◌}
use Prim.Native.Nat.{ℕ}
use borrow.Author.Tests.{eq-eqb, eqb-true}
use lib.Dec.{eqb}
use Rattle.lists.proofs.Cases.{both}
use Rattle.listeners.specs.Listeners.{same_bytes}

-- equal names match
pub same_self : (a : List ℕ) → same_bytes a a ≡ true
unfolding same_bytes
same_self [] = refl
same_self (x ∷ a) = rw (eq-eqb x x refl, same_self a)

-- names that match are equal
pub same_equal : (a b : List ℕ) → same_bytes a b ≡ true → a ≡ b
unfolding same_bytes
same_equal [] [] e = refl
same_equal [] (y ∷ b) e = cc
same_equal (x ∷ a) [] e = cc
same_equal (x ∷ a) (y ∷ b) e =
    let h = both (eqb x y) (same_bytes a b) e in
    rw (eqb-true x y h.0, same_equal a b h.1)

-- bytes compared are bytes that are the same or not
pub compared : (a b : List ℕ) (r : Bool) → (r ≡ true → a ≡ b) → (a ≡ b → r ≡ true) → r ≡ same_bytes a b
compared a b r f g = agree r (same_bytes a b) (λ e. rw (f e) (same_self b)) (λ e. g (same_equal a b e))
  where
    agree : (s t : Bool) → (s ≡ true → t ≡ true) → (t ≡ true → s ≡ true) → s ≡ t
    agree true t p q = sym (p refl)
    agree false true p q = q refl
    agree false false p q = refl

-- names that differ do not match
pub unlike : (a b : List ℕ) → (a ≡ b → ⊥) → same_bytes a b ≡ false
unlike a b h = go (same_bytes a b) refl
  where
    go : (t : Bool) → same_bytes a b ≡ t → same_bytes a b ≡ false
    go true e = absurd (h (same_equal a b e))
    go false e = e

-- behind equal bytes the match goes on
pub same_behind : (p a b : List ℕ) → same_bytes (p ++ a) (p ++ b) ≡ same_bytes a b
unfolding same_bytes
same_behind [] a b = refl
same_behind (x ∷ p) a b = rw (eq-eqb x x refl, same_behind p a b)
