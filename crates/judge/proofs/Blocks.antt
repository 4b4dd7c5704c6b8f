-- The law of a block beside what is left of the message: the library compares the block with it, the definition it with the block.
-- Assumes nothing.
use Rattle.std.proofs.Common.{◌≡◌, ℕ, Bool, true, false, eqb, List, [], ◌∷◌, refl, sym, eq-eqb, ne_eqb, eqb-true}
use borrow.Author.Tests.{eqb-false}
use lib.Pointwise.{pointwise}
use Rattle.listeners.specs.Listeners.{same_bytes}

swapped : (x y : ℕ) → eqb x y ≡ eqb y x
swapped x y = go (eqb x y) refl
  where
    go : (t : Bool) → eqb x y ≡ t → t ≡ eqb y x
    go true is = sym (eq-eqb y x (sym (eqb-true x y is)))
    go false is = sym (ne_eqb y x (λ e. eqb-false x y is (sym e)))

pub compared_so : (block bytes : List ℕ) → pointwise eqb block bytes ≡ same_bytes bytes block
unfolding same_bytes
compared_so [] [] = refl
compared_so [] (y ∷ bytes) = refl
compared_so (x ∷ block) [] = refl
compared_so (x ∷ block) (y ∷ bytes) = rw (swapped x y, compared_so block bytes)
