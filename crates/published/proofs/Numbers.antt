-- Hexadecimal digits and pairs of them, as the library reads and joins them.
-- Assumes nothing.
use Rattle.std.proofs.Common.{◌≡◌, ℕ, ◌<◌, Bool, true, false, List, [], ◌∷◌, cond, not, ◌&&◌, eqb, refl, sym, ◌∙◌, arith, ltb}
use Rattle.std.specs.Prelude.{Option, None, Some, SomeIff}
use Rattle.std.specs.Char.{digit_value}
use borrow.Author.Tests.{lt-ltb, le-ltb}
use Rattle.std.proofs.lemmas.Bool.Decides.{nat_tests}
use Rattle.listeners.specs.Listeners.{same_bytes}
use lib.Pointwise.{pointwise}
use Rattle.std.specs.Option.{option_eq}
use Rattle.codepage.specs.Points.{NONE, point_of, point_for}
use Rattle.published.specs.Claims.{digit_in, is_pair, agrees}

-- a digit is what the library reads to the base 16
same_digit : (c : ℕ) → digit_in c ≡ cond (ltb (digit_value c) 16) (Some (digit_value c)) None
unfolding digit_in
same_digit c = grind (arith, nat_tests)

pub read_digit : (c : ℕ) (r : Option ℕ) → SomeIff r (digit_value c < 16) (digit_value c) → r ≡ digit_in c
read_digit c None is = sym (same_digit c ∙ rw (le-ltb (digit_value c) 16 (omega arith)))
read_digit c (Some d) is = sym (same_digit c ∙ rw (lt-ltb (digit_value c) 16 is.0, ← is.1))

-- ---- the library's tests

pub same_pointwise : (a b : List ℕ) → pointwise eqb a b ≡ same_bytes a b
unfolding same_bytes
same_pointwise [] [] = refl
same_pointwise [] (y ∷ b) = refl
same_pointwise (x ∷ a) [] = refl
same_pointwise (x ∷ a) (y ∷ b) = rw (same_pointwise a b)

pub same_pair : (r : Option ℕ) (byte : ℕ) → option_eq eqb r (Some byte) ≡ is_pair r byte
same_pair None byte = refl
same_pair (Some n) byte = refl

-- what a line says is what our table has
pub same_claim : (claim : Option (Option ℕ)) (byte : ℕ) → option_eq (option_eq eqb) claim (Some (point_for byte)) ≡ agrees claim byte
unfolding point_for
same_claim None byte = refl
same_claim (Some None) byte = go (eqb (point_of byte) NONE)
  where
    go : (t : Bool) → option_eq eqb None (cond t None (Some (point_of byte))) ≡ t
    go true = refl
    go false = refl
same_claim (Some (Some p)) byte = go (eqb (point_of byte) NONE) refl
  where
    go : (t : Bool) → eqb (point_of byte) NONE ≡ t → option_eq eqb (Some p) (cond t None (Some (point_of byte))) ≡ (not (eqb p NONE) && eqb p (point_of byte))
    go true e = grind (arith, nat_tests)
    go false e = grind (arith, nat_tests)
