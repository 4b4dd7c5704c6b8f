-- The laws of decimal digits.
-- Assumes nothing.
use mathlib.Core.Path.{◌≡◌, refl, sym}
use mathlib.Core.Logic.{⊎_elim}
use mathlib.Core.List.{List, [], ◌∷◌, ◌++◌}
use Prim.Native.Nat.{ℕ, zero, suc, ◌+◌, ◌-◌, ◌*◌, ◌^◌, ◌/◌, ◌%◌, ◌≤◌, ◌<◌}
use native.Mathlib.Omega.{arith}
use borrow.Author.Tests.{lt-ltb, le-ltb}
use Rattle.std.specs.Fmt as std
use Rattle.std.proofs.lemmas.Fmt.{decimal_by_steps}
use Rattle.lists.proofs.Cases.{lt_or_le}
use Rattle.lines.specs.Decimal.{digit, digits_in, decimal, spelt}

-- the bound on the steps never counts
digits_any : (k m n : ℕ) → n < k → n < m → digits_in k n ≡ digits_in m n
unfolding digits_in
digits_any zero m n h g = absurd (omega arith)
digits_any (suc k) zero n h g = absurd (omega arith)
digits_any (suc k) (suc m) n h g =
    ⊎_elim
    (λ (few : n < 10). rw (lt-ltb n 10 few))
    (λ (more : 10 ≤ n). rw (le-ltb n 10 more, digits_any k m (n / 10) (omega arith) (omega arith)))
    (lt_or_le n 10)

-- one digit
pub decimal_one : (n : ℕ) → n < 10 → decimal n ≡ digit n ∷ []
unfolding decimal digits_in
decimal_one n h = rw (lt-ltb n 10 h)

-- more: those of a tenth, and the last
pub decimal_more : (n : ℕ) → 10 ≤ n → decimal n ≡ decimal (n / 10) ++ (digit (n % 10) ∷ [])
unfolding decimal digits_in
decimal_more n h = rw (le-ltb n 10 h, digits_any n (suc (n / 10)) (n / 10) (omega arith) (omega arith))

-- the digits are those that the library writes
pub decimal_std : (n : ℕ) → n < 2 ^ 64 → std.decimal n ≡ decimal n
decimal_std = decimal_by_steps
    (λ m ds. ds ≡ decimal m)
    (λ m l. sym (decimal_one m l))
    (λ m ds l h. rw h (sym (decimal_more m l)))

-- ---- the digits are the number's

spelt_append : (front : ℕ) (xs ys : List ℕ) → spelt front (xs ++ ys) ≡ spelt (spelt front xs) ys
unfolding spelt
spelt_append front [] ys = refl
spelt_append front (x ∷ xs) ys = spelt_append (10 * front + (x - 48)) xs ys

spelt_in : (k n : ℕ) → n < k → spelt 0 (digits_in k n) ≡ n
unfolding digits_in spelt
spelt_in zero n h = absurd (omega arith)
spelt_in (suc k) n h =
    ⊎_elim
    (λ (few : n < 10). rw (lt-ltb n 10 few) (omega arith))
    (λ (more : 10 ≤ n). rw (
      le-ltb n 10 more,
      spelt_append 0 (digits_in k (n / 10)) (digit (n % 10) ∷ []),
      spelt_in k (n / 10) (omega arith),
    ) (omega arith))
    (lt_or_le n 10)

-- a number's digits spell it
pub spelt_decimal : (n : ℕ) → spelt 0 (decimal n) ≡ n
unfolding decimal
spelt_decimal n = spelt_in (suc n) n (omega arith)
