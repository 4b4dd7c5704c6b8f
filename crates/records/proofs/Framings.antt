-- The laws of records, whatever a record is.
-- Assumes nothing.
use mathlib.Core.Path.{◌≡◌, refl, sym, ◌∙◌}
use mathlib.Core.Logic.{⊎_elim}
use mathlib.Core.List.{List, [], ◌∷◌, ◌++◌}
use Prim.Native.Nat.{ℕ, zero, suc, ◌≤◌, ◌<◌}
use native.Mathlib.Omega.{arith}
use borrow.Author.Tests.{eq-eqb, ne_eqb}
use lib.ListN.{length, drop, length-drop}
use lib.Seq.{length-take-le, take-append-le}
use Rattle.lists.proofs.Cases.{lt_or_le}
use Rattle.records.specs.Walks.{Framing, front_of, records_in, records_of}

-- the record at the front has its bytes
pub length_front : {extent : List ℕ → ℕ} → Framing extent → (input : List ℕ) → length (front_of extent input) ≡ extent input
unfolding front_of
length_front {extent} f input = length-take-le (extent input) input (f.fits input)

-- more bytes behind it leave it as it is
pub front_more : {extent : List ℕ → ℕ} → Framing extent → (input behind : List ℕ) → 0 < extent input
    → front_of extent (input ++ behind) ≡ front_of extent input
unfolding front_of
front_more {extent} f input behind some =
    rw (f.more input behind some) (take-append-le (extent input) input behind (f.fits input))

none_in : (extent : List ℕ → ℕ) (k : ℕ) (input : List ℕ) → extent input ≡ 0 → records_in extent k input ≡ []
unfolding records_in
none_in extent zero input h = refl
none_in extent (suc k) input h = rw (eq-eqb (extent input) 0 h)

one_more : (extent : List ℕ → ℕ) (k : ℕ) (input : List ℕ) → 0 < extent input
    → records_in extent (suc k) input ≡ front_of extent input ∷ records_in extent k (drop (extent input) input)
unfolding records_in
one_more extent k input h = rw (ne_eqb (extent input) 0 (λ e. omega arith))

-- the bound on the steps never counts
records_any : {extent : List ℕ → ℕ} → Framing extent → (k m : ℕ) (input : List ℕ) → length input ≤ k → length input ≤ m
    → records_in extent k input ≡ records_in extent m input
records_any {extent} f zero m input h g =
    let none : extent input ≡ 0 = omega (arith, f.fits input) in
    none_in extent zero input none ∙ sym (none_in extent m input none)
records_any {extent} f (suc k) zero input h g =
    let none : extent input ≡ 0 = omega (arith, f.fits input) in
    none_in extent (suc k) input none ∙ sym (none_in extent zero input none)
records_any {extent} f (suc k) (suc m) input h g =
    ⊎_elim
    (λ (some : 0 < extent input).
    rw (
      one_more extent k input some,
      one_more extent m input some,
      records_any f k m (drop (extent input) input) (rw length-drop (omega arith)) (rw length-drop (omega arith)),
    ))
    (λ (none : extent input ≤ 0). none_in extent (suc k) input (omega arith) ∙ sym (none_in extent (suc m) input (omega arith)))
    (lt_or_le 0 (extent input))

-- where no whole record stands there is none
pub records_none : (extent : List ℕ → ℕ) (input : List ℕ) → extent input ≡ 0 → records_of extent input ≡ []
unfolding records_of
records_none extent input h = none_in extent (length input) input h

-- where one stands it is the first, and the others are those of the rest
pub records_first : {extent : List ℕ → ℕ} → Framing extent → (input : List ℕ) → 0 < extent input
    → records_of extent input ≡ front_of extent input ∷ records_of extent (drop (extent input) input)
unfolding records_of
records_first {extent} f input h =
    let rest = drop (extent input) input in
    records_any f (length input) (suc (length input)) input (omega arith) (omega arith)
    ∙ one_more extent (length input) input h
    ∙ rw (records_any f (length input) (length rest) rest (rw length-drop (omega arith)) (omega arith))
