-- What is left of an input behind its whole records. However an input is cut into pieces, its records are those of each piece
-- behind what the piece before left.
-- Assumes nothing.
use mathlib.Core.Path.{◌≡◌, refl, sym, ◌∙◌}
use mathlib.Core.Logic.{⊎_elim}
use mathlib.Core.List.{List, ◌∷◌, ◌++◌}
use Prim.Native.Nat.{ℕ, zero, suc, ◌+◌, ◌≤◌, ◌<◌}
use native.Mathlib.Omega.{arith}
use lib.ListN.{length, drop, length-drop}
use lib.Seq.{drop-append-le, drop-drop}
use Rattle.lists.proofs.Cases.{lt_or_le}
use Rattle.records.specs.Walks.{Framing, front_of, records_of, size_of, rest_of}
use Rattle.records.proofs.Framings.{length_front, front_more, records_none, records_first}

-- ---- no whole record

module _ (extent : List ℕ → ℕ) (input : List ℕ) (none : extent input ≡ 0) where
  pub size_none : size_of (records_of extent input) ≡ 0
  unfolding size_of
  size_none = rw (records_none extent input none)

  pub rest_none : rest_of extent input ≡ input
  unfolding rest_of
  rest_none = rw size_none refl

module _ {extent : List ℕ → ℕ} (f : Framing extent) where
  -- ---- one in front

  -- what is behind it
  abbrev behind : List ℕ → List ℕ
  behind input = drop (extent input) input

  pub size_first : (input : List ℕ) → 0 < extent input
      → size_of (records_of extent input) ≡ extent input + size_of (records_of extent (behind input))
  unfolding size_of
  size_first input some = rw (records_first f input some, length_front f input)

  pub rest_first : (input : List ℕ) → 0 < extent input → rest_of extent input ≡ rest_of extent (behind input)
  unfolding rest_of
  rest_first input some = rw (size_first input some) (sym (drop-drop (size_of (records_of extent (behind input))) (extent input) input))

  -- ---- record by record

  -- a law of inputs that holds where no whole record stands, and of an input where it holds of what is behind the first one
  pub by_records :
      (P : List ℕ → Type 0) → ((input : List ℕ) → extent input ≡ 0 → P input)
      → ((input : List ℕ) → 0 < extent input → P (behind input) → P input) → (input : List ℕ) → P input
  by_records P none some input = go (length input) input (omega arith)
    where
      go : (k : ℕ) (input : List ℕ) → length input ≤ k → P input
      go zero input h = none input (omega (arith, f.fits input))
      go (suc k) input h =
          ⊎_elim
          (λ (one : 0 < extent input). some input one (go k (behind input) (rw length-drop (omega arith))))
          (λ (no : extent input ≤ 0). none input (omega arith))
          (lt_or_le 0 (extent input))

  -- the records' bytes are there
  pub size_within : (input : List ℕ) → size_of (records_of extent input) ≤ length input
  size_within =
      by_records (λ input. size_of (records_of extent input) ≤ length input) (λ input no. rw (size_none extent input no) (omega arith))
      (λ input one later. rw (size_first input one) (omega (arith, later, length-drop (extent input) input, f.fits input)))

  -- no whole record is left
  pub rest_has_none : (input : List ℕ) → extent (rest_of extent input) ≡ 0
  rest_has_none =
      by_records (λ input. extent (rest_of extent input) ≡ 0) (λ input no. rw (rest_none extent input no) no)
      (λ input one later. rw (rest_first input one) later)

  -- ---- more behind it

  module _ (more : List ℕ) where
    -- the record in front stays, and so does what is behind it
    first_more : (input : List ℕ) → 0 < extent input
        → records_of extent (input ++ more) ≡ front_of extent input ∷ records_of extent (behind input ++ more)
    first_more input one =
        let same = f.more input more one in
        records_first f (input ++ more) (rw same one)
        ∙ rw (front_more f input more one, same, drop-append-le (extent input) input more (f.fits input))

    left_more : (input : List ℕ) → 0 < extent input → rest_of extent (input ++ more) ≡ rest_of extent (behind input ++ more)
    left_more input one =
        let same = f.more input more one in
        rest_first (input ++ more) (rw same one) ∙ rw (same, drop-append-le (extent input) input more (f.fits input))

    pub records_more : (input : List ℕ) → records_of extent (input ++ more) ≡ records_of extent input ++ records_of extent (rest_of extent input ++ more)
    records_more =
        by_records (λ input. records_of extent (input ++ more) ≡ records_of extent input ++ records_of extent (rest_of extent input ++ more))
        (λ input no. rw (records_none extent input no, rest_none extent input no) refl)
        (λ input one later. first_more input one ∙ rw (later, records_first f input one, rest_first input one) refl)

    pub rest_more : (input : List ℕ) → rest_of extent (input ++ more) ≡ rest_of extent (rest_of extent input ++ more)
    rest_more =
        by_records (λ input. rest_of extent (input ++ more) ≡ rest_of extent (rest_of extent input ++ more))
        (λ input no. rw (rest_none extent input no) refl)
        (λ input one later. left_more input one ∙ rw (later, rest_first input one) refl)
