-- The laws of a record that is a PDU after its length.
-- Assumes nothing.
use mathlib.Core.Path.{◌≡◌, refl, sym, ap, ◌∙◌}
use mathlib.Core.List.{List, ◌++◌}
use Prim.Native.Nat.{ℕ, ◌+◌, ◌≤◌, ◌<◌}
use native.Mathlib.Omega.{arith}
use borrow.Author.Tests.{ltb-false, le-ltb}
use lib.Dec.{ltb}
use lib.ListN.{length, length-append}
use lib.Seq.{take-append-le}
use Rattle.lists.proofs.Cases.{choice}
use Rattle.records.specs.Records.{LENGTH, announced, whole_of}
use Rattle.records.specs.Walks.{Framing}

-- where a whole record stands, its bytes are there, and its length is among them
pub whole_fits : (input : List ℕ) → (whole_of input ≤ length input) × ((0 < whole_of input) → LENGTH ≤ whole_of input)
unfolding whole_of
whole_fits input =
    choice (λ (n : ℕ). (n ≤ length input) × ((0 < n) → LENGTH ≤ n)) (ltb (length input) LENGTH)
    (λ h. (omega arith, λ g. absurd (omega arith)))
    (λ h. choice (λ (n : ℕ). (n ≤ length input) × ((0 < n) → LENGTH ≤ n))
    (ltb (length input) (LENGTH + announced input)) (λ g. (omega arith, λ k. absurd (omega arith)))
    (λ g. (ltb-false _ _ g, λ k. omega arith)))

-- ---- more bytes behind

announced_more : (input more : List ℕ) → LENGTH ≤ length input → announced (input ++ more) ≡ announced input
unfolding announced
announced_more input more h = rw (take-append-le LENGTH input more h)

whole_is : (input : List ℕ) → 0 < whole_of input
    → (LENGTH + announced input ≤ length input) × (whole_of input ≡ LENGTH + announced input)
unfolding whole_of
whole_is input =
    let Is : ℕ → Type 0 = λ n. 0 < n → (LENGTH + announced input ≤ length input) × (n ≡ LENGTH + announced input) in
    choice Is (ltb (length input) LENGTH) (λ h k. absurd (omega arith))
    (λ h. choice Is (ltb (length input) (LENGTH + announced input)) (λ g k. absurd (omega arith))
    (λ g k. (ltb-false _ _ g, refl)))

whole_there : (input : List ℕ) → LENGTH + announced input ≤ length input → whole_of input ≡ LENGTH + announced input
unfolding whole_of
whole_there input h = rw (
  le-ltb (length input) LENGTH (omega arith),
  le-ltb (length input) (LENGTH + announced input) h,
)

-- more bytes behind a whole record leave it as it is
pub whole_more : (input more : List ℕ) → 0 < whole_of input → whole_of (input ++ more) ≡ whole_of input
whole_more input more some =
    let is = whole_is input some in
    let same = announced_more input more (omega arith) in
    let there : LENGTH + announced (input ++ more) ≤ length (input ++ more) = rw (same, length-append) (omega arith) in
    whole_there (input ++ more) there ∙ ap (λ (n : ℕ). LENGTH + n) same ∙ sym is.1

-- such records are a framing
pub whole_framing : Framing whole_of
whole_framing = record { fits = λ input. (whole_fits input).0; more = whole_more }
