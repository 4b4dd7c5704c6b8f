-- The words of a list, low byte first, and their sum without a carry.
-- Assumes nothing.
use mathlib.Core.Path.{◌≡◌, refl, sym, ap, ◌∙◌}
use mathlib.Core.List.{List, [], ◌∷◌, ◌++◌}
use Prim.Native.Nat.{ℕ, suc, zero, ◌+◌, ◌*◌, ◌≤◌, ◌<◌}
use native.Mathlib.Omega.{arith}
use lib.ListN.{length, take, drop, get_or, set, length-set, length-drop, drop_of_length-le}
use lib.Seq.{drop-cons, drop-drop, length-take-le, get_or-set_same, get_or-set_other}
use Rattle.std.specs.Int.{w16, to_le_bytes}
use Rattle.std.specs.Simd.{first_chunks}
use Rattle.numbers.specs.Numbers.{little, bytes_of, value_of, value_at}

-- a word is its two bytes
pub word_is : (l : List ℕ) (at : ℕ) → value_at l at 2 ≡ get_or l at 0 + 256 * get_or l (suc at) 0
unfolding value_at value_of little
word_is [] zero = refl
word_is [] (suc at) = refl
word_is (x ∷ []) zero = omega arith
word_is (x ∷ y ∷ l) zero = omega arith
word_is (x ∷ l) (suc at) = word_is l at

-- the sum of a list's words
unfoldable pub total : List ℕ → ℕ
total [] = 0
total (low ∷ []) = low
total (low ∷ high ∷ bytes) = low + 256 * high + total bytes

-- the first word of those from a place on
pub total_on : (l : List ℕ) (at : ℕ) → at + 1 < length l → total (drop at l) ≡ value_at l at 2 + total (drop (at + 2) l)
unfolding total
total_on l at h =
    let two : at + 2 ≡ suc (suc at) = omega arith in
    rw (word_is l at, two, drop-cons l at 0 (omega arith), drop-cons l (suc at) 0 (omega arith)) refl

-- and past the end none
pub total_end : (l : List ℕ) (at : ℕ) → length l ≤ at → total (drop at l) ≡ 0
unfolding total
total_end l at h = rw (drop_of_length-le l {i = at} h)

-- whole words in front
pub total_append : (k : ℕ) (xs ys : List ℕ) → length xs ≡ k + k → total (xs ++ ys) ≡ total xs + total ys
unfolding total
total_append zero [] ys h = omega arith
total_append zero (x ∷ xs) ys h = absurd (omega arith)
total_append (suc k) [] ys h = absurd (omega arith)
total_append (suc k) (x ∷ []) ys h = absurd (omega arith)
total_append (suc k) (x ∷ y ∷ xs) ys h = omega (arith, total_append k xs ys (omega arith))

-- another word in a word's place
pub total_set : (k : ℕ) (l : List ℕ) (x y : ℕ) → suc (k + k) < length l
    → total (set (set l (k + k) x) (suc (k + k)) y) + value_at l (k + k) 2 ≡ total l + (x + 256 * y)
unfolding total value_at
total_set k [] x y h = absurd (omega arith)
total_set k (a ∷ []) x y h = absurd (omega arith)
total_set zero (a ∷ b ∷ l) x y h = omega (arith, word_is (a ∷ b ∷ l) 0)
total_set (suc k) (a ∷ b ∷ l) x y h =
    let two : suc k + suc k ≡ suc (suc (k + k)) = omega arith in
    rw two (omega (arith, total_set k l x y (omega arith)))

-- and it is read there,
pub word_set : (l : List ℕ) (at x y : ℕ) → suc at < length l → value_at (set (set l at x) (suc at) y) at 2 ≡ x + 256 * y
word_set l at x y h =
    let low : get_or (set (set l at x) (suc at) y) at 0 ≡ x =
    get_or-set_other (set l at x) (suc at) at y 0 (λ e. omega arith) ∙ get_or-set_same l at x 0 (omega arith) in
    let high : get_or (set (set l at x) (suc at) y) (suc at) 0 ≡ y =
    get_or-set_same (set l at x) (suc at) y 0 (rw length-set h) in
    rw (word_is, low, high)

-- and the others stay
pub word_other : (l : List ℕ) (k j x y : ℕ) → (j ≡ k → ⊥)
    → value_at (set (set l (k + k) x) (suc (k + k)) y) (j + j) 2 ≡ value_at l (j + j) 2
word_other l k j x y h =
    let low = stays (j + j) (λ e. h (omega arith)) (λ e. omega arith) in
    let high = stays (suc (j + j)) (λ e. omega arith) (λ e. h (omega arith)) in
    rw (word_is (set (set l (k + k) x) (suc (k + k)) y) (j + j), low, high) (sym (word_is l (j + j)))
  where
    stays : (i : ℕ) → (i ≡ k + k → ⊥) → (i ≡ suc (k + k) → ⊥) → get_or (set (set l (k + k) x) (suc (k + k)) y) i 0 ≡ get_or l i 0
    stays i a b = get_or-set_other (set l (k + k) x) (suc (k + k)) i y 0 b ∙ get_or-set_other l (k + k) i x 0 a

-- ---- a list as its words, one behind the other

word_of : (k : ℕ) (l : List ℕ) (i : ℕ) (none : List ℕ) → i < k → get_or (first_chunks 2 k l) i none ≡ take 2 (drop (2 * i) l)
word_of zero l i none h = absurd (omega arith)
word_of (suc k) l zero none h = refl
word_of (suc k) l (suc i) none h =
    let e : 2 + 2 * i ≡ 2 * suc i = omega arith in
    word_of k (drop 2 l) i none (omega arith) ∙ ap (take 2) (drop-drop (2 * i) 2 l) ∙ ap (λ (n : ℕ). take 2 (drop n l)) e

two_is : (l : List ℕ) → length l ≡ 2 → value_of l ≡ get_or l 0 0 + 256 * get_or l 1 0
unfolding value_of little
two_is [] h = absurd (omega arith)
two_is (x ∷ []) h = absurd (omega arith)
two_is (x ∷ y ∷ []) h = omega arith
two_is (x ∷ y ∷ z ∷ l) h = absurd (omega arith)

-- the word of a place among them, and those behind it
pub total_word : (l : List ℕ) (words : List (List ℕ)) (none : List ℕ) (i k : ℕ) → words ≡ first_chunks 2 k l → i < k → 2 * k ≤ length l
    → total (drop (2 * i) l) ≡ get_or (get_or words i none) 0 0 + 256 * get_or (get_or words i none) 1 0 + total (drop (2 * (i + 1)) l)
unfolding value_at
total_word l words none i k e h r =
    let word = take 2 (drop (2 * i) l) in
    let is : get_or words i none ≡ word = ap (λ (ws : List (List ℕ)). get_or ws i none) e ∙ word_of k l i none h in
    let two : length word ≡ 2 = length-take-le 2 (drop (2 * i) l) (rw length-drop (omega arith)) in
    let next : 2 * (i + 1) ≡ 2 * i + 2 = omega arith in
    rw (is, next) (total_on l (2 * i) (omega arith) ∙ ap (λ (v : ℕ). v + total (drop (2 * i + 2) l)) (two_is word two))

-- a word's bytes, as the library has them
pub bytes_word : (v : ℕ) → bytes_of 2 v ≡ to_le_bytes w16 v
unfolding bytes_of
bytes_word v = refl
