-- The laws of numbers in bytes, each once for all widths.
-- Assumes nothing.
use mathlib.Core.Path.{◌≡◌, refl, ap}
use mathlib.Core.List.{List, [], ◌∷◌, ◌++◌}
use mathlib.Core.Logic.{⊎_elim}
use Prim.Native.Nat.{ℕ, zero, suc, ◌+◌, ◌*◌, ◌/◌, ◌%◌, ◌^◌, ◌≤◌, ◌<◌, ◌-◌}
use native.Mathlib.Nat.{mod-add-div, pow-suc, div-lt_iff_lt-mul, lt_of_lt_of_le, pow-le-pow_right}
use native.Mathlib.Omega.{arith}
use borrow.Author.Tests.{lt-ltb, le-ltb}
use lib.Dec.{lit<, lit≤, ltb, eqb}
use lib.ListN.{length, take, drop, get_or, length-take, drop_of_length-le}
use lib.Seq.{take_all, take_at, drop_at, take-nil, drop-nil, get_or-drop}
use Rattle.std.specs.Int.{to_le_bytes, from_le_bytes}
use mir.Syntax.{w32}
use Rattle.lists.proofs.Cases.{lt_or_le, choice}
use Rattle.numbers.specs.Numbers.{Bytes, NUMBERS, little, bytes_of, value_of, value_at, width_of, code_for, narrowest}
use Rattle.numbers.specs.Numbers.{narrow_bytes, wide_of, wide_at}

-- ---- lengths and bounds

pub length_bytes_of : (n v : ℕ) → length (bytes_of n v) ≡ n
unfolding bytes_of
length_bytes_of zero v = refl
length_bytes_of (suc n) v = ap suc (length_bytes_of n (v / 256))

pub width_le : (code : ℕ) → width_of code ≤ 4
unfolding width_of
width_le code =
    choice (λ (n : ℕ). n ≤ 4) (eqb code 0) (λ _. lit≤ tt)
    (λ _. choice (λ (n : ℕ). n ≤ 4) (eqb code 1) (λ _. lit≤ tt)
    (λ _. choice (λ (n : ℕ). n ≤ 4) (eqb code 2) (λ _. lit≤ tt) (λ _. lit≤ tt)))

pub code_le : (v : ℕ) → code_for v ≤ 2
unfolding code_for
code_le v = choice (λ (n : ℕ). n ≤ 2) (ltb v 256) (λ _. lit≤ tt)
    (λ _. choice (λ (n : ℕ). n ≤ 2) (ltb v 65536) (λ _. lit≤ tt) (λ _. lit≤ tt))

pub narrowest_le : (v : ℕ) → narrowest v ≤ 4
unfolding narrowest
narrowest_le v = width_le (code_for v)

-- a number has a byte
pub narrowest_pos : (v : ℕ) → 1 ≤ narrowest v
unfolding narrowest width_of code_for
narrowest_pos v = choice (λ (c : ℕ). 1 ≤ width_of c) (ltb v 256) (λ _. lit≤ tt)
    (λ _. choice (λ (c : ℕ). 1 ≤ width_of c) (ltb v 65536) (λ _. lit≤ tt) (λ _. lit≤ tt))

pub length_narrow : (v : ℕ) → length (narrow_bytes v) ≡ narrowest v
unfolding narrow_bytes
length_narrow v = length_bytes_of (narrowest v) v

-- the narrowest width holds the value
pub narrow_holds : (v : ℕ) → v < NUMBERS → v < 256 ^ narrowest v
unfolding narrowest width_of code_for
narrow_holds v h =
    ⊎_elim
    (λ (a : v < 256). simp (lt-ltb v 256 a) a)
    (λ (a : 256 ≤ v).
    ⊎_elim
    (λ (b : v < 65536). simp (le-ltb v 256 a, lt-ltb v 65536 b) b)
    (λ (b : 65536 ≤ v). simp (le-ltb v 256 a, le-ltb v 65536 b) h)
    (lt_or_le v 65536))
    (lt_or_le v 256)

-- no width that holds it is narrower
pub is_narrowest : (v code : ℕ) → code ≤ 2 → v < 256 ^ width_of code → (code_for v ≤ code) × (narrowest v ≤ width_of code)
unfolding narrowest code_for width_of
is_narrowest v code c h =
    ⊎_elim
    (λ (a : v < 256). simp (lt-ltb v 256 a) (omega arith, one code c))
    (λ (a : 256 ≤ v).
    ⊎_elim
    (λ (b : v < 65536). simp (le-ltb v 256 a, lt-ltb v 65536 b) (two code c h a))
    (λ (b : 65536 ≤ v). simp (le-ltb v 256 a, le-ltb v 65536 b) (four code c h b))
    (lt_or_le v 65536))
    (lt_or_le v 256)
  where
    one : (code : ℕ) → code ≤ 2 → 1 ≤ width_of code
    one zero c = lit≤ tt
    one (suc zero) c = lit≤ tt
    one (suc (suc zero)) c = lit≤ tt
    one (suc (suc (suc k))) c = absurd (omega arith)

    two : (code : ℕ) → code ≤ 2 → v < 256 ^ width_of code → 256 ≤ v → (1 ≤ code) × (2 ≤ width_of code)
    two zero c h a = absurd (omega arith)
    two (suc zero) c h a = (lit≤ tt, lit≤ tt)
    two (suc (suc zero)) c h a = (lit≤ tt, lit≤ tt)
    two (suc (suc (suc k))) c h a = absurd (omega arith)

    four : (code : ℕ) → code ≤ 2 → v < 256 ^ width_of code → 65536 ≤ v → (2 ≤ code) × (4 ≤ width_of code)
    four zero c h a = absurd (omega arith)
    four (suc zero) c h a = absurd (omega arith)
    four (suc (suc zero)) c h a = (lit≤ tt, lit≤ tt)
    four (suc (suc (suc k))) c h a = absurd (omega arith)

width_grows : (c d : ℕ) → c < d → d ≤ 2 → width_of c < width_of d
unfolding width_of
width_grows c zero h k = absurd (omega arith)
width_grows zero (suc zero) h k = lit< tt
width_grows (suc c) (suc zero) h k = absurd (omega arith)
width_grows zero (suc (suc zero)) h k = lit< tt
width_grows (suc zero) (suc (suc zero)) h k = lit< tt
width_grows (suc (suc c)) (suc (suc zero)) h k = absurd (omega arith)
width_grows c (suc (suc (suc d))) h k = absurd (omega arith)

-- a width that holds a value and isn't wider than the narrowest is that
pub not_wide : (v code : ℕ) → code ≤ 2 → v < 256 ^ width_of code → width_of code ≤ narrowest v → code ≡ code_for v
unfolding narrowest
not_wide v code c h w =
    ⊎_elim
    (λ (k : code_for v < code). absurd (omega (arith, width_grows (code_for v) code k c)))
    (λ (k : code ≤ code_for v). omega (arith, (is_narrowest v code c h).0))
    (lt_or_le (code_for v) code)

pub little_below : (n : ℕ) (bs : List ℕ) → Bytes bs → little (take n bs) < 256 ^ n
unfolding little
little_below zero bs h = lit< tt
little_below (suc n) [] h = let b = little_below n [] h in simp pow-suc (omega arith)
little_below (suc n) (x ∷ bs) h =
    let b = little_below n bs (λ i. h (suc i)) in
    let hx = h 0 in
    simp pow-suc (omega arith)

-- at most four bytes count, and here there are no more
within : (n : ℕ) (l : List ℕ) → n ≤ 4 → take 4 (take n l) ≡ take n l
within n l h = take_all 4 (take n l) (simp length-take (omega arith))

-- the value of n bytes, at most four, fits n bytes
pub value_below : (l : List ℕ) (at n : ℕ) → n ≤ 4 → Bytes l → value_at l at n < 256 ^ n
unfolding value_at value_of
value_below l at n h b = rw (within n (drop at l) h) (little_below n (drop at l) (λ i. rw get_or-drop (b (at + i))))

-- ---- reading what was written

-- what is written in n bytes is read back, where it fits n bytes
pub little_bytes_of : (n v : ℕ) → v < 256 ^ n → little (bytes_of n v) ≡ v
unfolding little bytes_of
little_bytes_of zero v h = omega arith
little_bytes_of (suc n) v h =
    let e : little (bytes_of n (v / 256)) ≡ v / 256 =
    little_bytes_of n (v / 256) ((div-lt_iff_lt-mul (lit< tt)).1 (rw pow-suc at h)) in
    rw e (mod-add-div v 256)

-- a number is its value, whatever its width
pub value_in : (p q : List ℕ) (n v at : ℕ) → length p ≡ at → n ≤ 4 → v < 256 ^ n
    → value_at (p ++ (bytes_of n v ++ q)) at n ≡ v
unfolding value_at value_of
value_in p q n v at e k h =
    let b = bytes_of n v in
    let t : take 4 b ≡ b = take_all 4 b (rw length_bytes_of k) in
    rw (drop_at p (b ++ q) at e, take_at b q n (length_bytes_of n v), t) (little_bytes_of n v h)

-- and wide where a narrower width holds it
pub wide_in : (p q : List ℕ) (n v at : ℕ) → length p ≡ at → n ≤ 4 → v < 256 ^ n
    → wide_at (p ++ (bytes_of n v ++ q)) at n ≡ ltb (narrowest v) n
unfolding wide_at wide_of value_at
wide_in p q n v at e k h =
    let value : value_of (take n (drop at (p ++ (bytes_of n v ++ q)))) ≡ v = value_in p q n v at e k h in
    rw (value, drop_at p (bytes_of n v ++ q) at e, take_at (bytes_of n v) q n (length_bytes_of n v), length_bytes_of)

-- what is read is written back: bytes, as many as the width
pub bytes_of_little : (bs : List ℕ) → Bytes bs → bytes_of (length bs) (little bs) ≡ bs
unfolding little bytes_of
bytes_of_little [] h = refl
bytes_of_little (b ∷ bs) h =
    let hb = h 0 in
    let m : (b + 256 * little bs) % 256 ≡ b = omega arith in
    let d : (b + 256 * little bs) / 256 ≡ little bs = omega arith in
    rw (m, d, bytes_of_little bs (λ i. h (suc i)))

-- ---- built from the top byte down

-- all four
pub value_whole : (l : List ℕ) → value_at l 0 4 ≡ value_of l
unfolding value_at value_of
value_whole l = ap little (within 4 l (lit≤ tt))

-- none, behind the last byte
pub value_past : (l : List ℕ) (at n : ℕ) → length l ≤ at → value_at l at n ≡ 0
unfolding value_at value_of little
value_past l at n h = rw (drop_of_length-le l {i = at} h, take-nil)

-- one more, below the n that stand behind it
pub value_turn : (l : List ℕ) (at n : ℕ) → 1 ≤ at → n < 4 → value_at l (at - 1) (suc n) ≡ value_at l at n * 256 + get_or l (at - 1) 0
unfolding value_at value_of little
value_turn l zero n h k = absurd (omega arith)
value_turn l (suc at) n h k =
    let down : suc at - 1 ≡ at = omega arith in
    rw (down, within (suc n) (drop at l) k, within n (drop (suc at) l) (omega arith)) (turn at n l)
  where
    turn : (at n : ℕ) (l : List ℕ) → little (take (suc n) (drop at l)) ≡ little (take n (drop (suc at) l)) * 256 + get_or l at 0
    turn at zero [] = rw drop-nil refl
    turn at (suc n) [] = rw drop-nil refl
    turn zero n (b ∷ l) = omega arith
    turn (suc at) n (b ∷ l) = turn at n l

-- and room for one more below them
pub value_room : (l : List ℕ) (at : ℕ) → 1 ≤ at → Bytes l → value_at l at (4 - at) < 256 ^ 3
value_room l at h b =
    let three : 4 - at ≤ 3 = omega arith in
    lt_of_lt_of_le (value_below l at (4 - at) (omega arith) b) (pow-le-pow_right (lit< tt) three)

-- the low bytes of more bytes
pub low_bytes : (n m v : ℕ) → n ≤ m → take n (bytes_of m v) ≡ bytes_of n v
unfolding bytes_of
low_bytes zero m v h = refl
low_bytes (suc n) zero v h = absurd (omega arith)
low_bytes (suc n) (suc m) v h = ap (λ (l : List ℕ). v % 256 ∷ l) (low_bytes n m (v / 256) (omega arith))

-- four bytes, each by its place
pub little_four : (b : List ℕ) → length b ≡ 4
    → little b ≡ get_or b 0 0 + 256 * (get_or b 1 0 + 256 * (get_or b 2 0 + 256 * get_or b 3 0))
unfolding little
little_four [] h = absurd (omega arith)
little_four (b ∷ []) h = absurd (omega arith)
little_four (b ∷ c ∷ []) h = absurd (omega arith)
little_four (b ∷ c ∷ d ∷ []) h = absurd (omega arith)
little_four (b ∷ c ∷ d ∷ e ∷ []) h = omega arith
little_four (b ∷ c ∷ d ∷ e ∷ f ∷ rest) h = absurd (omega arith)

-- ---- as the library has them

pub le_split : (v : ℕ) → to_le_bytes w32 v ≡ bytes_of 4 v
unfolding bytes_of
le_split v =
    let third : v / 65536 ≡ v / 256 / 256 = omega arith in
    let high : v / 16777216 ≡ v / 256 / 256 / 256 = omega arith in
    rw (third, high)

pub le_joined : (b : List ℕ) → length b ≡ 4 → from_le_bytes w32 b ≡ little b
le_joined b h = rw (little_four b h) (omega arith)
