-- A sequence of the table and its code point tell each other: no other sequence has the code point, and every scalar value has one.
-- Assumes nothing.
use mathlib.Core.Path.{◌≡◌, refl, sym, subst, ◌∙◌}
use mathlib.Core.Logic.{◌⊎◌, inl, inr, ⊎_elim}
use mathlib.Core.List.{List, [], ◌∷◌, Memᴰ}
use Prim.Native.Nat.{ℕ, zero, suc, ◌+◌, ◌*◌, ◌/◌, ◌%◌, ◌≤◌, ◌<◌}
use native.Mathlib.Omega.{arith}
use borrow.Author.Tests.{lt-ltb, le-ltb}
use lib.ListN.{length, get_or}
use Rattle.lists.proofs.Cases.{lt_or_le}
use Rattle.codepage.specs.Utf8.{Range, range, TAIL, sequences, IsScalar, point_in, sequence_of, Within}

-- ---- the sequence of a code point, by how large that is

pub one_byte : (p : ℕ) → p < 0x80 → sequence_of p ≡ p ∷ []
unfolding sequence_of
one_byte p h = rw (lt-ltb p 0x80 h)

pub two_bytes : (p : ℕ) → 0x80 ≤ p → p < 0x800 → sequence_of p ≡ (0xC0 + p / 64) ∷ (0x80 + p % 64) ∷ []
unfolding sequence_of
two_bytes p h g = rw (le-ltb p 0x80 h, lt-ltb p 0x800 g)

pub three_bytes : (p : ℕ) → 0x800 ≤ p → p < 0x10000 → sequence_of p ≡ (0xE0 + p / 4096) ∷ (0x80 + p / 64 % 64) ∷ (0x80 + p % 64) ∷ []
unfolding sequence_of
three_bytes p h g = rw (le-ltb p 0x80 (omega arith), le-ltb p 0x800 h, lt-ltb p 0x10000 g)

pub four_bytes : (p : ℕ) → 0x10000 ≤ p
    → sequence_of p ≡ (0xF0 + p / 262144) ∷ (0x80 + p / 4096 % 64) ∷ (0x80 + p / 64 % 64) ∷ (0x80 + p % 64) ∷ []
unfolding sequence_of
four_bytes p h = rw (le-ltb p 0x80 (omega arith), le-ltb p 0x800 (omega arith), le-ltb p 0x10000 h)

-- ---- from a sequence to its code point and back, by its width

pub two_back : (a b p : ℕ) → p ≡ a % 32 * 64 + b % 64 → 0xC2 ≤ a → a ≤ 0xDF → 0x80 ≤ b → b ≤ 0xBF → sequence_of p ≡ a ∷ b ∷ []
two_back a b p e h g k l =
    let first : 0xC0 + p / 64 ≡ a = omega arith in
    let second : 0x80 + p % 64 ≡ b = omega arith in
    two_bytes p (omega arith) (omega arith) ∙ rw (first, second)

pub three_back : (a b c p : ℕ) → p ≡ (a % 16 * 64 + b % 64) * 64 + c % 64 → 0x800 ≤ p → 0xE0 ≤ a → a ≤ 0xEF → 0x80 ≤ b → b ≤ 0xBF → 0x80 ≤ c
    → c ≤ 0xBF → sequence_of p ≡ a ∷ b ∷ c ∷ []
three_back a b c p e long h g k l m n =
    let first : 0xE0 + p / 4096 ≡ a = omega arith in
    let second : 0x80 + p / 64 % 64 ≡ b = omega arith in
    let third : 0x80 + p % 64 ≡ c = omega arith in
    three_bytes p long (omega arith) ∙ rw (first, second, third)

four_back : (a b c d p : ℕ) → p ≡ ((a % 8 * 64 + b % 64) * 64 + c % 64) * 64 + d % 64 → 0x10000 ≤ p → 0xF0 ≤ a → a ≤ 0xF4 → 0x80 ≤ b → b ≤ 0xBF
    → 0x80 ≤ c → c ≤ 0xBF → 0x80 ≤ d → d ≤ 0xBF → sequence_of p ≡ a ∷ b ∷ c ∷ d ∷ []
four_back a b c d p e long h g k l m n x y =
    let first : 0xF0 + p / 262144 ≡ a = omega arith in
    let second : 0x80 + p / 4096 % 64 ≡ b = omega arith in
    let third : 0x80 + p / 64 % 64 ≡ c = omega arith in
    let fourth : 0x80 + p % 64 ≡ d = omega arith in
    four_bytes p long ∙ rw (first, second, third, fourth)

-- ---- the same by the table's rows

-- what holds of each row holds of any
abbrev All : (List Range → Type 0) → List (List Range) → Type 0
All P [] = Unit {0}
All P (row ∷ rows) = P row × All P rows

all_each : (P : List Range → Type 0) (rows : List (List Range)) → All P rows → (row : List Range) → Memᴰ row rows → P row
all_each P [] all row m = elim m [ ]
all_each P (first ∷ rows) all row (Memᴰ.head e) = subst P (sym e) all.0
all_each P (first ∷ rows) all row (Memᴰ.tail m) = all_each P rows all.1 row m

-- its sequences come back from their code points, which are scalar values
abbrev Back : List Range → Type 0
Back row = (sequence : List ℕ) → Within row sequence → (sequence_of (point_in sequence) ≡ sequence) × IsScalar (point_in sequence)

of_one : (r : Range) → r.to ≤ 0x7F → Back (r ∷ [])
unfolding point_in
of_one r h [] w = absurd w
of_one r h (a ∷ []) w = (one_byte a (omega (arith, w.0.1)), inl (omega (arith, w.0.1)))
of_one r h (a ∷ b ∷ more) w = absurd w.1

of_two : (r s : Range) → 0xC2 ≤ r.from → r.to ≤ 0xDF → 0x80 ≤ s.from → s.to ≤ 0xBF → Back (r ∷ s ∷ [])
unfolding point_in
of_two r s h g k l [] w = absurd w
of_two r s h g k l (a ∷ []) w = absurd w.1
of_two r s h g k l (a ∷ b ∷ []) w =
    let x = w.0 in
    let y = w.1.0 in
    (two_back a b _ refl (omega arith) (omega arith) (omega arith) (omega arith), inl (omega arith))
of_two r s h g k l (a ∷ b ∷ c ∷ more) w = absurd w.1.1

-- what the first two bytes hold of a code point: all but its last six bits, or its last twelve
abbrev Top3 : ℕ → Type 0
Top3 q = (0x20 ≤ q) × ((q < 0x360) ⊎ ((0x380 ≤ q) × (q < 0x400)))

abbrev Top4 : ℕ → Type 0
Top4 q = (0x10 ≤ q) × (q < 0x110)

of_three : (r s : Range) → 0xE0 ≤ r.from → r.to ≤ 0xEF → 0x80 ≤ s.from → s.to ≤ 0xBF
    → ((a b : ℕ) → r.from ≤ a → a ≤ r.to → s.from ≤ b → b ≤ s.to → Top3 (a % 16 * 64 + b % 64)) → Back (r ∷ s ∷ TAIL ∷ [])
unfolding point_in
of_three r s h g k l top [] w = absurd w
of_three r s h g k l top (a ∷ []) w = absurd w.1
of_three r s h g k l top (a ∷ b ∷ []) w = absurd w.1.1
of_three r s h g k l top (a ∷ b ∷ c ∷ []) w =
    let x = w.0 in
    let y = w.1.0 in
    let z = w.1.1.0 in
    let q = top a b x.0 x.1 y.0 y.1 in
    let over = q.0 in (
      three_back a b c _ refl (omega arith) (omega arith) (omega arith) (omega arith) (omega arith) z.0 z.1,
      ⊎_elim
          (λ (low : a % 16 * 64 + b % 64 < 0x360). inl (omega arith))
          (λ (high : (0x380 ≤ a % 16 * 64 + b % 64) × (a % 16 * 64 + b % 64 < 0x400)). inr (omega arith, omega arith))
          q.1,
    )
of_three r s h g k l top (a ∷ b ∷ c ∷ d ∷ more) w = absurd w.1.1.1

of_four : (r s : Range) → 0xF0 ≤ r.from → r.to ≤ 0xF4 → 0x80 ≤ s.from → s.to ≤ 0xBF
    → ((a b : ℕ) → r.from ≤ a → a ≤ r.to → s.from ≤ b → b ≤ s.to → Top4 (a % 8 * 64 + b % 64)) → Back (r ∷ s ∷ TAIL ∷ TAIL ∷ [])
unfolding point_in
of_four r s h g k l top [] w = absurd w
of_four r s h g k l top (a ∷ []) w = absurd w.1
of_four r s h g k l top (a ∷ b ∷ []) w = absurd w.1.1
of_four r s h g k l top (a ∷ b ∷ c ∷ []) w = absurd w.1.1.1
of_four r s h g k l top (a ∷ b ∷ c ∷ d ∷ []) w =
    let x = w.0 in
    let y = w.1.0 in
    let z = w.1.1.0 in
    let v = w.1.1.1.0 in
    let q = top a b x.0 x.1 y.0 y.1 in (
      four_back a b c d _ refl (omega arith) (omega arith) (omega arith) (omega arith) (omega arith) z.0 z.1 v.0 v.1,
      inr (omega arith, omega arith),
    )
of_four r s h g k l top (a ∷ b ∷ c ∷ d ∷ e ∷ more) w = absurd w.1.1.1.1

pub sequence_back : (row : List Range) (sequence : List ℕ) → Memᴰ row sequences → Within row sequence
    → (sequence_of (point_in sequence) ≡ sequence) × IsScalar (point_in sequence)
unfolding sequences
sequence_back row sequence of_table =
    all_each Back sequences (
      of_one (range 0x00 0x7F) (omega arith),
      (
        of_two (range 0xC2 0xDF) TAIL (omega arith) (omega arith) (omega arith) (omega arith),
        (
          of_three (range 0xE0 0xE0) (range 0xA0 0xBF) (omega arith) (omega arith) (omega arith) (omega arith)
              (λ a b h g k l. (omega arith, inl (omega arith))),
          (
            of_three (range 0xE1 0xEC) TAIL (omega arith) (omega arith) (omega arith) (omega arith) (λ a b h g k l. (omega arith, inl (omega arith))),
            (
              of_three (range 0xED 0xED) (range 0x80 0x9F) (omega arith) (omega arith) (omega arith) (omega arith)
                  (λ a b h g k l. (omega arith, inl (omega arith))),
              (
                of_three (range 0xEE 0xEF) TAIL (omega arith) (omega arith) (omega arith) (omega arith)
                    (λ a b h g k l. (omega arith, inr (omega arith, omega arith))),
                (
                  of_four (range 0xF0 0xF0) (range 0x90 0xBF) (omega arith) (omega arith) (omega arith) (omega arith)
                      (λ a b h g k l. (omega arith, omega arith)),
                  (
                    of_four (range 0xF1 0xF3) TAIL (omega arith) (omega arith) (omega arith) (omega arith) (λ a b h g k l. (omega arith, omega arith)),
                    (
                      of_four (range 0xF4 0xF4) (range 0x80 0x8F) (omega arith) (omega arith) (omega arith) (omega arith)
                          (λ a b h g k l. (omega arith, omega arith)),
                      tt,
                    ),
                  ),
                ),
              ),
            ),
          ),
        ),
      ),
    )
    row of_table sequence

-- ---- every scalar value has its sequence

pub record Spelled (p : ℕ) : Type 0 where
  pub row : List Range
  pub of_table : Memᴰ row sequences
  pub within : Within row (sequence_of p)
  pub point : point_in (sequence_of p) ≡ p

three_in : (f t g u p : ℕ) → Memᴰ (range f t ∷ range g u ∷ TAIL ∷ []) sequences → 0x800 ≤ p → p < 0x10000 → f ≤ 0xE0 + p / 4096
    → 0xE0 + p / 4096 ≤ t → g ≤ 0x80 + p / 64 % 64 → 0x80 + p / 64 % 64 ≤ u → Spelled p
unfolding point_in
three_in f t g u p of_table long short a b c d =
    let e = three_bytes p long short in
    record {
      row = range f t ∷ range g u ∷ TAIL ∷ [];
      of_table = of_table;
      within = rw e ((a, b), ((c, d), ((omega arith, omega arith), tt)));
      point = rw e (omega arith);
    }

-- the bits of four bytes, put together from the front
four_point : (p : ℕ) → p ≤ 0x10FFFF
    → (((0xF0 + p / 262144) % 8 * 64 + (0x80 + p / 4096 % 64) % 64) * 64 + (0x80 + p / 64 % 64) % 64) * 64 + (0x80 + p % 64) % 64 ≡ p
four_point p h =
    let a : (0xF0 + p / 262144) % 8 * 64 + (0x80 + p / 4096 % 64) % 64 ≡ p / 4096 = omega arith in
    let b : p / 4096 * 64 + (0x80 + p / 64 % 64) % 64 ≡ p / 64 = omega arith in
    let c : p / 64 * 64 + (0x80 + p % 64) % 64 ≡ p = omega arith in
    rw (a, b, c)

four_in_law : (f t g u p : ℕ) → Memᴰ (range f t ∷ range g u ∷ TAIL ∷ TAIL ∷ []) sequences → 0x10000 ≤ p → p ≤ 0x10FFFF → f ≤ 0xF0 + p / 262144
    → 0xF0 + p / 262144 ≤ t → g ≤ 0x80 + p / 4096 % 64 → 0x80 + p / 4096 % 64 ≤ u → Spelled p
unfolding point_in
four_in_law f t g u p of_table long short a b c d =
    let e = four_bytes p long in
    record {
      row = range f t ∷ range g u ∷ TAIL ∷ TAIL ∷ [];
      of_table = of_table;
      within = rw e ((a, b), ((c, d), ((omega arith, omega arith), ((omega arith, omega arith), tt))));
      point = rw e (four_point p short);
    }

-- the k-th row
at_row : {A : Type 0} (l : List A) (k : ℕ) (d : A) → k < length l → Memᴰ (get_or l k d) l
at_row [] k d h = absurd (omega arith)
at_row (x ∷ l) zero d h = Memᴰ.head refl
at_row (x ∷ l) (suc k) d h = Memᴰ.tail (at_row l k d (omega arith))

below_surrogates : (p : ℕ) → p < 0xD800 → Spelled p
unfolding sequences point_in
below_surrogates p h =
    ⊎_elim
    (λ (a : p < 0x80).
    let e = one_byte p a in
    record { row = _; of_table = at_row sequences 0 [] (omega arith); within = rw e ((omega arith, omega arith), tt); point = rw e })
    (λ (a : 0x80 ≤ p).
    ⊎_elim
    (λ (b : p < 0x800).
    let e = two_bytes p a b in
    record {
      row = _;
      of_table = at_row sequences 1 [] (omega arith);
      within = rw e ((omega arith, omega arith), ((omega arith, omega arith), tt));
      point = rw e (omega arith);
    })
    (λ (b : 0x800 ≤ p).
    ⊎_elim
    (λ (c : p < 0x1000). three_in 0xE0 0xE0 0xA0 0xBF p (at_row sequences 2 [] (omega arith)) b (omega arith) (omega arith) (omega arith) (omega arith) (omega arith))
    (λ (c : 0x1000 ≤ p).
    ⊎_elim
    (λ (d : p < 0xD000). three_in 0xE1 0xEC 0x80 0xBF p (at_row sequences 3 [] (omega arith)) b (omega arith) (omega arith) (omega arith) (omega arith) (omega arith))
    (λ (d : 0xD000 ≤ p). three_in 0xED 0xED 0x80 0x9F p (at_row sequences 4 [] (omega arith)) b (omega arith) (omega arith) (omega arith) (omega arith) (omega arith))
    (lt_or_le p 0xD000))
    (lt_or_le p 0x1000))
    (lt_or_le p 0x800))
    (lt_or_le p 0x80)

above_surrogates : (p : ℕ) → 0xE000 ≤ p → p ≤ 0x10FFFF → Spelled p
unfolding sequences
above_surrogates p h g =
    ⊎_elim
    (λ (a : p < 0x10000). three_in 0xEE 0xEF 0x80 0xBF p (at_row sequences 5 [] (omega arith)) (omega arith) a (omega arith) (omega arith) (omega arith) (omega arith))
    (λ (a : 0x10000 ≤ p).
    ⊎_elim
    (λ (b : p < 0x40000). four_in_law 0xF0 0xF0 0x90 0xBF p (at_row sequences 6 [] (omega arith)) a g (omega arith) (omega arith) (omega arith) (omega arith))
    (λ (b : 0x40000 ≤ p).
    ⊎_elim
    (λ (c : p < 0x100000). four_in_law 0xF1 0xF3 0x80 0xBF p (at_row sequences 7 [] (omega arith)) a g (omega arith) (omega arith) (omega arith) (omega arith))
    (λ (c : 0x100000 ≤ p). four_in_law 0xF4 0xF4 0x80 0x8F p (at_row sequences 8 [] (omega arith)) a g (omega arith) (omega arith) (omega arith) (omega arith))
    (lt_or_le p 0x100000))
    (lt_or_le p 0x40000))
    (lt_or_le p 0x10000)

pub scalar_spelled : (p : ℕ) → IsScalar p → Spelled p
scalar_spelled p s = ⊎_elim (below_surrogates p) (λ (h : (0xE000 ≤ p) × (p ≤ 0x10FFFF)). above_surrogates p h.0 h.1) s
