-- The sequence at the front of a text is that of a scalar value, whose size says what its first byte is.
-- Assumes nothing.
use Rattle.std.specs.Prelude.{None}
use mathlib.Core.Path.{◌≡◌, refl, sym, ap, ◌∙◌}
use mathlib.Core.Logic.{◌⊎◌, inl, ⊎_elim}
use mathlib.Core.Bool.{true, false}
use mathlib.Core.List.{List, [], ◌∷◌, ◌++◌}
use Prim.Native.Nat.{ℕ, ◌+◌, ◌*◌, ◌/◌, ◌%◌, ◌≤◌, ◌<◌}
use native.Mathlib.Omega.{arith}
use borrow.Author.Tests.{eq-eqb, ne_eqb}
use lib.ListN.{length, length-append, take, drop, take-append-drop}
use lib.Seq.{take_at}
use Rattle.lists.proofs.Cases.{lt_or_le, true_not_false}
use Rattle.codepage.specs.Points.{byte_for}
use Rattle.codepage.specs.Utf8.{TAIL, IsScalar, sequences, sequence_of, point_in, is_in, width_at}
use Rattle.codepage.specs.Names.{front_by, front_of}
use Rattle.codepage.proofs.Points.{above_none}
use Rattle.codepage.proofs.Rows as rows
use Rattle.codepage.proofs.Bits.{one_byte, two_bytes, three_bytes, four_bytes, two_back, three_back, sequence_back, scalar_spelled}
use Rattle.codepage.proofs.Grammar.{rise}

-- ---- a scalar value's sequence at the front

pub width_of : (p : ℕ) (behind : List ℕ) → IsScalar p → (width_at (sequence_of p ++ behind) ≡ length (sequence_of p)) × (0 < length (sequence_of p))
unfolding width_at
width_of p behind s =
    let one = scalar_spelled p s in
    let long = rows.within_length one.row (sequence_of p) one.within in
    let begins = rows.within_begins one.row (sequence_of p) behind one.within in
    let begun = rows.only 0 sequences one.row (sequence_of p ++ behind) rise one.of_table begins in
    (begun.0 ∙ sym long, omega (arith, begun.1, long))

pub front_of_law : (p : ℕ) (behind : List ℕ) → IsScalar p → front_of (sequence_of p ++ behind) ≡ front_by (byte_for p) (length (sequence_of p))
unfolding front_of
front_of_law p behind s =
    let w = width_of p behind s in
    rw (w.0, ne_eqb (length (sequence_of p)) 0 (λ e. omega arith), take_at (sequence_of p) behind (length (sequence_of p)) refl, (scalar_spelled p s).point)

-- ---- and no other

pub record Begun (text : List ℕ) : Type 0 where
  pub point : ℕ
  pub behind : List ℕ
  pub scalar : IsScalar point
  pub whole : text ≡ sequence_of point ++ behind

pub begun : (text : List ℕ) → 0 < width_at text → Begun text
unfolding width_at
begun text there =
    let one = rows.which sequences text there in
    let sequence = take (length one.row) text in
    let back = sequence_back one.row sequence one.of_table (rows.begins_within one.row text one.is_begun) in
    record {
      point = point_in sequence;
      behind = drop (length one.row) text;
      scalar = back.1;
      whole = rw back.0 (sym (take-append-drop (length one.row) text));
    }

-- where no scalar value that has a byte stands at the front
pub front_nothing : (text : List ℕ) → ((p : ℕ) (behind : List ℕ) → IsScalar p → text ≡ sequence_of p ++ behind → byte_for p ≡ None) → front_of text ≡ None
unfolding front_of
front_nothing text off = ⊎_elim some_there none_there (lt_or_le 0 (width_at text))
  where
    some_there : 0 < width_at text → front_of text ≡ None
    some_there there =
        let is = begun text there in
        ap front_of is.whole ∙ front_of_law is.point is.behind is.scalar ∙ rw (off is.point is.behind is.scalar is.whole)

    none_there : width_at text ≤ 0 → front_of text ≡ None
    none_there no-width = rw (eq-eqb (width_at text) 0 (omega arith))

-- nor does anything where no byte is
pub front_empty : front_of [] ≡ None
front_empty =
    front_nothing []
    (λ p behind s e.
    let long = (width_of p behind s).1 in
    absurd (omega (arith, ap length e, length-append (sequence_of p) behind)))

in_tail : (b : ℕ) → 0x80 ≤ b → b ≤ 0xBF → is_in TAIL b ≡ true
in_tail b h g = rows.in_range TAIL b h g

-- ---- what a first byte says

-- by the size of the scalar value that stands at the front of `a ∷ rest`
pub data First (p a : ℕ) (rest behind : List ℕ) : Type 0 where
  one_long : p < 0x80 → a ≡ p → First p a rest behind
  two_long : 0x80 ≤ p → p < 0x800 → a ≡ 0xC0 + p / 64 → rest ≡ (0x80 + p % 64) ∷ behind → First p a rest behind
  three_long : 0x800 ≤ p → p < 0x10000 → a ≡ 0xE0 + p / 4096 → rest ≡ (0x80 + p / 64 % 64) ∷ (0x80 + p % 64) ∷ behind → First p a rest behind
  four_long : 0x10000 ≤ p → a ≡ 0xF0 + p / 262144 → First p a rest behind

first : (p a : ℕ) (rest behind : List ℕ) → a ∷ rest ≡ sequence_of p ++ behind → First p a rest behind
first p a rest behind e =
    ⊎_elim
    (λ (h : p < 0x80). let f = rw (one_byte p h) at e in one_long h cc)
    (λ (h : 0x80 ≤ p).
    ⊎_elim
    (λ (g : p < 0x800). let f = rw (two_bytes p h g) at e in two_long h g (cc) cc)
    (λ (g : 0x800 ≤ p).
    ⊎_elim
    (λ (k : p < 0x10000). let f = rw (three_bytes p g k) at e in three_long g k (cc) cc)
    (λ (k : 0x10000 ≤ p). let f = rw (four_bytes p k) at e in four_long k cc)
    (lt_or_le p 0x10000))
    (lt_or_le p 0x800))
    (lt_or_le p 0x80)

-- nothing is read where no first byte can stand: behind a first byte, in too long a form, or before four bytes
pub nothing_first : (a : ℕ) (rest : List ℕ) → 0x80 ≤ a → (a < 0xC2) ⊎ (0xF0 ≤ a) → front_of (a ∷ rest) ≡ None
nothing_first a rest h out = front_nothing (a ∷ rest) (λ p behind s e. go p behind (first p a rest behind e) out)
  where
    go : (p : ℕ) (behind : List ℕ) → First p a rest behind → (a < 0xC2) ⊎ (0xF0 ≤ a) → byte_for p ≡ None
    go p behind (one_long g e) out = absurd (omega arith)
    go p behind (two_long g k e f) out = absurd (⊎_elim (λ (o : a < 0xC2). omega arith) (λ (o : 0xF0 ≤ a). omega arith) out)
    go p behind (three_long g k e f) out = absurd (⊎_elim (λ (o : a < 0xC2). omega arith) (λ (o : 0xF0 ≤ a). omega arith) out)
    go p behind (four_long g e) out = above_none p (omega arith)

-- ---- two bytes

module _ (a : ℕ) (low : 0xC2 ≤ a) (high : a < 0xE0) where
  -- such a first byte has one behind it
  two_first : (p : ℕ) (rest behind : List ℕ) → First p a rest behind → rest ≡ (0x80 + p % 64) ∷ behind
  two_first p rest behind (one_long g e) = absurd (omega arith)
  two_first p rest behind (two_long g k e f) = f
  two_first p rest behind (three_long g k e f) = absurd (omega arith)
  two_first p rest behind (four_long g e) = absurd (omega arith)

  pub two_short : front_of (a ∷ []) ≡ None
  two_short = front_nothing (a ∷ []) (λ p behind s e. let z = ap length (two_first p [] behind (first p a [] behind e)) in absurd (omega arith))

  pub two_untailed : (b : ℕ) (rest : List ℕ) → is_in TAIL b ≡ false → front_of (a ∷ b ∷ rest) ≡ None
  two_untailed b rest off =
      front_nothing (a ∷ b ∷ rest)
      (λ p behind s e.
      let f = two_first p (b ∷ rest) behind (first p a (b ∷ rest) behind e) in
      let is : b ≡ 0x80 + p % 64 = cc in
      absurd (true_not_false (sym (in_tail b (omega arith) (omega arith)) ∙ off)))

  pub two_front : (b : ℕ) (rest : List ℕ) → is_in TAIL b ≡ true → front_of (a ∷ b ∷ rest) ≡ front_by (byte_for (point_in (a ∷ b ∷ []))) 2
  unfolding point_in
  two_front b rest is =
      let t = rows.bounds TAIL b is in
      let back = two_back a b (a % 32 * 64 + b % 64) refl low (omega arith) t.0 t.1 in
      rw back at (front_of_law (a % 32 * 64 + b % 64) rest (inl (omega arith)))

-- ---- three bytes

module _ (a : ℕ) (low : 0xE0 ≤ a) (high : a < 0xF0) where
  -- such a first byte has two behind it
  record Three (p : ℕ) (rest behind : List ℕ) : Type 0 where
    pub least : 0x800 ≤ p
    pub most : p < 0x10000
    pub lead : a ≡ 0xE0 + p / 4096
    pub others : rest ≡ (0x80 + p / 64 % 64) ∷ (0x80 + p % 64) ∷ behind

  three_first : (p : ℕ) (rest behind : List ℕ) → First p a rest behind → Three p rest behind
  three_first p rest behind (one_long g e) = absurd (omega arith)
  three_first p rest behind (two_long g k e f) = absurd (omega arith)
  three_first p rest behind (three_long g k e f) = record { least = g; most = k; lead = e; others = f }
  three_first p rest behind (four_long g e) = absurd (omega arith)

  -- whatever stands at the front is such
  no_three : (rest : List ℕ) → ((p : ℕ) (behind : List ℕ) → Three p rest behind → byte_for p ≡ None) → front_of (a ∷ rest) ≡ None
  no_three rest off = front_nothing (a ∷ rest) (λ p behind s e. off p behind (three_first p rest behind (first p a rest behind e)))

  pub three_short : (rest : List ℕ) → length rest < 2 → front_of (a ∷ rest) ≡ None
  three_short rest few = no_three rest (λ p behind is. let z = ap length is.others in absurd (omega arith))

  module _ (b c : ℕ) (rest : List ℕ) where
    -- the two behind it, and the code point of the three
    record Tails (p : ℕ) : Type 0 where
      pub second : b ≡ 0x80 + p / 64 % 64
      pub third : c ≡ 0x80 + p % 64
      pub all : (a % 16 * 64 + b % 64) * 64 + c % 64 ≡ p

    tails : (p : ℕ) (behind : List ℕ) → Three p (b ∷ c ∷ rest) behind → Tails p
    tails p behind is =
        let f = is.others in
        let second : b ≡ 0x80 + p / 64 % 64 = cc in
        let third : c ≡ 0x80 + p % 64 = cc in
        record { second = second; third = third; all = omega (arith, is.lead, is.most) }

    pub second_untailed : is_in TAIL b ≡ false → front_of (a ∷ b ∷ c ∷ rest) ≡ None
    second_untailed off =
        no_three (b ∷ c ∷ rest)
        (λ p behind is. let t = tails p behind is in absurd (true_not_false (sym (in_tail b (omega arith) (omega arith)) ∙ off)))

    pub third_untailed : is_in TAIL c ≡ false → front_of (a ∷ b ∷ c ∷ rest) ≡ None
    third_untailed off =
        no_three (b ∷ c ∷ rest)
        (λ p behind is. let t = tails p behind is in absurd (true_not_false (sym (in_tail c (omega arith) (omega arith)) ∙ off)))

    -- too long a form
    pub three_over : point_in (a ∷ b ∷ c ∷ []) < 0x800 → front_of (a ∷ b ∷ c ∷ rest) ≡ None
    unfolding point_in
    three_over under =
        no_three (b ∷ c ∷ rest) (λ p behind is. let t = tails p behind is in let g = is.least in absurd (omega (arith, under, t.all, g)))

    pub three_front : is_in TAIL b ≡ true → is_in TAIL c ≡ true → 0x800 ≤ point_in (a ∷ b ∷ c ∷ [])
        → front_of (a ∷ b ∷ c ∷ rest) ≡ front_by (byte_for (point_in (a ∷ b ∷ c ∷ []))) 3
    unfolding point_in
    three_front h g over =
        let q = (a % 16 * 64 + b % 64) * 64 + c % 64 in
        let s = rows.bounds TAIL b h in
        let t = rows.bounds TAIL c g in
        ⊎_elim
        (λ (plain : q < 0xD800).
        let back = three_back a b c q refl over low (omega arith) s.0 s.1 t.0 t.1 in
        rw back at (front_of_law q rest (inl plain)))
        (λ (above : 0xD800 ≤ q).
        no_three (b ∷ c ∷ rest) (λ p behind is. let u = tails p behind is in above_none p (omega (arith, above, u.all)))
        ∙ rw (above_none q above))
        (lt_or_le q 0xD800)
