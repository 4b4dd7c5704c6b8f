-- A byte below 80 (hexadecimal) stands in a name exactly if it stands in its UTF-8.
-- Assumes nothing.
use Rattle.std.specs.Prelude.{Some}
use mathlib.Core.Path.{◌≡◌, refl, sym, ◌∙◌}
use mathlib.Core.Logic.{⊎_elim}
use mathlib.Core.Bool.{Bool, true, false}
use mathlib.Core.List.{List, [], ◌∷◌, ◌++◌}
use Prim.Native.Nat.{ℕ, suc, ◌≤◌, ◌<◌}
use native.Mathlib.Omega.{arith}
use borrow.Author.Tests.{eqb-false, ne_eqb}
use lib.ListN.{length}
use Rattle.lists.specs.Bytes.{is_byte}
use Rattle.lists.specs.Places.{place, here_or}
use Rattle.lists.proofs.Cases.{lt_or_le}
use Rattle.codepage.specs.Points.{point_for}
use Rattle.codepage.specs.Utf8.{sequence_of, spelled}
use Rattle.codepage.specs.Names.{partners, utf8_of}
use Rattle.codepage.proofs.Points.{low_same, own_byte, point_partners, partners_byte, partners_plain}
use Rattle.codepage.proofs.Bits.{one_byte, two_bytes, three_bytes}
use Rattle.codepage.proofs.Names.{first, spells_spelled, utf8_same}

-- none of the bytes is c
abbrev pub Without : ℕ → List ℕ → Type 0
Without c bytes = place (is_byte c) bytes ≡ length bytes

-- byte by byte
abbrev Each : ℕ → List ℕ → Type 0
Each c [] = Unit {0}
Each c (b ∷ bytes) = (b ≡ c → ⊥) × Each c bytes

each_without : (c : ℕ) (bytes : List ℕ) → Each c bytes → Without c bytes
unfolding place
each_without c [] e = refl
each_without c (b ∷ bytes) e = rw (ne_eqb b c e.0, each_without c bytes e.1)

without_each : (c : ℕ) (bytes : List ℕ) → Without c bytes → Each c bytes
unfolding place
without_each c [] w = tt
without_each c (b ∷ bytes) w = go (is_byte c b) refl w (without_each c bytes)
  where
    go : (t : Bool) → is_byte c b ≡ t → here_or t (place (is_byte c) bytes) ≡ suc (length bytes) → (Without c bytes → Each c bytes)
        → (b ≡ c → ⊥) × Each c bytes
    go true e w later = absurd (omega arith)
    go false e w later = (eqb-false b c e, later (omega arith))

each_both : (c : ℕ) (xs ys : List ℕ) → Each c xs → Each c ys → Each c (xs ++ ys)
each_both c [] ys e f = f
each_both c (x ∷ xs) ys e f = (e.0, each_both c xs ys e.1 f)

each_parts : (c : ℕ) (xs ys : List ℕ) → Each c (xs ++ ys) → Each c xs × Each c ys
each_parts c [] ys e = (tt, e)
each_parts c (x ∷ xs) ys e =
    let rest = each_parts c xs ys e.1 in
    ((e.0, rest.0), rest.1)

module _ (c : ℕ) (low : c < 0x80) where
  -- the sequence of a byte's code point has c exactly if the byte is c
  there : (b p : ℕ) → point_for b ≡ Some p → (b ≡ c → ⊥) → Each c (sequence_of p)
  there b p is off =
      ⊎_elim
      (λ (h : p < 0x80).
      let own = own_byte p (omega arith) (low_same p h) in
      let its = partners_byte b p (point_partners b p is) in
      let same : b ≡ p = cc in
      rw (one_byte p h) (λ e. off (same ∙ e), tt))
      (λ (h : 0x80 ≤ p).
      ⊎_elim
      (λ (g : p < 0x800). rw (two_bytes p h g) (λ e. omega arith, (λ e. omega arith, tt)))
      (λ (g : 0x800 ≤ p).
      let plain = partners_plain b p (point_partners b p is) in
      rw (three_bytes p g (omega arith)) (λ e. omega arith, (λ e. omega arith, (λ e. omega arith, tt))))
      (lt_or_le p 0x800))
      (lt_or_le p 0x80)

  back : (b p : ℕ) → point_for b ≡ Some p → Each c (sequence_of p) → b ≡ c → ⊥
  back b p is each e =
      let own = low_same c low in
      let its = (point_partners b p is).entry_is in
      let same : p ≡ c = sym its ∙ rw e own in
      (rw (same, one_byte c low) at each).0 refl

  in_text : (name points : List ℕ) → partners point_for name ≡ Some points → Each c name → Each c (spelled points)
  unfolding partners spelled
  in_text [] points e w = let empty : points ≡ [] = cc in rw empty tt
  in_text (b ∷ name) points e w =
      let one = first point_for b name points e in
      let rest = in_text name one.others one.theirs w.1 in
      rw one.all (each_both c (sequence_of one.y) (spelled one.others) (there b one.y one.its w.0) rest)

  in_name : (name points : List ℕ) → partners point_for name ≡ Some points → Each c (spelled points) → Each c name
  unfolding partners spelled
  in_name [] points e w = tt
  in_name (b ∷ name) points e w =
      let one = first point_for b name points e in
      let parts = each_parts c (sequence_of one.y) (spelled one.others) (rw one.all at w) in
      (back b one.y one.its parts.0, in_name name one.others one.theirs parts.1)

  pub text_without : (name text : List ℕ) → utf8_of name ≡ Some text → Without c name → Without c text
  text_without name text e w =
      let same = utf8_same name text e in
      each_without c text (rw (spells_spelled same.points text same.spell) at (in_text name same.points same.its_points (without_each c name w)))

  pub name_without : (name text : List ℕ) → utf8_of name ≡ Some text → Without c text → Without c name
  name_without name text e w =
      let same = utf8_same name text e in
      let each = without_each c text w in
      each_without c name (in_name name same.points same.its_points (rw (spells_spelled same.points text same.spell) each))
