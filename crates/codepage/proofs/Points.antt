-- The table: its identity ranges, its five entries without a code point, and that no two others are equal, tested once over the whole.
-- Assumes nothing.
use Rattle.std.specs.Prelude.{Option, None, Some, ◌==◌}
use mathlib.Core.Path.{◌≡◌, refl, sym, ap, ◌∙◌}
use mathlib.Core.Logic.{⊎_elim}
use mathlib.Core.Bool.{Bool, true, false, cond, not, ◌&&◌, ◌||◌, beq}
use mathlib.Core.List.{List, [], ◌∷◌}
use Prim.Native.Nat.{ℕ, ◌+◌, ◌-◌, ◌≤◌, ◌<◌}
use native.Mathlib.Omega.{arith}
use borrow.Author.Tests.{ltb-true, eqb-true, eqb-false, lt-ltb, le-ltb, le-leb, lt-leb, ne_eqb}
use lib.Dec.{eqb, ltb, leb}
use lib.ListN.{length, take, drop, get_or, get_or-eq_default}
use Rattle.std.proofs.lemmas.List.{get_or-take, get_or-drop}
use Rattle.lists.specs.Places.{place, here_or}
use Rattle.lists.proofs.Cases.{both, lt_or_le, true_not_false}
use Rattle.lists.proofs.Places.{place_passes, place_none}
use Rattle.codepage.specs.Points.{NONE, BYTES, points, is_five, point_of, point_for, is_entry, found, byte_for}
use Rattle.std.specs.List.{position, position_or_len}
use Rattle.std.proofs.lemmas.List.Quantifiers.{position-Some}
use Rattle.codepage.proofs.Entries.{every, at_each, entry_there}

-- ---- the test

-- "Bytes below 80 and from A0 on map to themselves"
abbrev same_there : ℕ → ℕ → Bool
same_there k x = cond (ltb k 0x80 || leb 0xA0 k) (eqb x k) true

-- "no two entries but those five are equal": the first entry with a code point is the only one
abbrev only_there : ℕ → ℕ → Bool
only_there k x = cond (eqb x NONE) true (eqb (place (is_entry x) points) k)

-- "65,535 for the five bytes"
abbrev five_there : ℕ → ℕ → Bool
five_there k x = beq (eqb x NONE) (is_five k)

-- any other code point has 16 bits and is no surrogate
abbrev plain_there : ℕ → ℕ → Bool
plain_there k x = ltb x 0xD800 || eqb x NONE

-- and none is for a control from 80 to 9F
abbrev no_control : ℕ → ℕ → Bool
no_control k x = ltb x 0x80 || leb 0xA0 x

abbrev fine : ℕ → ℕ → Bool
fine k x = same_there k x && (only_there k x && (five_there k x && (plain_there k x && no_control k x)))

tested : every fine 0 points ≡ true
unfolding points place
tested = refl

pub size : length points ≡ BYTES
unfolding points
size = refl

-- ---- carried to each entry

record Entry (k : ℕ) : Type 0 where
  pub same_there_law : same_there k (point_of k) ≡ true
  pub only_there_law : only_there k (point_of k) ≡ true
  pub five_there_law : five_there k (point_of k) ≡ true
  pub plain_there_law : plain_there k (point_of k) ≡ true
  pub no_control_law : no_control k (point_of k) ≡ true

entry : (k : ℕ) → k < BYTES → Entry k
unfolding point_of
entry k h =
    let x = get_or points k NONE in
    let all = at_each fine NONE points tested k (rw size h) in
    let a = both (same_there k x) (only_there k x && (five_there k x && (plain_there k x && no_control k x))) all in
    let b = both (only_there k x) (five_there k x && (plain_there k x && no_control k x)) a.1 in
    let c = both (five_there k x) (plain_there k x && no_control k x) b.1 in
    let d = both (plain_there k x) (no_control k x) c.1 in
    record { same_there_law = a.0; only_there_law = b.0; five_there_law = c.0; plain_there_law = d.0; no_control_law = d.1 }

-- as the code reads it, with 0 where nothing stands
pub entry_read : (k : ℕ) → k < BYTES → get_or points k 0 ≡ point_of k
unfolding point_of
entry_read k h = entry_there points k 0 NONE (rw size h)

pub low_same : (k : ℕ) → k < 0x80 → point_of k ≡ k
low_same k h = eqb-true (point_of k) k (rw (lt-ltb k 0x80 h) at (entry k (omega arith)).same_there_law)

pub high_same : (k : ℕ) → 0xA0 ≤ k → k < BYTES → point_of k ≡ k
high_same k g h = eqb-true (point_of k) k (rw (le-ltb k 0x80 (omega arith), le-leb 0xA0 k g) at (entry k h).same_there_law)

-- none exactly at the five
pub none_at_five : (k : ℕ) → k < BYTES → eqb (point_of k) NONE ≡ is_five k
none_at_five k h = alike (eqb (point_of k) NONE) (is_five k) (entry k h).five_there_law
  where
    alike : (a b : Bool) → beq a b ≡ true → a ≡ b
    alike true true e = refl
    alike true false e = cc
    alike false true e = cc
    alike false false e = refl

plain : (k : ℕ) → k < BYTES → (point_of k ≡ NONE → ⊥) → point_of k < 0xD800
plain k h n = ltb-true (point_of k) 0xD800 (left (ltb (point_of k) 0xD800) (rw (ne_eqb (point_of k) NONE n) at (entry k h).plain_there_law))
  where
    left : (a : Bool) → (a || false) ≡ true → a ≡ true
    left true e = refl
    left false e = e

-- ---- partners

-- a byte and a code point that are each other's
pub record Partners (b p : ℕ) : Type 0 where
  pub byte : b < BYTES
  pub entry_is : point_of b ≡ p
  pub is_one : p ≡ NONE → ⊥

pub partners_point : (b p : ℕ) → Partners b p → point_for b ≡ Some p
unfolding point_for
partners_point b p are = rw (are.entry_is, ne_eqb p NONE are.is_one)

pub partners_byte : (b p : ℕ) → Partners b p → byte_for p ≡ Some b
unfolding byte_for
partners_byte b p are =
    let off = ne_eqb p NONE are.is_one in
    let only = rw (are.entry_is, off) at (entry b are.byte).only_there_law in
    let here : place (is_entry p) points ≡ b = eqb-true _ b only in
    rw (off, here, lt-ltb b BYTES are.byte)

pub point_partners : (b p : ℕ) → point_for b ≡ Some p → Partners b p
unfolding point_for point_of
point_partners b p e = go (eqb (point_of b) NONE) refl e
  where
    go : (t : Bool) → eqb (point_of b) NONE ≡ t → ◌≡◌ {A = Option ℕ} (cond t None (Some (point_of b))) (Some p) → Partners b p
    go true off f = let z : ◌≡◌ {A = ℕ} 0 1 = cc in absurd (omega arith)
    go false off f =
        let is : point_of b ≡ p = cc in
        let one = eqb-false (point_of b) NONE off in
        record {
          byte = ⊎_elim (λ (h : b < BYTES). h) (λ (h : BYTES ≤ b). absurd (one (get_or-eq_default points NONE {n = b} (rw size h)))) (lt_or_le b BYTES);
          entry_is = is;
          is_one = λ z. one (is ∙ z);
        }

pub byte_partners : (p b : ℕ) → byte_for p ≡ Some b → Partners b p
unfolding byte_for point_of
byte_partners p b e = go (eqb p NONE) refl e
  where
    at_place : (t : Bool) → ltb (place (is_entry p) points) BYTES ≡ t → (p ≡ NONE → ⊥)
        → ◌≡◌ {A = Option ℕ} (cond t (Some (place (is_entry p) points)) None) (Some b) → Partners b p
    at_place true there one f =
        let here : place (is_entry p) points ≡ b = cc in
        let below = ltb-true (place (is_entry p) points) BYTES there in
        let passes = place_passes (is_entry p) points NONE (rw size below) in
        record { byte = rw here at below; entry_is = eqb-true (get_or points b NONE) p (rw here at passes); is_one = one }
    at_place false there one f = let z : ◌≡◌ {A = ℕ} 0 1 = cc in absurd (omega arith)

    go : (t : Bool) → eqb p NONE ≡ t → ◌≡◌ {A = Option ℕ} (cond t None (found (place (is_entry p) points))) (Some b) → Partners b p
    go true off f = let z : ◌≡◌ {A = ℕ} 0 1 = cc in absurd (omega arith)
    go false off f = at_place (ltb (place (is_entry p) points) BYTES) refl (eqb-false p NONE off) f

-- such a code point is no surrogate
pub partners_plain : (b p : ℕ) → Partners b p → p < 0xD800
partners_plain b p are = rw are.entry_is at (plain b are.byte (λ z. are.is_one (sym are.entry_is ∙ z)))

-- "no two entries but those five are equal"
pub distinct : (j k : ℕ) → j < BYTES → k < BYTES → point_of j ≡ point_of k → (point_of j ≡ NONE → ⊥) → j ≡ k
distinct j k h g e n =
    let there = partners_byte j (point_of j) (record { byte = h; entry_is = refl; is_one = n }) in
    let here = partners_byte k (point_of j) (record { byte = g; entry_is = sym e; is_one = n }) in
    cc

-- ---- code points without a byte

-- none, or one whose partner would be wrong
pub no_partner : (p : ℕ) → ((b : ℕ) → Partners b p → ⊥) → byte_for p ≡ None
no_partner p off = go (byte_for p) refl
  where
    go : (r : Option ℕ) → byte_for p ≡ r → byte_for p ≡ None
    go None e = e
    go (Some b) e = absurd (off b (byte_partners p b e))

-- the controls from 80 to 9F
pub controls_none : (p : ℕ) → 0x80 ≤ p → p < 0xA0 → byte_for p ≡ None
controls_none p low high =
    no_partner p
    (λ b are.
    let out = rw (are.entry_is, le-ltb p 0x80 low, lt-leb 0xA0 p high) at (entry b are.byte).no_control_law in
    true_not_false (sym out))

-- from the surrogates on
pub above_none : (p : ℕ) → 0xD800 ≤ p → byte_for p ≡ None
above_none p high = no_partner p (λ b are. omega (arith, partners_plain b p are))

-- the place of the first that passes, as the library finds it
place_is : (test : ℕ → Bool) (xs : List ℕ) → position_or_len test xs ≡ place test xs
unfolding place
place_is test [] = refl
place_is test (x ∷ xs) = go (test x) (place_is test xs)
  where
    go : (t : Bool) → position_or_len test xs ≡ place test xs → cond (not t) (1 + position_or_len test xs) 0 ≡ here_or t (place test xs)
    go true e = refl
    go false e = omega arith

-- ---- the entries from 80 to 9F, the ones that are not their own place

abbrev pub apart : List ℕ
apart = take 0x20 (drop 0x80 points)

apart_long : length apart ≡ 0x20
unfolding points
apart_long = refl

apart_is : (i : ℕ) → i < 0x20 → get_or apart i 0 ≡ point_of (0x80 + i)
apart_is i h = get_or-take 0x20 (drop 0x80 points) i 0 h ∙ get_or-drop 0x80 points i 0 ∙ entry_read (0x80 + i) (omega arith)

-- a code point that is found there has the byte of its entry
pub found_apart : (p i : ℕ) → (p ≡ NONE → ⊥) → position (λ entry. entry == p) apart ≡ Some i → (i < 0x20) × (byte_for p ≡ Some (0x80 + i))
found_apart p i one e =
    let at = position-Some (λ entry. entry == p) apart i 0 e in
    let below : i < 0x20 = rw apart_long at at.0 in
    let is : get_or apart i 0 ≡ p = eqb-true (get_or apart i 0) p at.1 in
    (below, partners_byte (0x80 + i) p (record { byte = omega (arith, below); entry_is = sym (apart_is i below) ∙ is; is_one = one }))

-- where nothing is found, no entry is for it
none_there : (p : ℕ) → position (λ entry. entry == p) apart ≡ None → length apart ≤ place (is_entry p) apart
none_there p e =
    ⊎_elim
    (λ (h : place (is_entry p) apart < length apart). let none : ◌≡◌ {A = Option ℕ} (Some (place (is_entry p) apart)) None = rw (place_is (is_entry p) apart, lt-ltb _ _ h) at e in let z : ◌≡◌ {A = ℕ} 0 1 = cc in absurd (omega arith))
    (λ (h : length apart ≤ place (is_entry p) apart). h)
    (lt_or_le (place (is_entry p) apart) (length apart))

-- and one that no entry there is for, above all that are their own place, has no byte
pub none_apart : (p : ℕ) → BYTES ≤ p → position (λ entry. entry == p) apart ≡ None → byte_for p ≡ None
none_apart p high e =
    no_partner p
    (λ b are.
    ⊎_elim
    (λ (h : b < 0x80). omega (arith, low_same b h, are.entry_is))
    (λ (h : 0x80 ≤ b).
    ⊎_elim
    (λ (g : b < 0xA0).
    let i = b - 0x80 in
    let off = place_none (is_entry p) apart 0 (ne_eqb 0 p (λ z. omega (arith, z))) (none_there p e) i in
    let there : get_or apart i 0 ≡ p = apart_is i (omega arith) ∙ ap point_of (omega arith) ∙ are.entry_is in
    eqb-false (get_or apart i 0) p off there)
    (λ (g : 0xA0 ≤ b). let k = are.byte in omega (arith, high_same b g k, are.entry_is))
    (lt_or_le b 0xA0))
    (lt_or_le b 0x80))

-- a byte by itself
pub own_byte : (b : ℕ) → b < BYTES → point_of b ≡ b → byte_for b ≡ Some b
own_byte b h same = partners_byte b b (record { byte = h; entry_is = same; is_one = λ z. omega arith })
