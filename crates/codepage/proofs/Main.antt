-- The page of listener names: what is promised of the table, of `codepage::to_utf8` and of `codepage::from_utf8`.
-- Assumes nothing.
use Rattle.std.specs.Prelude.{Option, None, Some, is_some, Ok, Err}
use mathlib.Core.Path.{◌≡◌, refl, sym, ◌∙◌}
use mathlib.Core.Bool.{not}
use mathlib.Core.List.{List, [], ◌∷◌, map}
use Prim.Native.Nat.{ℕ, ◌≤◌, ◌<◌}
use lib.Dec.{eqb}
use lib.ListN.{length, take}
use Rattle.lists.specs.Places.{place}
use Rattle.paper.specs.Rows.{first_held, comes_to}
use Rattle.paper.specs.declared.Refusal.{Refusal}
use Rattle.records.specs.Walks.{front_of, records_in, records_of, size_of, rest_of}
use Rattle.records.specs.Items.{items_in}
use Rattle.codepage.specs.Points.{NONE, BYTES, points, is_five, point_of, byte_for}
use Rattle.codepage.specs.Utf8.{IsScalar, sequences, sequence_of, point_in, Spells, begins, width_by, width_at, points_in, is_well_formed}
use Rattle.codepage.specs.Names.{partners, utf8_of, name_of, result_of, answer_for, buffer_for, number_for}
use Rattle.codepage.specs.Promises.{WellFormed, Same, has_five, Bytes, converting_rows, outcome, answer_in}
use Rattle.codepage.proofs.Points as table
use Rattle.codepage.proofs.Names as names
use Rattle.codepage.proofs.Answers as answers
use Rattle.codepage.proofs.Promises as promises
use Rattle.codepage.proofs.to_utf8.Reads as to-utf8
use Rattle.codepage.proofs.from_utf8.Reads as from-utf8

-- ---- the table

-- "Bytes below 80 and from A0 on map to themselves"
pub below_80 : (byte : ℕ) → byte < 0x80 → point_of byte ≡ byte
below_80 = table.low_same

pub from_A0 : (byte : ℕ) → 0xA0 ≤ byte → byte < BYTES → point_of byte ≡ byte
from_A0 = table.high_same

-- "65,535 for the five bytes 81, 8D, 8F, 90 and 9D (hexadecimal) that have none"
pub none_for_the_five : (byte : ℕ) → byte < BYTES → eqb (point_of byte) NONE ≡ is_five byte
none_for_the_five = table.none_at_five

-- "no two entries but those five are equal"
pub no_two_equal : (j k : ℕ) → j < BYTES → k < BYTES → point_of j ≡ point_of k → (point_of j ≡ NONE → ⊥) → j ≡ k
no_two_equal = table.distinct

-- the controls from U+0080 to U+009F, and 65,535, have no byte
pub controls_have_none : (point : ℕ) → 0x80 ≤ point → point < 0xA0 → byte_for point ≡ None
controls_have_none = table.controls_none

pub 65535_has_none : byte_for NONE ≡ None
unfolding byte_for
65535_has_none = refl

-- ---- UTF-8, by the standard's table of byte ranges

-- every scalar value has its sequence; no two texts spell the same code points, and no text spells two
pub every_scalar : (point : ℕ) → IsScalar point → Spells (point ∷ []) (sequence_of point)
every_scalar = promises.every_scalar

pub one_spelling : (points text text' : List ℕ) → Spells points text → Spells points text' → text ≡ text'
one_spelling = promises.one_spelling

pub one_reading : (points points' text : List ℕ) → Spells points text → Spells points' text → points ≡ points'
one_reading = promises.one_reading

-- what `to_utf8` writes is well formed: a name's text; and on its contract, the bytes at the front of the buffer
pub well_formed : (name text : List ℕ) → utf8_of name ≡ Some text → WellFormed text
well_formed = promises.well_formed

pub writes_well_formed : (κs : _) (a : _) (r : _) (s : _) → to-utf8.Post κs a r s → (n : ℕ) → r ≡ Ok n → WellFormed (take n s.1.0.now)
writes_well_formed κs a r s p n is = promises.written_formed a.0.now _ _ n (sym p.0 ∙ is) p.1

-- ---- the conversions

-- each gives exactly the other side of the same name: every byte's code point, and the bytes that spell these
pub to_exactly : (name text : List ℕ) → utf8_of name ≡ Some text → Same name text
to_exactly = names.utf8_same

pub to_all : (name text : List ℕ) → Same name text → utf8_of name ≡ Some text
to_all = names.same_utf8

pub from_exactly : (text name : List ℕ) → name_of text ≡ Some name → Same name text
from_exactly = names.name_same

pub from_all : (text name : List ℕ) → Same name text → name_of text ≡ Some name
from_all = names.same_name

-- "a converted name comes back as it was", and a converted text
pub name_back : (name text : List ℕ) → utf8_of name ≡ Some text → name_of text ≡ Some name
name_back = names.name_back

pub text_back : (text name : List ℕ) → name_of text ≡ Some name → utf8_of name ≡ Some text
text_back = names.text_back

-- The same on the functions' own contracts: a call of the one that answers a length, and a call of the other on what it wrote, with room.
-- The input is the first parameter, the buffer the second.
pub name_comes_back :
    (κs : _) (a : _) (r : _) (s : _) → to-utf8.Post κs a r s → (κs' : _) (a' : _) (r' : _) (s' : _) → from-utf8.Post κs' a' r' s'
    → (n : ℕ) → r ≡ Ok n → a'.0.now ≡ take n s.1.0.now → length a.0.now ≤ length a'.1.0.now
    → (r' ≡ Ok (length a.0.now)) × (take (length a.0.now) s'.1.0.now ≡ a.0.now)
name_comes_back κs a r s p κs' a' r' s' p' n is given room =
    promises.back_again utf8_of name_of names.name_back a.0.now _ _ n r p.0 p.1 is a'.0.now _ _ r' given p'.0 p'.1 room

pub text_comes_back :
    (κs : _) (a : _) (r : _) (s : _) → from-utf8.Post κs a r s → (κs' : _) (a' : _) (r' : _) (s' : _) → to-utf8.Post κs' a' r' s'
    → (n : ℕ) → r ≡ Ok n → a'.0.now ≡ take n s.1.0.now → length a.0.now ≤ length a'.1.0.now
    → (r' ≡ Ok (length a.0.now)) × (take (length a.0.now) s'.1.0.now ≡ a.0.now)
text_comes_back κs a r s p κs' a' r' s' p' n is given room =
    promises.back_again name_of utf8_of names.text_back a.0.now _ _ n r p.0 p.1 is a'.0.now _ _ r' given p'.0 p'.1 room

-- ---- the refusals, whichever way

-- the first row that holds, and none exactly if none does
pub first_row : (result : Option (List ℕ)) (out : List ℕ)
    → outcome (answer_for result out) ≡ comes_to (length (result_of result)) (first_held (converting_rows result out))
first_row = promises.first_row

-- 19 for a name exactly if it has one of the five
pub by_the_five : (name : List ℕ) → Bytes name → is_some (utf8_of name) ≡ not (has_five name)
by_the_five = promises.by_the_five

-- "Both leave the buffer unchanged."
pub refused_leaves : (result : Option (List ℕ)) (out : List ℕ) (why : Refusal) → answer_for result out ≡ Err why → buffer_for result out ≡ out
refused_leaves = answers.refused_leaves

-- a length is that of the result, which stands at the front, and the bytes behind it stay
pub length_written : (result : Option (List ℕ)) (out : List ℕ) (n : ℕ) → answer_for result out ≡ Ok n → promises.Written result out n
length_written = promises.length_written

-- ---- from C: the one number tells the answer

pub number_undone : (result : Option (List ℕ)) (out : List ℕ) → answer_in (number_for (answer_for result out)) ≡ answer_for result out
number_undone = promises.number_undone

-- ---- by computing

-- the euro sign, a letter with an accent, and both ends of the ranges of one and two bytes
pub converted : map name_of
    ((0xE2 ∷ 0x82 ∷ 0xAC ∷ []) ∷ (0xC3 ∷ 0xA9 ∷ []) ∷ (0x00 ∷ 0x7F ∷ []) ∷ (0xC2 ∷ 0xA0 ∷ 0xC3 ∷ 0xBF ∷ []) ∷ (0xE2 ∷ 0x84 ∷ 0xA2 ∷ []) ∷ [])
    ≡ Some (0x80 ∷ []) ∷ Some (0xE9 ∷ []) ∷ Some (0x00 ∷ 0x7F ∷ []) ∷ Some (0xA0 ∷ 0xFF ∷ []) ∷ Some (0x99 ∷ []) ∷ []
unfolding name_of is_well_formed rest_of size_of records_of records_in front_of width_at width_by begins sequences points_in items_in point_in partners byte_for
    points place
converted = refl

-- too long a form of U+0000, U+007F, U+0000 and U+0800, U+FFFF; surrogates, the first and the last; bytes that stand alone; ends cut off; over
-- 10FFFF; and well formed without a partner: U+0081, U+FFFF, U+10000, U+10FFFF
pub refused : map name_of
    ((0xC0 ∷ 0x80 ∷ []) ∷ (0xC1 ∷ 0xBF ∷ []) ∷ (0xE0 ∷ 0x80 ∷ 0x80 ∷ []) ∷ (0xE0 ∷ 0x82 ∷ 0xA0 ∷ []) ∷ (0xF0 ∷ 0x8F ∷ 0xBF ∷ 0xBF ∷ [])
    ∷ (0xED ∷ 0xA0 ∷ 0x80 ∷ []) ∷ (0xED ∷ 0xBF ∷ 0xBF ∷ []) ∷ (0x80 ∷ []) ∷ (0xBF ∷ []) ∷ (0xFE ∷ []) ∷ (0xFF ∷ [])
    ∷ (0xC3 ∷ []) ∷ (0xE2 ∷ 0x82 ∷ []) ∷ (0xF0 ∷ 0x9F ∷ 0x98 ∷ []) ∷ (0x41 ∷ 0xC3 ∷ []) ∷ (0xC3 ∷ 0x41 ∷ [])
    ∷ (0xF4 ∷ 0x90 ∷ 0x80 ∷ 0x80 ∷ []) ∷ (0xF5 ∷ 0x80 ∷ 0x80 ∷ 0x80 ∷ [])
    ∷ (0xC2 ∷ 0x81 ∷ []) ∷ (0xEF ∷ 0xBF ∷ 0xBF ∷ []) ∷ (0xF0 ∷ 0x90 ∷ 0x80 ∷ 0x80 ∷ []) ∷ (0xF4 ∷ 0x8F ∷ 0xBF ∷ 0xBF ∷ []) ∷ [])
    ≡ None ∷ None ∷ None ∷ None ∷ None ∷ None ∷ None ∷ None ∷ None ∷ None ∷ None ∷ None ∷ None ∷ None ∷ None ∷ None ∷ None ∷ None ∷ None ∷ None
    ∷ None ∷ None ∷ []
unfolding name_of is_well_formed rest_of size_of records_of records_in front_of width_at width_by begins sequences points_in items_in point_in partners byte_for
    points place
refused = refl

-- One outcome for each input, of every public function: proofs/One
