-- Reading from the front reads exactly the bytes of the grammar, with the code points that they spell.
-- Assumes nothing.
use mathlib.Core.Path.{◌≡◌, refl, sym, ◌∙◌}
use mathlib.Core.Bool.{true}
use mathlib.Core.List.{List, [], ◌∷◌, ◌++◌}
use Prim.Native.Nat.{ℕ, ◌<◌}
use native.Mathlib.Omega.{arith}
use borrow.Author.Tests.{eqb-true}
use lib.ListN.{length, take, drop, take-append-drop}
use lib.Seq.{take_at, drop_at}
use Rattle.records.specs.Walks.{Framing, front_of, rest_of}
use Rattle.records.specs.Items.{items_in}
use Rattle.records.proofs.Framings.{records_first, records_none}
use Rattle.records.proofs.Rests.{rest_first, rest_none, by_records}
use Rattle.codepage.specs.Utf8.{sequences, point_in, Spells, nothing, one_more, width_at, points_in, is_well_formed}
use Rattle.codepage.proofs.Rows as rows

-- ---- the table

pub rise : rows.rising 0 sequences ≡ true
unfolding rows.rising sequences
rise = refl

pub sequence_framing : Framing width_at
unfolding width_at
sequence_framing =
    record { fits = rows.fits sequences; more = λ text more some. rows.more_behind 0 sequences text more rise some }

-- ---- a sequence at the front

-- the code point of the first sequence, and those of the rest
pub points_first : (text : List ℕ) → 0 < width_at text
    → points_in text ≡ point_in (take (width_at text) text) ∷ points_in (drop (width_at text) text)
unfolding points_in items_in front_of
points_first text some = rw (records_first sequence_framing text some)

pub points_none : (text : List ℕ) → width_at text ≡ 0 → points_in text ≡ []
unfolding points_in items_in
points_none text none = rw (records_none width_at text none)

-- ---- exactly the grammar

pub spelled_read : (points text : List ℕ) → Spells points text → (points_in text ≡ points) × (rest_of width_at text ≡ [])
unfolding width_at
spelled_read points text nothing =
    let none : width_at [] ≡ 0 = omega (arith, sequence_framing.fits []) in
    (points_none [] none, rest_none width_at [] none)
spelled_read points text (one_more row sequence rest behind of_table within spells) =
    let all = sequence ++ behind in
    let long = rows.within_length row sequence within in
    let begun = rows.only 0 sequences row all rise of_table (rows.within_begins row sequence behind within) in
    let width : width_at all ≡ length sequence = begun.0 ∙ sym long in
    let some : 0 < width_at all = omega (arith, width, begun.1, long) in
    let later = spelled_read rest behind spells in
    let first = take_at sequence behind (length sequence) refl in
    let others = drop_at sequence behind (length sequence) refl in (
      points_first all some ∙ rw (width, first, others, later.0),
      rest_first sequence_framing all some ∙ rw (width, others) later.1,
    )

pub read_spelled : (text : List ℕ) → rest_of width_at text ≡ [] → Spells (points_in text) text
unfolding width_at
read_spelled =
    by_records sequence_framing (λ text. rest_of width_at text ≡ [] → Spells (points_in text) text)
    (λ text none empty.
    let all : text ≡ [] = sym (rest_none width_at text none) ∙ empty in
    rw (points_none text none, all) nothing)
    (λ text some later empty.
    let one = rows.which sequences text some in
    let front = take (width_at text) text in
    let behind = drop (width_at text) text in
    let within = rw (← one.width) at (rows.begins_within one.row text one.is_begun) in
    let rest = later (sym (rest_first sequence_framing text some) ∙ empty) in
    rw (points_first text some) (rw (take-append-drop (width_at text) text) at (one_more one.row front (points_in behind) behind one.of_table within rest)))

pub well_formed : (text : List ℕ) → is_well_formed text ≡ true → Spells (points_in text) text
unfolding is_well_formed
well_formed text h = read_spelled text (empty (rest_of width_at text) (eqb-true (length (rest_of width_at text)) 0 h))
  where
    empty : (l : List ℕ) → length l ≡ 0 → l ≡ []
    empty [] e = refl
    empty (b ∷ l) e = absurd (omega arith)

pub spells_well_formed : (points text : List ℕ) → Spells points text → is_well_formed text ≡ true
unfolding is_well_formed
spells_well_formed points text spells = rw (spelled_read points text spells).1
