-- The notes, record by record: where the record turned spoiled it is the new note, and else it stays.
-- Assumes nothing.
use Rattle.std.proofs.Common.{◌≡◌, ℕ, zero, suc, ◌+◌, ◌<◌, ◌≤◌, cond, List, [], ◌∷◌, length, set, sym, refl, ap, ◌∙◌, ⊎_elim, arith, length-set, get_or-set_other, get_or-set_same, ext_get_or}
use Rattle.lists.proofs.Cases.{lt_or_le}
use Rattle.table.specs.declared.Table.{Table}
use Rattle.table.specs.Table.{record_at}
use Rattle.cause.specs.declared.Note.{Note}
use Rattle.cause.specs.Notes.{blank_note, note_at, turned, noted_from}

-- what becomes of the note of record k
abbrev pub note_after : Note → Table → Table → ℕ → Note → Note
note_after note before after k old = cond (turned (record_at before k) (record_at after k)) note old

module _ (note : Note) (before after : Table) where
  pub length_noted : (k : ℕ) (notes : List Note) → length (noted_from k note before after notes) ≡ length notes
  unfolding noted_from
  length_noted k [] = refl
  length_noted k (old ∷ notes) = ap suc (length_noted (suc k) notes)

  noted_from_law : (k : ℕ) (notes : List Note) (j : ℕ) → j < length notes
      → note_at (noted_from k note before after notes) j ≡ note_after note before after (k + j) (note_at notes j)
  unfolding noted_from
  noted_from_law k [] j h = absurd (omega arith)
  noted_from_law k (old ∷ notes) zero h = let e : k + 0 ≡ k = omega arith in rw e refl
  noted_from_law k (old ∷ notes) (suc j) h =
      let e : k + suc j ≡ suc k + j = omega arith in
      rw e (noted_from_law (suc k) notes j (omega arith))

  pub noted_at : (notes : List Note) (j : ℕ) → j < length notes
      → note_at (noted_from 0 note before after notes) j ≡ note_after note before after j (note_at notes j)
  noted_at notes j h = noted_from_law 0 notes j h ∙ (let e : 0 + j ≡ j = omega arith in rw e refl)

  -- ---- a loop over the records

  -- before turn i: the first i notes are done, and the others are as they were
  pub record SoFar (old notes : List Note) (i : ℕ) : Type 0 where
    pub long : length notes ≡ length old
    pub done : (j : ℕ) → j < i → j < length old → note_at notes j ≡ note_after note before after j (note_at old j)
    pub left : (j : ℕ) → i ≤ j → note_at notes j ≡ note_at old j

  pub begin : (old : List Note) → SoFar old old 0
  begin old = record { long = refl; done = λ j h k. absurd (omega arith); left = λ j h. refl }

  -- a turn sets its note
  pub turn : (old notes : List Note) (i : ℕ) → SoFar old notes i → i < length old → (new : Note)
      → new ≡ note_after note before after i (note_at notes i) → SoFar old (set notes i new) (i + 1)
  turn old notes i s h new e =
      record {
        long = length-set notes i new ∙ s.long;
        done = λ j l k.
            ⊎_elim
            (λ (lt : j < i). get_or-set_other notes i j new blank_note (λ f. omega arith) ∙ s.done j lt k)
            (λ (le : i ≤ j).
            let f : j ≡ i = omega arith in
            rw f (get_or-set_same notes i new blank_note (omega (arith, s.long)) ∙ e ∙ ap (note_after note before after i) (s.left i (omega arith))))
            (lt_or_le j i);
        left = λ j l. get_or-set_other notes i j new blank_note (λ f. omega arith) ∙ s.left j (omega arith);
      }

  pub ends : (old notes : List Note) (i : ℕ) → SoFar old notes i → length old ≤ i → notes ≡ noted_from 0 note before after old
  ends old notes i s h =
      ext_get_or blank_note notes (noted_from 0 note before after old) (s.long ∙ sym (length_noted 0 old))
      (λ j l. let k : j < length old = omega (arith, s.long) in s.done j (omega arith) k ∙ sym (noted_at old j k))
