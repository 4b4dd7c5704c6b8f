-- "If bytes of a log we wrote are changed, none lost or added, and the blocks found bad are exactly the changed ones, reading gives every
-- record that touches no bad block and nothing else."
-- Assumes nothing.
use mathlib.Core.Path.{◌≡◌, refl, sym, ap, ◌∙◌}
use mathlib.Core.Logic.{◌⊎◌, inl, inr, ⊎_elim}
use mathlib.Core.Bool.{Bool, true, false}
use mathlib.Core.List.{List, [], ◌∷◌, map}
use Prim.Native.Nat.{ℕ, zero, suc, ◌+◌, ◌*◌, ◌/◌, ◌≤◌, ◌<◌}
use native.Mathlib.Omega.{arith}
use borrow.Author.Tests.{eq-eqb, ne_eqb, eqb-true, eqb-false}
use lib.Dec.{eqb}
use lib.ListN.{length, take, drop, get_or}
use lib.Seq.{drop-drop}
use Rattle.lists.proofs.Cases.{true_not_false}
use Rattle.records.specs.Walks.{size_of}
use Rattle.blocks.specs.Block.{BLOCK, PAYLOAD, is_good}
use Rattle.linklog.specs.Records.{Entry, record_of, entry_in, as_logged}
use Rattle.linklog.specs.Written.{Mark, marked_all, block_with, blocks_for, blocks_in, written}
use Rattle.linklog.specs.Reading.{Course, Seeking, taken, read_from, records_read, entries_read}
use Rattle.linklog.specs.Promises.{fit, log_of, AreEntries, block_at, good_at, Changed, BadAreChanged, kept_from}
use Rattle.linklog.proofs.Blocks.{length_written, one_block}
use Rattle.linklog.proofs.Framing.{AreRecords, entry_record, entry_back}
use Rattle.linklog.proofs.Fits.{unfit, over, Short, begun, fit_none, over_short, fit_size_law, fit_all, fit_more, unfit_are}
use Rattle.linklog.proofs.Marks.{length_all, drop_marks}
use Rattle.linklog.proofs.Kept.{kept, kept_both, kept_entries}
use Rattle.linklog.proofs.Steps.{Held, Stepped, block_behind, bad_step, good_step}

-- so many blocks of a file, from a number on, beside marks: each is good as it is said, and a good one is the one that the marks make
abbrev pub Stands : (ℕ → Bool) → ℕ → ℕ → List Mark → List ℕ → Type 0
Stands good zero number marks file = Unit {0}
Stands good (suc n) number marks file =
    (is_good (eqb n 0) number (take BLOCK file) ≡ good number)
    × ((good number ≡ true → take BLOCK file ≡ block_with number (take PAYLOAD marks)) × Stands good n (suc number) (drop PAYLOAD marks) (drop BLOCK file))

-- with fewer bytes than the first has none is done
none_fit : (off : ℕ) (rs : List (List ℕ)) → Short off rs → fit off rs ≡ []
unfolding fit
none_fit off [] short = refl
none_fit off (bytes ∷ rest) short = fit_none off bytes rest short

module _ (good : ℕ → Bool) where
  -- any block
  block_step : (k at off : ℕ) (rs : List (List ℕ)) (course : Course) (last : Bool) (block : List ℕ) → AreRecords rs → Short off rs
      → at + off ≡ PAYLOAD * k → Held good at off rs course → is_good last k block ≡ good k → (good k ≡ true → block ≡ block_behind k off rs)
      → Stepped good at (off + PAYLOAD) rs (taken last k course block)
  unfolding taken
  block_step k at off rs course last block are short e held found same = go (good k) refl
    where
      go : (b : Bool) → good k ≡ b → Stepped good at (off + PAYLOAD) rs (taken last k course block)
      go true fine = rw (found, fine, same fine) (good_step good k fine at off rs course are short e held)
      go false bad = rw (found, bad) (bad_step good k at off rs are short e bad)

  -- so many blocks give the records that are kept of those that are done in them
  pub reads : (n k at off : ℕ) (rs : List (List ℕ)) (course : Course) (file : List ℕ) → AreRecords rs → Short off rs
      → at + off ≡ PAYLOAD * k → Held good at off rs course → Stands good n k (drop off (marked_all rs)) file
      → read_from n k course file ≡ kept good at (fit (off + PAYLOAD * n) rs)
  unfolding read_from kept
  reads zero k at off rs course file are short e held stands =
      let none : off + 0 ≡ off = omega arith in
      rw (none, none_fit off rs short) refl
  reads (suc n) k at off rs course file are short e held stands =
      let m = off + PAYLOAD in
      let gave = taken (eqb n 0) k course (take BLOCK file) in
      let step : Stepped good at m rs gave =
      block_step k at off rs course (eqb n 0) (take BLOCK file) are short e held stands.0 stands.1.0 in
      let left : drop PAYLOAD (drop off (marked_all rs)) ≡ drop (over m rs) (marked_all (unfit m rs)) =
      drop-drop PAYLOAD off (marked_all rs) ∙ drop_marks m rs in
      let later = reads n (suc k) (at + size_of (fit m rs)) (over m rs) (unfit m rs) gave.course (drop BLOCK file) (unfit_are m rs are) (over_short m rs)
      (omega (arith, fit_size_law m rs)) step.1 (rw left at stands.1.1) in
      let more : off + PAYLOAD * suc n ≡ m + PAYLOAD * n = omega arith in
      rw (more, fit_more (PAYLOAD * n) m rs, kept_both good at (fit m rs) (fit (over m rs + PAYLOAD * n) (unfit m rs)), ← step.0, ← later) refl

  -- from the beginning
  pub reads_all : (n : ℕ) (rs : List (List ℕ)) (file : List ℕ) → AreRecords rs → Stands good n 0 (marked_all rs) file
      → read_from n 0 Seeking file ≡ kept good 0 (fit (PAYLOAD * n) rs)
  reads_all n rs file are stands =
      let all : 0 + PAYLOAD * n ≡ PAYLOAD * n = omega arith in
      rw all at (reads n 0 0 0 rs Seeking file are (begun rs are) refl (seeking rs) stands)
    where
      seeking : (rs : List (List ℕ)) → Held good 0 0 rs Seeking
      seeking [] = tt
      seeking (bytes ∷ rest) = λ some. absurd (omega arith)

-- ---- a file in the place of a written log

-- the last block is the one behind which there is none
pub last_one : (k n blocks : ℕ) → k + suc n ≡ blocks → eqb n 0 ≡ eqb (suc k) blocks
last_one k zero blocks e = sym (eq-eqb (suc k) blocks (omega arith))
last_one k (suc n) blocks e = ne_eqb (suc n) 0 (λ z. omega arith) ∙ sym (ne_eqb (suc k) blocks (λ z. omega arith))

-- the blocks of records' bytes have room for them
pub room_for_law : (bytes : ℕ) → bytes ≤ PAYLOAD * blocks_for bytes
unfolding blocks_for
room_for_law bytes = omega arith

module _ (rs : List (List ℕ)) (file : List ℕ) (same : length file ≡ length (written rs)) where
  pub blocks_there : length file / BLOCK ≡ blocks_in rs
  blocks_there = omega (arith, length_written rs)

  -- a block of the written log
  pub block_there : (k n : ℕ) → k + suc n ≡ length file / BLOCK
      → block_at k (written rs) ≡ block_with k (take PAYLOAD (drop (PAYLOAD * k) (marked_all rs)))
  unfolding block_at written
  block_there k n e =
      let all : blocks_in rs ≡ k + suc n = sym (e ∙ blocks_there) in
      let number : 0 + k ≡ k = omega arith in
      rw (all, one_block k n 0 (marked_all rs), number) refl

  module _ (are : AreRecords rs) (unchanged : (k : ℕ) → k < length file / BLOCK → good_at file k ≡ true → block_at k file ≡ block_at k (written rs)) where
    stands : (n k : ℕ) → k + n ≡ length file / BLOCK → Stands (good_at file) n k (drop (PAYLOAD * k) (marked_all rs)) (drop (BLOCK * k) file)
    unfolding good_at block_at
    stands zero k e = tt
    stands (suc n) k e =
        let marks_on : PAYLOAD * k + PAYLOAD ≡ PAYLOAD * suc k = omega arith in
        let file_on : BLOCK * k + BLOCK ≡ BLOCK * suc k = omega arith in (
          rw (last_one k n (length file / BLOCK) e) refl,
          (
            λ fine. unchanged k (omega arith) fine ∙ block_there k n e,
            rw (drop-drop PAYLOAD (PAYLOAD * k) (marked_all rs), drop-drop BLOCK (BLOCK * k) file, marks_on, file_on) (stands n (suc k) (omega arith)),
          ),
        )

    pub damage_records : records_read file ≡ kept (good_at file) 0 rs
    unfolding records_read
    damage_records =
        let blocks = length file / BLOCK in
        let room : size_of rs ≤ PAYLOAD * blocks = omega (arith, room_for_law (length (marked_all rs)), length_all rs, blocks_there) in
        reads_all (good_at file) blocks rs file are (stands blocks 0 (omega arith)) ∙ rw (fit_all (PAYLOAD * blocks) rs room)

-- ---- entries

pub entries_records : (es : List Entry) → AreRecords (map record_of es)
entries_records [] = tt
entries_records (e ∷ es) = (entry_record e, entries_records es)

pub entries_back : (es : List Entry) → AreEntries es → map entry_in (map record_of es) ≡ map as_logged es
entries_back [] are = refl
entries_back (e ∷ es) are = rw (entry_back e are.0, entries_back es are.1)

-- a block that is found good is unchanged: of a file as long as the written log every entry is read that touches no bad block, and nothing else
pub damage : (es : List Entry) → AreEntries es → (file : List ℕ) → length file ≡ length (log_of es)
    → ((k : ℕ) → k < length file / BLOCK → good_at file k ≡ true → block_at k file ≡ block_at k (log_of es))
    → entries_read file ≡ kept_from (good_at file) 0 es
unfolding entries_read
damage es are file same unchanged =
    ap (map entry_in) (damage_records (map record_of es) file same (entries_records es) unchanged) ∙ kept_entries (good_at file) 0 es are

-- ---- the blocks found bad are exactly the changed ones

same_or_other : (xs ys : List ℕ) → (xs ≡ ys) ⊎ (xs ≡ ys → ⊥)
same_or_other [] [] = inl refl
same_or_other [] (y ∷ ys) = inr (λ e. omega (arith, ap length e))
same_or_other (x ∷ xs) [] = inr (λ e. omega (arith, ap length e))
same_or_other (x ∷ xs) (y ∷ ys) = go (eqb x y) refl (same_or_other xs ys)
  where
    go : (t : Bool) → eqb x y ≡ t → (xs ≡ ys) ⊎ (xs ≡ ys → ⊥) → (x ∷ xs ≡ y ∷ ys) ⊎ (x ∷ xs ≡ y ∷ ys → ⊥)
    go true e (inl same) = inl (rw (eqb-true x y e, same) refl)
    go true e (inr other) = inr (λ same. other (ap (drop 1) same))
    go false e rest = inr (λ same. eqb-false x y e (ap (λ (l : List ℕ). get_or l 0 0) same))

pub damage_exactly : (es : List Entry) → AreEntries es → (file : List ℕ) → length file ≡ length (log_of es) → BadAreChanged (log_of es) file
    → entries_read file ≡ kept_from (good_at file) 0 es
damage_exactly es are file same exactly =
    damage es are file same
    (λ k h fine.
    ⊎_elim
    (λ (unchanged : block_at k file ≡ block_at k (log_of es)). unchanged)
    (λ (changed : Changed (log_of es) file k). absurd (true_not_false (sym fine ∙ (exactly k h).1 changed)))
    (same_or_other (block_at k file) (block_at k (log_of es))))
