-- A log that nobody changed: reading gives the records that were written, and of its first blocks those that are done in them.
-- Assumes nothing.
use mathlib.Core.Path.{◌≡◌, refl, ap, ◌∙◌}
use mathlib.Core.Logic.{◌⊎◌, inl, inr, ⊎_elim}
use mathlib.Core.Bool.{Bool, true}
use mathlib.Core.List.{List, map}
use Prim.Native.Nat.{ℕ, zero, suc, ◌+◌, ◌-◌, ◌*◌, ◌/◌, ◌≤◌, ◌<◌}
use native.Mathlib.Omega.{arith}
use borrow.Author.Tests.{ltb-true}
use lib.Dec.{ltb, eqb}
use lib.ListN.{length, take, drop, length-map, length-take, length-drop}
use lib.Seq.{length-take-le, take_all}
use Rattle.lists.specs.Places.{place}
use Rattle.lists.proofs.Cases.{lt_or_le, choice}
use Rattle.blocks.specs.Block.{BLOCK, PAYLOAD, NONE, is_good}
use Rattle.linklog.specs.Records.{Entry, record_of, entry_in, as_logged}
use Rattle.linklog.specs.Written.{Mark, byte_at, begins_at, marked_all, first_place, block_with, blocks_from, blocks_for, blocks_in, written}
use Rattle.linklog.specs.Reading.{BLOCKS_MAX, records_read, entries_read}
use Rattle.linklog.specs.Promises.{fit, AreEntries, block_at, good_at, sound}
use Rattle.blocks.proofs.Blocks.{block_good}
use Rattle.linklog.proofs.Blocks.{length_blocks, length_written, take_blocks, first_block, next_blocks}
use Rattle.linklog.proofs.Framing.{AreRecords}
use Rattle.linklog.proofs.Fits.{fit_all}
use Rattle.linklog.proofs.Marks.{length_all}
use Rattle.linklog.proofs.Kept.{kept_fit}
use Rattle.linklog.proofs.Damage.{Stands, reads_all, last_one, room_for_law, blocks_there, block_there, entries_records, entries_back}

-- all blocks are good
abbrev all_good : ℕ → Bool
all_good number = true

all_sound : (n at : ℕ) → sound all_good at n ≡ true
unfolding sound
all_sound zero at = refl
all_sound (suc n) at = all_sound n (suc at)

-- ---- a written block is good

-- the place of its first record is in it, or there is none
place_in : (marks : List Mark) → (first_place marks < length marks) ⊎ (first_place marks ≡ NONE)
unfolding first_place
place_in marks =
    choice (λ (at : ℕ). (at < length marks) ⊎ (at ≡ NONE)) (ltb (place begins_at marks) (length marks)) (λ e. inl (ltb-true _ _ e)) (λ _. inr refl)

-- only the last is partly used
last_or_full : (n used : ℕ) → (0 < n → used ≡ PAYLOAD) → (eqb n 0 ≡ true) ⊎ (used ≡ PAYLOAD)
last_or_full zero used h = inl refl
last_or_full (suc n) used h = inr (h (omega arith))

-- so many blocks stand behind it
pub good_with : (n number : ℕ) (marks : List Mark) → number < 65536 → PAYLOAD * n ≤ length marks
    → is_good (eqb n 0) number (block_with number (take PAYLOAD marks)) ≡ true
unfolding block_with
good_with n number marks few behind =
    let part = take PAYLOAD marks in
    let size = length-map part byte_at in
    let short : length part ≤ PAYLOAD = rw length-take (omega arith) in
    block_good number (first_place part) (map byte_at part) (eqb n 0) few (omega arith) (rw size (place_in part))
    (last_or_full n (length (map byte_at part)) (λ some. size ∙ length-take-le PAYLOAD marks (omega arith)))

-- all but the last are full
whole_stands : (n number : ℕ) (marks : List Mark) → number + n ≤ BLOCKS_MAX → PAYLOAD * n ≤ length marks + PAYLOAD
    → Stands all_good n number marks (blocks_from n number marks)
whole_stands zero number marks few full = tt
whole_stands (suc n) number marks few full =
    rw (first_block n number marks, next_blocks n number marks) (
      good_with n number marks (omega arith) (omega arith),
      (λ _. refl, whole_stands n (suc number) (drop PAYLOAD marks) (omega arith) (rw length-drop (omega arith))),
    )

-- in all of a log's blocks all its records fit
pub all_fit : (rs : List (List ℕ)) (m : ℕ) → blocks_in rs ≤ m → fit (PAYLOAD * m) rs ≡ rs
all_fit rs m h = fit_all (PAYLOAD * m) rs (omega (arith, room_for_law (length (marked_all rs)), length_all rs))

module _ (rs : List (List ℕ)) (are : AreRecords rs) (few : blocks_in rs ≤ BLOCKS_MAX) where
  -- the first blocks
  blocks_read : (m : ℕ) → m ≤ blocks_in rs → records_read (blocks_from m 0 (marked_all rs)) ≡ fit (PAYLOAD * m) rs
  unfolding records_read blocks_for
  blocks_read m h =
      let marks = marked_all rs in
      let file = blocks_from m 0 marks in
      let there : length file / BLOCK ≡ m = omega (arith, length_blocks m 0 marks) in
      rw there
      (reads_all all_good m rs file are (whole_stands m 0 marks (omega arith) (omega arith))
      ∙ kept_fit all_good (PAYLOAD * m) rs 0 (all_sound (PAYLOAD * m) 0))

  -- all of them
  pub written_read : records_read (written rs) ≡ rs
  unfolding written
  written_read = blocks_read (blocks_in rs) (omega arith) ∙ all_fit rs (blocks_in rs) (omega arith)

  -- so many of them
  pub front_read : (m : ℕ) → records_read (take (BLOCK * m) (written rs)) ≡ fit (PAYLOAD * m) rs
  unfolding written
  front_read m =
      let marks = marked_all rs in
      let blocks = blocks_in rs in
      ⊎_elim
      (λ (h : m < blocks).
      let sum : blocks ≡ m + (blocks - m) = omega arith in
      ap (λ (n : ℕ). records_read (take (BLOCK * m) (blocks_from n 0 marks))) sum
      ∙ rw (take_blocks m (blocks - m) 0 marks) (blocks_read m (omega arith)))
      (λ (h : blocks ≤ m). rw (take_all (BLOCK * m) (written rs) (rw (length_written rs) (omega arith)), all_fit rs m h) written_read)
      (lt_or_le m blocks)

pub read_what_was_written : (es : List Entry) → AreEntries es → blocks_in (map record_of es) ≤ BLOCKS_MAX
    → entries_read (written (map record_of es)) ≡ map as_logged es
unfolding entries_read
read_what_was_written es are few = ap (map entry_in) (written_read (map record_of es) (entries_records es) few) ∙ entries_back es are

-- a block that is unchanged is found good
pub unchanged_good : (rs : List (List ℕ)) → blocks_in rs ≤ BLOCKS_MAX → (file : List ℕ) → length file ≡ length (written rs)
    → (k : ℕ) → k < length file / BLOCK → block_at k file ≡ block_at k (written rs) → good_at file k ≡ true
unfolding good_at blocks_for
unchanged_good rs few file same k h unchanged =
    let blocks = length file / BLOCK in
    let there : blocks ≡ blocks_in rs = blocks_there rs file same in
    let n = blocks - suc k in
    let sum : k + suc n ≡ blocks = omega arith in
    rw (← (last_one k n blocks sum), unchanged, block_there rs file same k n sum)
    (good_with n k (drop (PAYLOAD * k) (marked_all rs)) (omega arith) (rw length-drop (omega arith)))
