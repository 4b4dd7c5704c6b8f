-- A front of a written log's blocks, taken back, is the written log of the records that fit in it. So where power is lost inside an append
-- it is the log with the record, if all the append's blocks were put, and else the log as it was.
-- Assumes nothing.
use mathlib.Core.Path.{◌≡◌, refl, sym, ap, ◌∙◌}
use mathlib.Core.Logic.{⊎_elim}
use mathlib.Core.List.{List, [], ◌∷◌, ◌++◌, append-nil}
use Prim.Native.Nat.{ℕ, zero, suc, ◌+◌, ◌-◌, ◌*◌, ◌/◌, ◌≤◌, ◌<◌}
use native.Mathlib.Omega.{arith}
use borrow.Author.Tests.{ne_eqb}
use lib.ListN.{length, take}
use lib.Seq.{take_all}
use Rattle.lists.proofs.Cases.{lt_or_le}
use Rattle.records.specs.Walks.{size_of}
use Rattle.blocks.specs.Block.{BLOCK, PAYLOAD}
use Rattle.linklog.specs.Reading.{BLOCKS_MAX}
use Rattle.linklog.specs.Written.{Mark, marked_all, blocks_from, blocks_for, blocks_in, written}
use Rattle.linklog.specs.Appending.{first_in, touched_in, part_appended}
use Rattle.linklog.specs.TakenBack.{end_in, cut_at, taken_back}
use Rattle.linklog.specs.Promises.{fit}
use Rattle.linklog.proofs.Blocks.{marked_both, length_blocks, length_written, take_blocks}
use Rattle.linklog.proofs.Framing.{IsRecord, AreRecords}
use Rattle.linklog.proofs.Fits.{unfit, fit_first, fit_none, fit_size_law}
use Rattle.linklog.proofs.Marks.{length_all}
use Rattle.linklog.proofs.Front.{all_fit}
use Rattle.linklog.proofs.Appends.{append_counts, first_near, touches_some, part_none, part_some}
use Rattle.linklog.proofs.Shortened.{cut_back}
use Rattle.linklog.proofs.Ends.{end_of, fit_size, fit_both, size_both, end_all}

-- ---- a front of blocks

-- a front of blocks, cut where the first of two lists of bytes ends
cut_at_law : (marks more : List Mark) (m : ℕ) → length marks ≤ PAYLOAD * m
    → cut_at (end_of (length marks)) (blocks_from m 0 (marks ++ more)) ≡ blocks_from (blocks_for (length marks)) 0 marks
unfolding cut_at blocks_for blocks_from
cut_at_law marks more m h = go (blocks_for (length marks)) refl
  where
    go : (count : ℕ) → blocks_for (length marks) ≡ count
        → cut_at (record { blocks = count; used = length marks - PAYLOAD * (count - 1) }) (blocks_from m 0 (marks ++ more)) ≡ blocks_from count 0 marks
    go zero e = refl
    go (suc j) e =
        let n = m - suc j in
        let number : suc j - 1 ≡ j = omega arith in
        let all : m ≡ j + suc n = omega arith in
        rw (ne_eqb (suc j) 0 (λ f. omega arith), number, all) (cut_back marks more j n (omega arith) (omega arith))

module _ (rs : List (List ℕ)) (are : AreRecords rs) where
  -- no more blocks than there are
  front_back : (m : ℕ) → m ≤ blocks_in rs → m ≤ BLOCKS_MAX → taken_back (take (BLOCK * m) (written rs)) ≡ written (fit (PAYLOAD * m) rs)
  unfolding taken_back end_in written
  front_back m h few =
      let marks = marked_all rs in
      let n = blocks_in rs - m in
      let fits = fit (PAYLOAD * m) rs in
      let others = unfit (PAYLOAD * m) rs in
      let all : blocks_in rs ≡ m + n = omega arith in
      let count : length (blocks_from m 0 marks) / BLOCK ≡ m = rw (length_blocks m 0 marks) (omega arith) in
      let both : marks ≡ marked_all fits ++ marked_all others = ap marked_all (sym (fit_both (PAYLOAD * m) rs)) ∙ marked_both fits others in
      let size : fit_size rs m ≡ length (marked_all fits) = sym (length_all fits) in
      rw (all, take_blocks m n 0 marks, count, end_all rs are m h few, size, both)
      (cut_at_law (marked_all fits) (marked_all others) m (omega (arith, fit_size_law (PAYLOAD * m) rs)))

  module _ (few : blocks_in rs ≤ BLOCKS_MAX) where
    -- a written log stays as it is
    pub whole_back : taken_back (written rs) ≡ written rs
    whole_back =
        let n = blocks_in rs in
        rw (take_all (BLOCK * n) (written rs) (omega (arith, length_written rs)), all_fit rs n (omega arith)) at
        (front_back n (omega arith) few)

    -- so many blocks of it become the written log of the records that fit in them
    pub taken_back_law : (m : ℕ) → taken_back (take (BLOCK * m) (written rs)) ≡ written (fit (PAYLOAD * m) rs)
    taken_back_law m =
        ⊎_elim
        (λ (h : m < blocks_in rs). front_back m (omega arith) (omega arith))
        (λ (h : blocks_in rs ≤ m).
        rw (take_all (BLOCK * m) (written rs) (omega (arith, length_written rs)), all_fit rs m h)
        whole_back)
        (lt_or_le m (blocks_in rs))

-- ---- power is lost inside an append

-- the records that fit, among those behind others for which there is room
fit_behind : (ss : List (List ℕ)) (rs : List (List ℕ)) (m : ℕ) → size_of rs ≤ m → fit m (rs ++ ss) ≡ rs ++ fit (m - size_of rs) ss
unfolding size_of
fit_behind ss [] m h = let same : m - 0 ≡ m = omega arith in rw same refl
fit_behind ss (bytes ∷ rs) m h =
    let less : m - (length bytes + size_of rs) ≡ m - length bytes - size_of rs = omega arith in
    rw (fit_first m bytes (rs ++ ss) (omega arith), fit_behind ss rs (m - length bytes) (omega arith), less) refl

are_both : (rs ss : List (List ℕ)) → AreRecords rs → AreRecords ss → AreRecords (rs ++ ss)
are_both [] ss are more = more
are_both (bytes ∷ rs) ss are more = (are.0, are_both rs ss are.1 more)

module _ (rs : List (List ℕ)) (r : List ℕ) (are : AreRecords rs) (is : IsRecord r)
    (few : blocks_in (rs ++ (r ∷ [])) ≤ BLOCKS_MAX) where
  -- where a block is put there is room for the records before
  room : (n : ℕ) → size_of rs ≤ PAYLOAD * (first_in (written rs) + suc n)
  unfolding blocks_for
  room n = omega (arith, length_all rs, (first_near rs r).1)

  -- and this one is there if it fits too
  part_back : (n : ℕ) → taken_back (part_appended (suc n) (written rs) r)
      ≡ written (rs ++ fit (PAYLOAD * (first_in (written rs) + suc n) - size_of rs) (r ∷ []))
  part_back n =
      let m = first_in (written rs) + suc n in
      rw (part_some rs r is.some n, taken_back_law (rs ++ (r ∷ [])) (are_both rs (r ∷ []) are (is, tt)) few m)
      (rw (fit_behind (r ∷ []) rs (PAYLOAD * m) (room n)) refl)

  -- it does where all its blocks are put
  size_then : length (marked_all (rs ++ (r ∷ []))) ≡ size_of rs + length r
  unfolding size_of
  size_then = omega (arith, length_all (rs ++ (r ∷ [])), size_both rs (r ∷ []))

  counts : blocks_for (size_of rs + length r) ≡ first_in (written rs) + touched_in (written rs) r
  counts = rw (← size_then) (append_counts rs r)

  -- until all the blocks are put, the log is taken back to what it was,
  pub lost_before : (n : ℕ) → n < touched_in (written rs) r → taken_back (part_appended n (written rs) r) ≡ written rs
  unfolding blocks_for
  lost_before zero h = rw (part_none (written rs) r) (whole_back rs are (omega (arith, counts, size_then, length_all rs)))
  lost_before (suc n) h =
      let m = first_in (written rs) + suc n in
      rw (part_back n, fit_none (PAYLOAD * m - size_of rs) r [] (omega (arith, counts, room n, is.some)), append-nil rs) refl

  -- and then it has the record
  pub lost_after : (n : ℕ) → touched_in (written rs) r ≤ n → taken_back (part_appended n (written rs) r) ≡ written (rs ++ (r ∷ []))
  unfolding blocks_for fit
  lost_after zero h = absurd (omega (arith, touches_some rs r is.some))
  lost_after (suc n) h =
      let m = first_in (written rs) + suc n in
      rw (part_back n, fit_first (PAYLOAD * m - size_of rs) r [] (omega (arith, counts, room n))) refl
