-- Where the last whole record ends that reading gives of a front of a written log's blocks.
-- Assumes nothing.
use mathlib.Core.Path.{◌≡◌, refl, sym, ap, ◌∙◌}
use mathlib.Core.Logic.{⊎_elim}
use mathlib.Core.Bool.{true, false}
use mathlib.Core.List.{List, [], ◌∷◌, ◌++◌}
use Prim.Native.Nat.{ℕ, zero, suc, ◌+◌, ◌-◌, ◌*◌, ◌≤◌, ◌<◌, min}
use native.Mathlib.Omega.{arith}
use borrow.Author.Tests.{eq-eqb, ne_eqb}
use lib.Dec.{eqb}
use lib.ListN.{length, take, drop, length-append, length-take, length-drop, length-map}
use lib.Seq.{drop-drop, take-add}
use Rattle.lists.proofs.Cases.{lt_or_le}
use Rattle.blocks.specs.Block.{PAYLOAD, used_in, is_good}
use Rattle.records.specs.Walks.{records_in, records_of, size_of, rest_of}
use Rattle.records.specs.Items.{all_of}
use Rattle.records.proofs.Rests.{records_more, rest_more}
use Rattle.linklog.specs.Records.{is_stray, logged_whole}
use Rattle.linklog.specs.Reading.{BLOCKS_MAX, Course, Seeking, Within, Gave, through, entered, taken}
use Rattle.linklog.specs.Written.{byte_at, marked_all, first_place, blocks_from, blocks_for, blocks_in}
use Rattle.linklog.specs.declared.End.{End}
use Rattle.linklog.specs.TakenBack.{no_end, end_after, end_from}
use Rattle.linklog.specs.Promises.{fit}
use Rattle.linklog.proofs.Blocks.{used_with, one_few, first_block, next_blocks}
use Rattle.linklog.proofs.Framing.{log_framing, AreRecords}
use Rattle.linklog.proofs.Fits.{unfit, over, by_fit, fit_first, unfit_first}
use Rattle.linklog.proofs.Fits.{fit_none, unfit_none, over_short, fit_size_law, fit_told, over_told, unfit_are}
use Rattle.linklog.proofs.Steps.{block_behind, left_right, here_payload, here_place}
use Rattle.linklog.proofs.Front.{good_with}
use Rattle.linklog.proofs.Marks.{length_all, bytes_all, place_front}

-- ---- the records that fit

-- they and the others are all
pub fit_both : (m : ℕ) (rs : List (List ℕ)) → fit m rs ++ unfit m rs ≡ rs
unfolding fit unfit
fit_both =
    by_fit (λ m rs. fit m rs ++ unfit m rs ≡ rs) (λ m. refl)
    (λ m bytes rest h later. rw (fit_first m bytes rest h, unfit_first m bytes rest h, later))
    (λ m bytes rest h. rw (fit_none m bytes rest h, unfit_none m bytes rest h) refl)

-- where more of them fit in more room, they reach past the room before
fit_longer : (n m : ℕ) (rs : List (List ℕ)) → length (fit m rs) < length (fit (m + n) rs) → m < size_of (fit (m + n) rs)
unfolding fit size_of
fit_longer n =
    by_fit (λ m rs. length (fit m rs) < length (fit (m + n) rs) → m < size_of (fit (m + n) rs)) (λ m g. absurd (omega arith))
    (λ m bytes rest h later g.
    let less : m + n - length bytes ≡ m - length bytes + n = omega arith in
    let more : fit (m + n) (bytes ∷ rest) ≡ bytes ∷ fit (m - length bytes + n) rest = fit_first (m + n) bytes rest (omega arith) ∙ rw less refl in
    rw more (omega (arith, later (omega (arith, rw (more, fit_first m bytes rest h) at g)))))
    (λ m bytes rest h g.
    ⊎_elim
    (λ (k : m + n < length bytes). absurd (omega (arith, rw (fit_none (m + n) bytes rest k) at g)))
    (λ (k : length bytes ≤ m + n). rw (fit_first (m + n) bytes rest k) (omega arith))
    (lt_or_le (m + n) (length bytes)))

-- what is left behind them is the beginning of a record, or nothing
rest_right : (m : ℕ) (rs : List (List ℕ)) → AreRecords rs → is_stray (rest_of logged_whole (take m (all_of rs))) ≡ false
rest_right m rs are = rw (over_told m rs are) (left_right (over m rs) (unfit m rs) (over_short m rs) (unfit_are m rs are))

-- ---- the blocks of a written log, read one by one

-- a block
abbrev block_in : List (List ℕ) → ℕ → List ℕ
block_in rs k = block_behind k (PAYLOAD * k) rs

-- the bytes before it, and its own
abbrev bytes_to : List (List ℕ) → ℕ → List ℕ
bytes_to rs k = take (PAYLOAD * k) (all_of rs)

abbrev bytes_in : List (List ℕ) → ℕ → List ℕ
bytes_in rs k = take PAYLOAD (drop (PAYLOAD * k) (all_of rs))

-- where reading stands before it, and what it gives
abbrev course_at : List (List ℕ) → ℕ → Course
course_at rs k = Within (rest_of logged_whole (bytes_to rs k))

abbrev gave_at : List (List ℕ) → ℕ → Gave
gave_at rs k = through (rest_of logged_whole (bytes_to rs k) ++ bytes_in rs k)

module _ (rs : List (List ℕ)) (k : ℕ) where
  -- how many bytes it has
  used_in_law : used_in (block_in rs k) ≡ min PAYLOAD (length (marked_all rs) - PAYLOAD * k)
  used_in_law =
      let part = drop (PAYLOAD * k) (marked_all rs) in
      used_with k (take PAYLOAD part) (one_few part) ∙ length-take PAYLOAD part ∙ rw length-drop refl

  -- each is good, in every front of the log
  good_in : (n : ℕ) → k + suc n ≤ blocks_in rs → k < BLOCKS_MAX → is_good (eqb n 0) k (block_in rs k) ≡ true
  unfolding blocks_for
  good_in n h few = good_with n k (drop (PAYLOAD * k) (marked_all rs)) few (rw length-drop (omega arith))

  -- it is read behind what was left before it
  taken_in : (n : ℕ) → k + suc n ≤ blocks_in rs → k < BLOCKS_MAX → taken (eqb n 0) k (course_at rs k) (block_in rs k) ≡ gave_at rs k
  unfolding taken entered
  taken_in n h few = rw (good_in n h few, here_payload k (PAYLOAD * k) rs) refl

-- ---- what each gives

module _ (rs : List (List ℕ)) (are : AreRecords rs) (k : ℕ) where
  bytes_next : bytes_to rs (suc k) ≡ bytes_to rs k ++ bytes_in rs k
  bytes_next = let on : PAYLOAD * suc k ≡ PAYLOAD * k + PAYLOAD = omega arith in rw on (take-add (PAYLOAD * k) PAYLOAD (all_of rs))

  -- the records that fit then and didn't before
  given_at : fit (PAYLOAD * suc k) rs ≡ fit (PAYLOAD * k) rs ++ (gave_at rs k).given
  unfolding through
  given_at =
      sym (fit_told (PAYLOAD * suc k) rs are)
      ∙ rw (bytes_next, records_more log_framing (bytes_in rs k) (bytes_to rs k), fit_told (PAYLOAD * k) rs are) refl

  -- the bytes that are left behind them
  left_at : rest_of logged_whole (rest_of logged_whole (bytes_to rs k) ++ bytes_in rs k) ≡ rest_of logged_whole (bytes_to rs (suc k))
  left_at = rw bytes_next (sym (rest_more log_framing (bytes_in rs k) (bytes_to rs k)))

  course_at_law : (gave_at rs k).course ≡ course_at rs (suc k)
  unfolding through
  course_at_law = rw (left_at, rest_right (PAYLOAD * suc k) rs are) refl

  behind_at : (gave_at rs k).behind ≡ min (PAYLOAD * suc k) (length (marked_all rs)) - size_of (fit (PAYLOAD * suc k) rs)
  unfolding through rest_of
  behind_at =
      rw left_at
      (length-drop (size_of (records_of logged_whole (bytes_to rs (suc k)))) (bytes_to rs (suc k))
      ∙ rw (fit_told (PAYLOAD * suc k) rs are, length-take (PAYLOAD * suc k) (all_of rs), ← (bytes_all rs), length-map (marked_all rs) byte_at) refl)

-- ---- where the last whole record ends

-- behind so many bytes
abbrev pub end_of : ℕ → End
end_of size = record { blocks = blocks_for size; used = size - PAYLOAD * (blocks_for size - 1) }

abbrev pub fit_size : List (List ℕ) → ℕ → ℕ
fit_size rs k = size_of (fit (PAYLOAD * k) rs)

-- in a block
end_in_law : (k size : ℕ) → PAYLOAD * k < size → size ≤ PAYLOAD * suc k → record { blocks = suc k; used = size - PAYLOAD * k } ≡ end_of size
unfolding blocks_for
end_in_law k size some few =
    let count : blocks_for size ≡ suc k = omega arith in
    let number : suc k - 1 ≡ k = omega arith in
    rw (count, number) refl

pub size_both : (rs ss : List (List ℕ)) → size_of (rs ++ ss) ≡ size_of rs + size_of ss
unfolding size_of
size_both [] ss = omega arith
size_both (bytes ∷ rs) ss = omega (arith, size_both rs ss)

size_none : (rs : List (List ℕ)) → length rs ≡ 0 → size_of rs ≡ 0
unfolding size_of
size_none [] h = refl
size_none (bytes ∷ rs) h = absurd (omega arith)

-- those that fit are no more than all
fit_within : (m : ℕ) (rs : List (List ℕ)) → size_of (fit m rs) ≤ length (marked_all rs)
fit_within m rs = omega (arith, length_all rs, size_both (fit m rs) (unfit m rs), ap size_of (fit_both m rs))

-- each block of a log has a byte
block_some : (size k n : ℕ) → k + suc n ≤ blocks_for size → PAYLOAD * k < size
unfolding blocks_for
block_some size k n h = omega arith

-- a record begins at the front of the first
first_here : (rs : List (List ℕ)) → AreRecords rs → 0 < blocks_in rs → first_place (take PAYLOAD (marked_all rs)) ≡ 0
unfolding marked_all blocks_for
first_here [] are some = absurd (omega arith)
first_here (bytes ∷ rest) are some = place_front PAYLOAD bytes rest (omega arith) are.0.some

module _ (rs : List (List ℕ)) (are : AreRecords rs) where
  -- a block in which a record becomes whole moves the end to it
  end_next : (k : ℕ) → PAYLOAD * k < length (marked_all rs) → end_after (end_of (fit_size rs k)) k (block_in rs k) (gave_at rs k) ≡ end_of (fit_size rs (suc k))
  unfolding end_after
  end_next k there =
      let given = (gave_at rs k).given in
      let more = given_at rs are k in
      ⊎_elim
      (λ (some : 0 < length given).
      let on : PAYLOAD * suc k ≡ PAYLOAD * k + PAYLOAD = omega arith in
      let longer : length (fit (PAYLOAD * k) rs) < length (fit (PAYLOAD * suc k) rs) =
      rw (more, length-append (fit (PAYLOAD * k) rs) given) (omega arith) in
      let past : PAYLOAD * k < fit_size rs (suc k) = rw on (fit_longer PAYLOAD (PAYLOAD * k) rs (rw on at longer)) in
      let within = fit_within (PAYLOAD * suc k) rs in
      let few = fit_size_law (PAYLOAD * suc k) rs in
      let used : used_in (block_in rs k) - (gave_at rs k).behind ≡ fit_size rs (suc k) - PAYLOAD * k =
      rw (used_in_law rs k, behind_at rs are k) (omega arith) in
      rw (ne_eqb (length given) 0 (λ e. omega arith), used) (end_in_law k (fit_size rs (suc k)) past (omega arith)))
      (λ (none : length given ≤ 0).
      let same : fit_size rs k ≡ fit_size rs (suc k) =
      omega (arith, size_none given (omega arith), size_both (fit (PAYLOAD * k) rs) given, ap size_of more) in
      rw (eq-eqb (length given) 0 (omega arith), same) refl)
      (lt_or_le 0 (length given))

  -- so many blocks, from one on
  end_from_law : (n k : ℕ) → k + n ≤ blocks_in rs → k + n ≤ BLOCKS_MAX
      → end_from n k (course_at rs k) (end_of (fit_size rs k)) (blocks_from n k (drop (PAYLOAD * k) (marked_all rs))) ≡ end_of (fit_size rs (k + n))
  unfolding end_from
  end_from_law zero k h few = let none : k + 0 ≡ k = omega arith in rw none refl
  end_from_law (suc n) k h few =
      let part = drop (PAYLOAD * k) (marked_all rs) in
      let next : k + suc n ≡ suc k + n = omega arith in
      let on : PAYLOAD * k + PAYLOAD ≡ PAYLOAD * suc k = omega arith in
      rw (
        first_block n k part,
        next_blocks n k part,
        taken_in rs k n h (omega arith),
        end_next k (block_some (length (marked_all rs)) k n h),
        course_at_law rs are k,
        drop-drop PAYLOAD (PAYLOAD * k) (marked_all rs),
        on,
        next,
      ) (end_from_law n (suc k) (omega arith) (omega arith))

  -- the first block is entered at its front
  first_taken : (n : ℕ) → suc n ≤ blocks_in rs → taken (eqb n 0) 0 Seeking (block_in rs 0) ≡ gave_at rs 0
  unfolding taken entered rest_of records_of records_in size_of
  first_taken n h = rw (good_in rs 0 n (omega arith) (omega arith), here_place 0 0 rs, first_here rs are (omega arith), here_payload 0 0 rs) refl

  -- before it no record has ended
  none_first : end_of (fit_size rs 0) ≡ no_end
  unfolding blocks_for
  none_first = let none : fit_size rs 0 ≡ 0 = omega (arith, fit_size_law 0 rs) in rw none refl

  -- so many blocks, from the first on
  pub end_all : (m : ℕ) → m ≤ blocks_in rs → m ≤ BLOCKS_MAX
      → end_from m 0 Seeking no_end (blocks_from m 0 (marked_all rs)) ≡ end_of (fit_size rs m)
  unfolding end_from
  end_all zero h few = sym none_first
  end_all (suc n) h few =
      let marks = marked_all rs in
      let one : suc n ≡ 1 + n = omega arith in
      rw (
        first_block n 0 marks,
        next_blocks n 0 marks,
        first_taken n h,
        ← none_first,
        end_next 0 (block_some (length marks) 0 n (omega arith)),
        course_at_law rs are 0,
        one,
      ) (end_from_law n 1 (omega arith) (omega arith))
