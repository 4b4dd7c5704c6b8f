-- What an append does to the log on flash: the blocks that it leaves in the room, put in their places, make the log with one more record.
-- Assumes nothing.
use mathlib.Core.Path.{◌≡◌, refl, sym, ap, ◌∙◌}
use mathlib.Core.Logic.{inl, inr, ⊎_elim}
use mathlib.Core.Bool.{true}
use mathlib.Core.List.{List, [], ◌∷◌, ◌++◌}
use Prim.Native.Nat.{ℕ, zero, suc, ◌+◌, ◌-◌, ◌*◌, ◌/◌, ◌≤◌, ◌<◌}
use native.Mathlib.Omega.{arith}
use borrow.Author.Tests.{lt-ltb, le-ltb, le-leb}
use lib.Dec.{lit≤}
use lib.ListN.{length, take, drop, length-append, length-take, length-drop}
use lib.Seq.{take-append-le, drop-append-le}
use Rattle.lists.specs.Bytes.{laid}
use Rattle.lists.proofs.Cases.{lt_or_le}
use Rattle.lists.proofs.Laid.{length_laid, laid_eq, front}
use Rattle.paper.specs.declared.Refusal.TheVariants.{LogFull}
use Rattle.blocks.specs.Block.{BLOCK, PAYLOAD}
use Rattle.linklog.specs.declared.Log.{Log}
use Rattle.linklog.specs.Records.{RECORD_MAX}
use Rattle.linklog.specs.Written.{marked_all, block_with, blocks_for, blocks_in, written}
use Rattle.linklog.specs.Reading.{BLOCKS_MAX}
use Rattle.linklog.specs.Appending.{ROOM, chained, first_touched, payload_so_far, place_then, touched, put_blocks, last_in, last_at, is_lent}
use Rattle.linklog.specs.Appending.{filled_to, filled_with, payload_then, answer_for, room_then, last_block, first_in, touched_in, put_to, appended_to, part_appended}
use Rattle.linklog.specs.Promises.{Holds, flashed, part_flashed, log_then}
use Rattle.linklog.proofs.Blocks.{one_few, number_with, used_with}
use Rattle.linklog.proofs.Lending.{right_number, lent_empty, held}
use Rattle.linklog.proofs.Appends.{blocks_file, last_file, IsLast, first_in_law, touched_in_law, put_in, append_counts, touches_some, touches_few, first_near}
use Rattle.linklog.proofs.Appends.{append_writes, length_put, last_put}
use Rattle.std.specs.Prelude.{Ok, Err}

-- ---- a writer that holds a written log

module _ (rs : List (List ℕ)) (r : List ℕ) (log : Log) (room : List ℕ) (holds : Holds (written rs) log room) where
  count : log.blocks ≡ blocks_in rs
  count = holds.counted ∙ blocks_file rs

  known : IsLast (last_in log room) rs
  known =
      ⊎_elim
      (λ (some : 0 < blocks_in rs). inr (holds.has_last (λ none. omega (arith, count))).1.1)
      (λ (none : blocks_in rs ≤ 0). inl (omega arith))
      (lt_or_le 0 (blocks_in rs))

  -- its room is lent as it should be
  lent : blocks_in rs ≤ BLOCKS_MAX → is_lent log room ≡ true
  lent few = go (blocks_in rs) refl
    where
      go : (n : ℕ) → blocks_in rs ≡ n → is_lent log room ≡ true
      go zero e = sym (lent_empty log room holds.roomy (count ∙ e))
      go (suc j) e =
          let some : log.blocks ≡ 0 → ⊥ = λ none. omega (arith, count) in
          let has = holds.has_last some in
          let part = drop (PAYLOAD * j) (marked_all rs) in
          let block = block_with j (take PAYLOAD part) in
          let number = number_with j (take PAYLOAD part) (one_few part) (omega arith) in
          let used = used_with j (take PAYLOAD part) (one_few part) in
          sym (held log room holds.roomy some has.0 has.1.0)
          ∙ rw (has.1.1, last_file rs j e)
          (sym (right_number log.blocks j (length (take PAYLOAD part)) block (sym number) (sym used) (omega (arith, count)))
          ∙ le-leb (length (take PAYLOAD part)) PAYLOAD (one_few part))

  -- what it touches and puts is as the file tells it
  first_is : first_touched log.blocks (last_in log room) ≡ first_in (written rs)
  first_is = ap (λ (n : ℕ). first_touched n (last_in log room)) count ∙ first_in_law rs r (last_in log room) known

  size_is : length (payload_then log room r) ≡ length (payload_so_far log.blocks (last_in log room)) + length r
  unfolding payload_then
  size_is = length-append (payload_so_far log.blocks (last_in log room)) r

  touched_is : blocks_for (length (payload_then log room r)) ≡ touched_in (written rs) r
  unfolding touched
  touched_is = ap blocks_for size_is ∙ ap (λ (n : ℕ). touched n (last_in log room) r) count ∙ touched_in_law rs r (last_in log room) known

  put_is : chained (blocks_for (length (payload_then log room r))) (first_touched log.blocks (last_in log room)) (place_then log.blocks (last_in log room))
      (payload_then log room r) ≡ put_to (written rs) r
  unfolding payload_then put_blocks touched
  put_is = rw size_is (ap (λ (n : ℕ). put_blocks n (last_in log room) r) count ∙ put_in rs r (last_in log room) known)

  counts : first_touched log.blocks (last_in log room) + blocks_for (length (payload_then log room r)) ≡ blocks_in (rs ++ (r ∷ []))
  counts = rw (first_is, touched_is) (sym (append_counts rs r))

  -- too many
  pub log_full : blocks_in rs ≤ BLOCKS_MAX → BLOCKS_MAX < blocks_in (rs ++ (r ∷ [])) → (answer_for log room r ≡ Err LogFull) × (room_then log room r ≡ room)
  unfolding answer_for room_then filled_to filled_with
  log_full few many = rw (lent few, counts, lt-ltb BLOCKS_MAX (blocks_in (rs ++ (r ∷ []))) many) (refl, refl)

  -- not too many
  module _ (some : 0 < length r) (short : length r ≤ RECORD_MAX) (few : blocks_in (rs ++ (r ∷ [])) ≤ BLOCKS_MAX) where
    few_before : blocks_in rs ≤ BLOCKS_MAX
    few_before = omega (arith, append_counts rs r, (first_near rs r).1, touches_some rs r some)

    log_put : answer_for log room r ≡ Ok (log_then rs r)
    unfolding answer_for filled_to
    log_put = rw (lent few_before, counts, le-ltb BLOCKS_MAX (blocks_in (rs ++ (r ∷ []))) few, touched_is) refl

    room_put : room_then log room r ≡ laid room 0 (put_to (written rs) r)
    unfolding room_then filled_with
    room_put = rw (lent few_before, counts, le-ltb BLOCKS_MAX (blocks_in (rs ++ (r ∷ []))) few, put_is) refl

    -- they are the blocks that the file is to have
    first_then : blocks_in (rs ++ (r ∷ [])) - touched_in (written rs) r ≡ first_in (written rs)
    first_then = omega (arith, append_counts rs r)

    fits : length (put_to (written rs) r) ≤ length room
    fits = omega (arith, length_put rs r some, touches_few rs r short, holds.roomy)

    front_put : take (BLOCK * touched_in (written rs) r) (room_then log room r) ≡ put_to (written rs) r
    front_put = rw (room_put, ← (length_put rs r some)) (front room (put_to (written rs) r) fits)

    flash_put : flashed (written rs) (log_then rs r) (room_then log room r) ≡ written (rs ++ (r ∷ []))
    unfolding flashed appended_to
    flash_put = rw (first_then, front_put) (append_writes rs r some)

    -- or, where power is lost, so many of them
    pub part_to_flash : (n : ℕ) → part_flashed n (written rs) (log_then rs r) (room_then log room r) ≡ part_appended n (written rs) r
    unfolding part_flashed part_appended
    part_to_flash n = rw (first_then, front_put) refl

    -- the room has the last of them
    last_then : last_in (log_then rs r) (room_then log room r) ≡ last_block (written (rs ++ (r ∷ [])))
    unfolding last_in last_at
    last_then =
        let put = put_to (written rs) r in
        let at = BLOCK * (touched_in (written rs) r - 1) in
        let behind = drop (0 + length put) room in
        let size = length_put rs r some in
        let more = touches_some rs r some in
        rw (
          room_put,
          laid_eq room 0 put (omega (arith, fits)),
          last_put rs r some,
          drop-append-le at put behind (omega arith),
          take-append-le BLOCK (drop at put) behind (rw length-drop (omega arith)),
        ) refl

    holds_put : Holds (written (rs ++ (r ∷ []))) (log_then rs r) (room_then log room r)
    holds_put =
        record {
          counted = sym (blocks_file (rs ++ (r ∷ [])));
          roomy = rw (room_put, length_laid room 0 (put_to (written rs) r)) holds.roomy;
          has_last = λ _. (touches_some rs r some, (touches_few rs r short, last_then));
        }

    pub put_to_flash : (answer_for log room r ≡ Ok (log_then rs r))
        × ((flashed (written rs) (log_then rs r) (room_then log room r) ≡ written (rs ++ (r ∷ [])))
        × Holds (written (rs ++ (r ∷ []))) (log_then rs r) (room_then log room r))
    put_to_flash = (log_put, (flash_put, holds_put))

-- ---- a start

pub holds_empty : (room : List ℕ) → ROOM ≤ length room → Holds [] (record { blocks = 0; held = 0 }) room
holds_empty room fits = record { counted = refl; roomy = fits; has_last = λ some. absurd (some refl) }

-- on a file whose last block stands at the room's front
pub taken_up_law : (file room : List ℕ) → ROOM ≤ length room → ((length file / BLOCK ≡ 0 → ⊥) → take BLOCK room ≡ last_block file)
    → Holds file (record { blocks = length file / BLOCK; held = 1 }) room
unfolding last_in last_at
taken_up_law file room fits last = record { counted = refl; roomy = fits; has_last = λ some. (lit≤ tt, (lit≤ tt, last some)) }

-- it stands there where it was laid
pub laid_up : (file room : List ℕ) → ROOM ≤ length room → (length file / BLOCK ≡ 0 → ⊥) → take BLOCK (laid room 0 (last_block file)) ≡ last_block file
unfolding last_block
laid_up file room fits some =
    let before = BLOCK * (length file / BLOCK - 1) in
    let last = take BLOCK (drop before file) in
    let size : length last ≡ BLOCK = length-take BLOCK (drop before file) ∙ rw length-drop (omega arith) in
    rw size at (front room last (omega arith))
