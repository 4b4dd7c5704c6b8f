-- What an append puts makes of a written log the log with one more record.
-- Assumes nothing.
use mathlib.Core.Path.{◌≡◌, refl, sym, ap, ◌∙◌}
use mathlib.Core.Logic.{◌⊎◌, inl, inr, ⊎_elim}
use mathlib.Core.Bool.{Bool, true, false, cond}
use mathlib.Core.List.{List, [], ◌∷◌, ◌++◌, map, map-append, append_assoc, append-nil}
use Prim.Native.Nat.{ℕ, zero, suc, ◌+◌, ◌-◌, ◌*◌, ◌/◌, ◌≤◌, ◌<◌}
use native.Mathlib.Nat.{zero-add}
use native.Mathlib.Omega.{arith}
use borrow.Author.Tests.{lt-ltb, le-ltb, eq-eqb, ne_eqb}
use lib.Dec.{eqb}
use lib.ListN.{length, take, drop, length-append, length-take, length-drop, length-map, take-append-drop, drop_of_length-le}
use lib.Seq.{length-take-le, drop-append-le, take_all, drop-length}
use Rattle.lists.specs.Places.{place, here_or}
use Rattle.lists.proofs.Cases.{lt_or_le}
use Rattle.lists.proofs.Places.{place_le, place_behind}
use Rattle.blocks.specs.Block.{BLOCK, PAYLOAD, NONE, used_in}
use Rattle.linklog.specs.Records.{RECORD_MAX}
use Rattle.linklog.specs.Written.{Mark, byte_at, begins_at, inside, marked, marked_all, first_place, block_with, blocks_from, blocks_for, blocks_in, written}
use Rattle.linklog.specs.Appending.{HELD_MAX, chained, begun, first_touched, payload_so_far, place_then, touched, put_blocks}
use Rattle.linklog.specs.Appending.{last_block, first_in, touched_in, put_to, appended_to, appended_all, part_appended}
use Rattle.linklog.proofs.Framing.{AreRecords}
use Rattle.linklog.proofs.Blocks.{none_inside, take_behind, drop_behind, take_map, drop_map, bytes_inside, bytes_marked, length_marked}
use Rattle.linklog.proofs.Blocks.{place_with, used_with, payload_with, one_few, marked_both}
use Rattle.linklog.proofs.Blocks.{blocks_both, blocks_front, length_written, take_blocks, one_block}

-- ---- places

-- one that is found is found with more behind
place_before : {A : Type 0} (p : A → Bool) (t rest : List A) → place p t < length t → place p (t ++ rest) ≡ place p t
unfolding place
place_before p [] rest h = absurd (omega arith)
place_before p (x ∷ t) rest h = go (p x) h (place_before p t rest)
  where
    go : (b : Bool) → here_or b (place p t) < suc (length t) → (place p t < length t → place p (t ++ rest) ≡ place p t)
        → here_or b (place p (t ++ rest)) ≡ here_or b (place p t)
    go true k ih = refl
    go false k ih = ap suc (ih (omega arith))

-- the place of the first record with one more record behind: it is that one if none begins before
abbrev pub or_here : List Mark → ℕ
or_here marks = cond (eqb (first_place marks) NONE) (length marks) (first_place marks)

first_both : (marks : List Mark) (byte : ℕ) (bytes : List ℕ) → length marks < PAYLOAD
    → first_place (marks ++ marked (byte ∷ bytes)) ≡ or_here marks
unfolding first_place marked
first_both marks byte bytes h =
    let more = marked (byte ∷ bytes) in
    let at = place begins_at marks in
    let longer = length-append marks more in
    ⊎_elim
    (λ (k : at < length marks).
    rw (
      place_before begins_at marks more k,
      lt-ltb at (length (marks ++ more)) (omega (arith, longer)),
      lt-ltb at (length marks) k,
      ne_eqb at NONE (λ e. omega arith),
    ))
    (λ (k : length marks ≤ at).
    let all : at ≡ length marks = omega (arith, place_le begins_at marks) in
    rw (
      place_behind begins_at marks (record { byte = byte; begins = true }) (map inside bytes) all refl,
      lt-ltb (length marks) (length (marks ++ more)) (omega (arith, longer)),
      le-ltb at (length marks) k,
    ))
    (lt_or_le at (length marks))

-- ---- the blocks from the first that an append touches

-- further blocks: no record begins there
blocks_inside : (n number : ℕ) (bytes : List ℕ) → blocks_from n number (map inside bytes) ≡ chained n number NONE bytes
unfolding blocks_from chained block_with
blocks_inside zero number bytes = refl
blocks_inside (suc n) number bytes =
    rw (
      take_map inside PAYLOAD bytes,
      drop_map inside PAYLOAD bytes,
      none_inside (take PAYLOAD bytes),
      bytes_inside (take PAYLOAD bytes),
      blocks_inside n (suc number) (drop PAYLOAD bytes),
    ) refl

-- bytes with one more record behind
bytes_both : (marks : List Mark) (bytes : List ℕ) → map byte_at (marks ++ marked bytes) ≡ map byte_at marks ++ bytes
bytes_both marks bytes = map-append byte_at marks (marked bytes) ∙ rw (bytes_marked bytes) refl

blocks_more : (n number : ℕ) (marks : List Mark) (byte : ℕ) (bytes : List ℕ) → length marks < PAYLOAD
    → blocks_from (suc n) number (marks ++ marked (byte ∷ bytes))
    ≡ chained (suc n) number (or_here marks) (map byte_at marks ++ (byte ∷ bytes))
unfolding blocks_from chained block_with marked
blocks_more n number marks byte bytes h =
    let more = marked (byte ∷ bytes) in
    let k = PAYLOAD - suc (length marks) in
    let size : PAYLOAD ≡ length marks + suc k = omega arith in
    let front : take PAYLOAD (marks ++ more) ≡ marks ++ marked (byte ∷ take k bytes) =
    take_behind PAYLOAD (suc k) marks more size ∙ rw (take_map inside k bytes) refl in
    let rest : drop PAYLOAD (marks ++ more) ≡ map inside (drop k bytes) =
    drop_behind PAYLOAD (suc k) marks more size ∙ drop_map inside k bytes in
    rw (
      ← (bytes_both marks (byte ∷ bytes)),
      take_map byte_at PAYLOAD (marks ++ more),
      drop_map byte_at PAYLOAD (marks ++ more),
      front,
      rest,
      first_both marks byte (take k bytes) h,
      bytes_inside (drop k bytes),
      blocks_inside n (suc number) (drop k bytes),
    ) refl

-- ---- what an append sees of the log

-- the bytes in a last block that isn't full
abbrev pub last_part : List Mark → List Mark
last_part marks = drop (PAYLOAD * (length marks / PAYLOAD)) marks

length_part : (marks : List Mark) → length (last_part marks) ≡ length marks - PAYLOAD * (length marks / PAYLOAD)
length_part marks = length-drop (PAYLOAD * (length marks / PAYLOAD)) marks

-- the last block of so many
last_with : (marks : List Mark) (j : ℕ)
    → take BLOCK (drop (BLOCK * j) (blocks_from (suc j) 0 marks)) ≡ block_with j (take PAYLOAD (drop (PAYLOAD * j) marks))
last_with marks j = let one : suc j ≡ j + 1 = omega arith in rw one (rw zero-add at (one_block j 0 0 marks))

-- the block that an append begins with, as the records' bytes tell it
record Seen (marks : List Mark) (blocks : ℕ) (last : List ℕ) : Type 0 where
  first : first_touched blocks last ≡ length marks / PAYLOAD
  so_far : payload_so_far blocks last ≡ map byte_at (last_part marks)
  begins : place_then blocks last ≡ or_here (last_part marks)

-- a new one
seen_new : (marks : List Mark) (blocks : ℕ) (last : List ℕ) → begun blocks last ≡ true → length marks ≡ PAYLOAD * blocks
    → Seen marks blocks last
unfolding first_touched payload_so_far place_then first_place place
seen_new marks blocks last new full =
    let count : length marks / PAYLOAD ≡ blocks = omega arith in
    let none : last_part marks ≡ [] = rw (count, ← full) (drop-length marks) in
    record { first = rw new (sym count); so_far = rw (new, none) refl; begins = rw (new, none) refl }

module _ (marks : List Mark) (last : List ℕ) where
  -- the last one, in which there is room
  seen_old : (blocks : ℕ) → begun blocks last ≡ false → blocks ≡ suc (length marks / PAYLOAD)
      → last ≡ block_with (blocks - 1) (last_part marks) → Seen marks blocks last
  unfolding first_touched payload_so_far place_then
  seen_old blocks old count e =
      let c = last_part marks in
      let short : length c < PAYLOAD = rw (length_part marks) (omega arith) in
      let few : length c ≤ PAYLOAD = omega arith in
      let number = blocks - 1 in
      record {
        first = rw old (omega arith);
        so_far = rw (old, e) (payload_with number c few);
        begins = rw (old, e, place_with number c few, used_with number c few);
      }

  -- the last block of so many
  used_last : (j : ℕ) → last ≡ block_with j (take PAYLOAD (drop (PAYLOAD * j) marks)) → length marks ≤ PAYLOAD * suc j
      → used_in last ≡ length marks - PAYLOAD * j
  used_last j e h =
      let part = drop (PAYLOAD * j) marks in
      rw e (used_with j (take PAYLOAD part) (one_few part) ∙ length-take PAYLOAD part ∙ rw length-drop (omega arith))

  -- it is full, or has room
  seen_last : (j : ℕ) → blocks_for (length marks) ≡ suc j → last ≡ block_with j (take PAYLOAD (drop (PAYLOAD * j) marks)) → Seen marks (suc j) last
  unfolding blocks_for begun
  seen_last j count e =
      let some : eqb (suc j) 0 ≡ false = ne_eqb (suc j) 0 (λ f. omega arith) in
      let used = used_last j e (omega arith) in
      ⊎_elim
      (λ (room : length marks < PAYLOAD * suc j).
      let here : length marks / PAYLOAD ≡ j = omega arith in
      let all : take PAYLOAD (drop (PAYLOAD * j) marks) ≡ last_part marks =
      rw here (take_all PAYLOAD (drop (PAYLOAD * j) marks) (rw length-drop (omega arith))) in
      let number : suc j - 1 ≡ j = omega arith in
      seen_old (suc j) (rw some (ne_eqb (used_in last) PAYLOAD (λ f. omega arith))) (ap suc (sym here)) (rw (number, ← all) e))
      (λ (full : PAYLOAD * suc j ≤ length marks).
      seen_new marks (suc j) last (rw some (eq-eqb (used_in last) PAYLOAD (omega arith))) (omega arith))
      (lt_or_le (length marks) (PAYLOAD * suc j))

  -- how many blocks there are, and the last one if there is one: that is all that an append sees
  seen : (blocks : ℕ) → blocks ≡ blocks_for (length marks) → (blocks ≡ 0) ⊎ (last ≡ take BLOCK (drop (BLOCK * (blocks - 1)) (blocks_from blocks 0 marks)))
      → Seen marks blocks last
  unfolding begun blocks_for
  seen zero count known = seen_new marks 0 last refl (omega arith)
  seen (suc j) count (inl none) = absurd (omega arith)
  seen (suc j) count (inr e) =
      let number : suc j - 1 ≡ j = omega arith in
      seen_last j (sym count) (rw number at e ∙ last_with marks j)

-- ---- one more record

marked_more : (rs : List (List ℕ)) (r : List ℕ) → marked_all (rs ++ (r ∷ [])) ≡ marked_all rs ++ marked r
unfolding marked_all
marked_more rs r = marked_both rs (r ∷ []) ∙ rw (append-nil (marked r)) refl

-- the blocks from the first touched on
behind : (number n : ℕ) (marks : List Mark) (r : List ℕ) → length marks < PAYLOAD → 0 < n → 0 < length r
    → blocks_from n number (marks ++ marked r) ≡ chained n number (or_here marks) (map byte_at marks ++ r)
behind number zero marks r h some more = absurd (omega arith)
behind number (suc n) marks [] h some more = absurd (omega arith)
behind number (suc n) marks (byte ∷ bytes) h some more = blocks_more n number marks byte bytes h

module _ (marks : List Mark) (r : List ℕ) where
  -- the blocks before it, which stay
  before : (j : ℕ) → j ≡ length marks / PAYLOAD → blocks_from j 0 (marks ++ marked r) ≡ take (BLOCK * j) (blocks_from (blocks_for (length marks)) 0 marks)
  unfolding blocks_for
  before j e =
      let n = blocks_for (length marks) - j in
      let all : blocks_for (length marks) ≡ j + n = omega arith in
      blocks_front j 0 marks (marked r) (omega arith) ∙ rw all (sym (take_blocks j n 0 marks))

-- ---- an append to a written log

pub blocks_file : (rs : List (List ℕ)) → length (written rs) / BLOCK ≡ blocks_in rs
blocks_file rs = rw (length_written rs) (omega arith)

pub last_file : (rs : List (List ℕ)) (j : ℕ) → blocks_in rs ≡ suc j
    → last_block (written rs) ≡ block_with j (take PAYLOAD (drop (PAYLOAD * j) (marked_all rs)))
unfolding written last_block
last_file rs j e = let number : suc j - 1 ≡ j = omega arith in rw (blocks_file rs, e, number) (last_with (marked_all rs) j)

-- its last block, if it has one
abbrev pub IsLast : List ℕ → List (List ℕ) → Type 0
IsLast last rs = (blocks_in rs ≡ 0) ⊎ (last ≡ last_block (written rs))

-- what an append sees of it
sees : (rs : List (List ℕ)) (last : List ℕ) → IsLast last rs → Seen (marked_all rs) (blocks_in rs) last
unfolding written last_block
sees rs last known = seen (marked_all rs) last (blocks_in rs) refl (rw (blocks_file rs) at known)

module _ (rs : List (List ℕ)) (r : List ℕ) where
  seen_file : Seen (marked_all rs) (length (written rs) / BLOCK) (last_block (written rs))
  seen_file = rw (blocks_file rs) (sees rs (last_block (written rs)) (inr refl))

  -- the first block that it touches, how many, and what it puts there
  first_file : first_in (written rs) ≡ length (marked_all rs) / PAYLOAD
  unfolding first_in
  first_file = seen_file.first

  touched_file : touched_in (written rs) r ≡ blocks_for (length (last_part (marked_all rs)) + length r)
  unfolding touched_in touched
  touched_file = rw (seen_file.so_far, length-map (last_part (marked_all rs)) byte_at) refl

  put_file : put_to (written rs) r
      ≡ chained (touched_in (written rs) r) (first_in (written rs)) (or_here (last_part (marked_all rs))) (map byte_at (last_part (marked_all rs)) ++ r)
  unfolding put_to put_blocks touched_in first_in
  put_file = rw (seen_file.so_far, seen_file.begins) refl

  -- a writer that has the last block does that; where there is none, whatever it has
  module _ (last : List ℕ) (known : IsLast last rs) where
    pub first_in_law : first_touched (blocks_in rs) last ≡ first_in (written rs)
    first_in_law = (sees rs last known).first ∙ sym first_file

    pub touched_in_law : touched (blocks_in rs) last r ≡ touched_in (written rs) r
    unfolding touched
    touched_in_law = rw ((sees rs last known).so_far, length-map (last_part (marked_all rs)) byte_at) (sym touched_file)

    pub put_in : put_blocks (blocks_in rs) last r ≡ put_to (written rs) r
    unfolding put_blocks
    put_in = rw (touched_in_law, first_in_law, (sees rs last known).so_far, (sees rs last known).begins) (sym put_file)

  -- how many blocks there are then
  pub append_counts : blocks_in (rs ++ (r ∷ [])) ≡ first_in (written rs) + touched_in (written rs) r
  unfolding blocks_for
  append_counts =
      rw (marked_more rs r, length-append (marked_all rs) (marked r), length_marked r, first_file, touched_file, length_part (marked_all rs)) (omega arith)

  -- it touches a block at least, and no more than the room has
  pub touches_some : 0 < length r → 1 ≤ touched_in (written rs) r
  unfolding blocks_for
  touches_some some = rw touched_file (omega arith)

  pub touches_few : length r ≤ RECORD_MAX → touched_in (written rs) r ≤ HELD_MAX
  unfolding blocks_for
  touches_few few = rw (touched_file, length_part (marked_all rs)) (omega arith)

  -- the first that it touches is the last or the next one
  pub first_near : (first_in (written rs) ≤ blocks_in rs) × (blocks_in rs ≤ suc (first_in (written rs)))
  unfolding blocks_for
  first_near = rw first_file (omega arith, omega arith)

  -- the blocks that stay
  length_stay : length (take (BLOCK * first_in (written rs)) (written rs)) ≡ BLOCK * first_in (written rs)
  length_stay = length-take-le (BLOCK * first_in (written rs)) (written rs) (rw (length_written rs) (omega (arith, first_near.0)))

  module _ (some : 0 < length r) where
    -- what it puts behind the blocks that stay makes the log with one more record
    pub append_writes : appended_to (written rs) r ≡ written (rs ++ (r ∷ []))
    unfolding appended_to written
    append_writes =
        let marks = marked_all rs in
        let first = first_in (written rs) in
        let n = touched_in (written rs) r in
        let short : length (last_part marks) < PAYLOAD = rw (length_part marks) (omega arith) in
        let part : drop (PAYLOAD * first) marks ≡ last_part marks = rw first_file refl in
        let there : PAYLOAD * first ≤ length marks = rw first_file (omega arith) in
        sym (rw (
          append_counts,
          marked_more rs r,
          blocks_both first n 0 (marks ++ marked r),
          zero-add,
          drop-append-le (PAYLOAD * first) marks (marked r) there,
          before marks r first first_file,
          part,
          behind first n (last_part marks) r short (touches_some some) some,
          put_file,
        ) refl)

    pub length_put : length (put_to (written rs) r) ≡ BLOCK * touched_in (written rs) r
    unfolding appended_to
    length_put =
        let all = ap length append_writes ∙ length_written (rs ++ (r ∷ [])) in
        omega (arith, all, length-append (take (BLOCK * first_in (written rs)) (written rs)) (put_to (written rs) r), length_stay, append_counts)

    -- the last block then is the last of those
    pub last_put : last_block (written (rs ++ (r ∷ []))) ≡ take BLOCK (drop (BLOCK * (touched_in (written rs) r - 1)) (put_to (written rs) r))
    unfolding last_block appended_to
    last_put =
        let stay = take (BLOCK * first_in (written rs)) (written rs) in
        let back = touched_in (written rs) r - 1 in
        let at : BLOCK * (blocks_in (rs ++ (r ∷ [])) - 1) ≡ length stay + BLOCK * back =
        omega (arith, append_counts, length_stay, touches_some some) in
        rw (blocks_file (rs ++ (r ∷ [])), ← append_writes) (rw (drop_behind _ (BLOCK * back) stay (put_to (written rs) r) at) refl)

    -- Power is lost inside it: where blocks are put, the file is a front of that log.
    pub part_some : (n : ℕ) → part_appended (suc n) (written rs) r ≡ take (BLOCK * (first_in (written rs) + suc n)) (written (rs ++ (r ∷ [])))
    unfolding part_appended appended_to
    part_some n =
        let first = first_in (written rs) in
        let stay = take (BLOCK * first) (written rs) in
        let none : drop (BLOCK * (first + suc n)) (written rs) ≡ [] =
        drop_of_length-le (written rs) {i = BLOCK * (first + suc n)} (rw (length_written rs) (omega (arith, first_near.1))) in
        rw (none, append-nil (stay ++ take (BLOCK * suc n) (put_to (written rs) r)), ← append_writes)
        (sym (take_behind (BLOCK * (first + suc n)) (BLOCK * suc n) stay (put_to (written rs) r) (omega (arith, length_stay))))

-- before a block is put the file is as it was
pub part_none : (file r : List ℕ) → part_appended 0 file r ≡ file
unfolding part_appended
part_none file r =
    let none : first_in file + 0 ≡ first_in file = omega arith in
    rw (none, append-nil (take (BLOCK * first_in file) file)) (take-append-drop (BLOCK * first_in file) file)

-- ---- append by append

run_on : (rs ss : List (List ℕ)) → AreRecords ss → appended_all (written rs) ss ≡ written (rs ++ ss)
unfolding appended_all
run_on rs [] are = rw (append-nil rs) refl
run_on rs (r ∷ ss) are = rw (append_writes rs r are.0.some, run_on (rs ++ (r ∷ [])) ss are.1, append_assoc rs (r ∷ []) ss) refl

-- from an empty file on: the written log
pub append_run : (rs : List (List ℕ)) → AreRecords rs → appended_all [] rs ≡ written rs
unfolding written marked_all blocks_for blocks_from
append_run rs are = run_on [] rs are
