-- How much goes out for a record: with what its last block has then, no more than that block had before and the record's bytes.
-- Assumes nothing.
use mathlib.Core.Path.{◌≡◌, refl, ◌∙◌}
use mathlib.Core.Bool.{Bool, true, false, cond}
use mathlib.Core.List.{List, [], ◌++◌, append_assoc, append-nil}
use Prim.Native.Nat.{ℕ, zero, suc, ◌+◌, ◌-◌, ◌*◌, ◌≤◌, ◌<◌, min}
use native.Mathlib.Omega.{arith}
use borrow.Author.Tests.{ne_eqb, eqb-true, eqb-false}
use lib.Dec.{ltb, eqb}
use lib.ListN.{length, take, drop, length-append, length-take, length-drop}
use lib.Seq.{take_at, drop-drop}
use Rattle.lists.specs.Bytes.{laid}
use Rattle.lists.proofs.Cases.{neither}
use Rattle.lists.proofs.Laid.{laid_eq}
use Rattle.paper.specs.declared.Refusal.{Refusal}
use Rattle.paper.specs.declared.Refusal.TheVariants.{BadCall, LogFull}
use Rattle.blocks.specs.Block.{BLOCK, HEAD, PAYLOAD, NONE, block_of, used_in, payload_in}
use Rattle.blocks.proofs.Blocks.{length_block, used_back}
use Rattle.linklog.specs.declared.Log.{Log}
use Rattle.linklog.specs.Records.{Entry, record_of}
use Rattle.linklog.specs.Written.{blocks_for}
use Rattle.linklog.specs.Reading.{BLOCKS_MAX}
use Rattle.linklog.specs.Appending.{HELD_MAX, chained, begun, first_touched, payload_so_far, place_then, last_at, last_in, is_lent}
use Rattle.linklog.specs.Appending.{filled_to, filled_with, payload_then, answer_for, room_then}
use Rattle.linklog.proofs.Blocks.{drop_behind}
use Rattle.linklog.proofs.Filling.{few_blocks}
use Rattle.linklog.proofs.Framing.{entry_record, entry_short}
use Rattle.linklog.proofs.Lending.{lent_size, lent_last, not_lent}
use Rattle.logging.specs.declared.Course.{Course}
use Rattle.logging.specs.Writing.{is_even, full_blocks, full_text, Run, run_of, answered, appended_to, is_over, run_after}
use Rattle.logging.proofs.Steps.{stays, goes}
use Rattle.std.specs.Prelude.{Ok, Err}

-- ---- a chain of blocks

short : (payload : List ℕ) → length (take PAYLOAD payload) ≤ PAYLOAD
short payload = rw (length-take PAYLOAD payload) (omega arith)

block_long : (number place : ℕ) (payload : List ℕ) → length (block_of number place (take PAYLOAD payload)) ≡ BLOCK
block_long number place payload = length_block number place (take PAYLOAD payload) (short payload)

length_chained : (n number place : ℕ) (payload : List ℕ) → length (chained n number place payload) ≡ BLOCK * n
unfolding chained
length_chained zero number place payload = refl
length_chained (suc n) number place payload =
    length-append (block_of number place (take PAYLOAD payload)) (chained n (suc number) NONE (drop PAYLOAD payload))
    ∙ rw (block_long number place payload, length_chained n (suc number) NONE (drop PAYLOAD payload)) (omega arith)

-- how much of its last block is used, whatever stands behind it
last_used : (m number place : ℕ) (payload behind : List ℕ)
    → used_in (take BLOCK (drop (BLOCK * m) (chained (suc m) number place payload ++ behind))) ≡ length (take PAYLOAD (drop (PAYLOAD * m) payload))
unfolding chained
last_used zero number place payload behind =
    let block = block_of number place (take PAYLOAD payload) in
    rw (append-nil block, take_at block behind BLOCK (block_long number place payload)) (used_back number place (take PAYLOAD payload) (short payload))
last_used (suc m) number place payload behind =
    let block = block_of number place (take PAYLOAD payload) in
    let rest = chained (suc m) (suc number) NONE (drop PAYLOAD payload) in
    let on : BLOCK * suc m ≡ length block + BLOCK * m = rw (block_long number place payload) (omega arith) in
    let further : PAYLOAD + PAYLOAD * m ≡ PAYLOAD * suc m = omega arith in
    rw (append_assoc block rest behind, drop_behind (BLOCK * suc m) (BLOCK * m) block (rest ++ behind) on)
    (last_used m (suc number) NONE (drop PAYLOAD payload) behind ∙ rw (drop-drop (PAYLOAD * m) PAYLOAD payload, further) refl)

-- ---- the last block's payload

-- how much the block that is filled has so far
abbrev pub so_far : Log → List ℕ → ℕ
so_far log room = length (payload_so_far log.blocks (last_in log room))

module _ (log : Log) (room : List ℕ) where
  even_none : is_even log room ≡ true → so_far log room ≡ 0
  unfolding is_even payload_so_far
  even_none is = rw is refl

  odd_used : is_even log room ≡ false → so_far log room ≤ used_in (last_in log room)
  unfolding is_even payload_so_far payload_in
  odd_used is = rw (is, length-take (used_in (last_in log room)) (drop HEAD (last_in log room))) (omega arith)

  -- whatever the room has, a block has no more
  pub so_far_le : so_far log room ≤ PAYLOAD
  unfolding is_even payload_so_far payload_in last_in
  so_far_le = go (is_even log room) refl
    where
      last : List ℕ
      last = take BLOCK (drop (last_at log) room)

      go : (b : Bool) → is_even log room ≡ b → so_far log room ≤ PAYLOAD
      go true is = omega (arith, even_none is)
      go false is =
          rw (is, length-take (used_in last) (drop HEAD last)) (omega (arith, length-drop HEAD last, length-take BLOCK (drop (last_at log) room)))

-- ---- one record

-- what has gone out, with what the last block has, beside so many bytes
abbrev pub Fills : Run → ℕ → Type 0
Fills run n = PAYLOAD * length run.text + BLOCK * so_far run.course.log run.room ≤ BLOCK * n

-- blocks that are put, of a payload
module _ (number place : ℕ) (payload room : List ℕ) where
  abbrev n : ℕ
  n = blocks_for (length payload)

  abbrev now : Log
  now = record { blocks = number + n; held = n }

  abbrev then : List ℕ
  then = laid room 0 (chained n number place payload)

  module _ (some : 0 < length payload) (fits : BLOCK * blocks_for (length payload) ≤ length room) where
    -- the last one has what those before it don't have
    used_then : (m : ℕ) → n ≡ suc m → used_in (last_in now then) ≡ min PAYLOAD (length payload - PAYLOAD * m)
    unfolding last_in last_at
    used_then m e =
        let size = length_chained n number place payload in
        let one : suc m - 1 ≡ m = omega arith in
        rw (laid_eq room 0 (chained n number place payload) (omega (arith, size, fits)), e, one)
        (last_used m number place payload (drop (0 + length (chained (suc m) number place payload)) room)
        ∙ length-take PAYLOAD (drop (PAYLOAD * m) payload) ∙ rw length-drop refl)

    full_le : (k : ℕ) → full_blocks now then ≡ k → length (full_text now then) ≤ BLOCK * k
    unfolding full_text
    full_le k e = rw (e, length-take (BLOCK * k) then) (omega arith)

    -- a full last block goes out too
    fills_even : is_even now then ≡ true → PAYLOAD * length (full_text now then) + BLOCK * so_far now then ≤ BLOCK * length payload
    unfolding full_blocks is_even begun
    fills_even is = go n refl
      where
        full : full_blocks now then ≡ n
        full = rw is refl

        go : (k : ℕ) → n ≡ k → PAYLOAD * length (full_text now then) + BLOCK * so_far now then ≤ BLOCK * length payload
        go zero e = omega (arith, even_none now then is, full_le n full)
        go (suc m) e =
            let used = eqb-true (used_in (last_in now then)) PAYLOAD (rw (ne_eqb (number + n) 0 (λ none. omega arith)) at is) in
            omega (arith, even_none now then is, full_le n full, used_then m e)

    -- one that isn't stays
    fills_odd : is_even now then ≡ false → PAYLOAD * length (full_text now then) + BLOCK * so_far now then ≤ BLOCK * length payload
    unfolding full_blocks blocks_for
    fills_odd is = go n refl
      where
        full : full_blocks now then ≡ n - 1
        full = rw is refl

        go : (k : ℕ) → n ≡ k → PAYLOAD * length (full_text now then) + BLOCK * so_far now then ≤ BLOCK * length payload
        go zero e = absurd (omega (arith, e, some))
        go (suc m) e = omega (arith, odd_used now then is, full_le (n - 1) full, used_then m e)

    fills_put : (run : Run) → run.text ≡ [] → Fills (answered run (Ok now) then) (length payload)
    unfolding answered
    fills_put run none = rw none (go (is_even now then) refl)
      where
        go : (b : Bool) → is_even now then ≡ b → PAYLOAD * length (full_text now then) + BLOCK * so_far now then ≤ BLOCK * length payload
        go true is = fills_even is
        go false is = fills_odd is

-- a refusal leaves the room
fills_refused : (course : Course) (room : List ℕ) (why : Refusal) (n : ℕ)
    → Fills (answered (run_of course room []) (Err why) room) (so_far course.log room + n)
unfolding answered
fills_refused course room why n = omega arith

module _ (course : Course) (room : List ℕ) (entry : Entry) where
  abbrev log : Log
  log = course.log

  abbrev bytes : List ℕ
  bytes = record_of entry

  abbrev payload : List ℕ
  payload = payload_then log room bytes

  size : length payload ≡ so_far log room + length bytes
  unfolding payload_then
  size = length-append (payload_so_far log.blocks (last_in log room)) bytes

  -- a block that is filled has room
  so_far_short : is_lent log room ≡ true → so_far log room < PAYLOAD
  unfolding is_even begun
  so_far_short lent = go (is_even log room) refl
    where
      go : (b : Bool) → is_even log room ≡ b → so_far log room < PAYLOAD
      go true is = omega (arith, even_none log room is)
      go false is =
          let not_full = neither (eqb log.blocks 0) (eqb (used_in (last_in log room)) PAYLOAD) is in
          let some : log.blocks ≡ 0 → ⊥ = eqb-false log.blocks 0 not_full.0 in
          let least : used_in (last_in log room) ≡ PAYLOAD → ⊥ = eqb-false (used_in (last_in log room)) PAYLOAD not_full.1 in
          omega (arith, least, odd_used log room is, (lent_last log room lent some).1.1)

  abbrev first : ℕ
  first = first_touched log.blocks (last_in log room)

  abbrev place : ℕ
  place = place_then log.blocks (last_in log room)

  abbrev run : Run
  run = run_of course room []

  -- the room holds what is put
  put_fits : is_lent log room ≡ true → BLOCK * blocks_for (length payload) ≤ length room
  put_fits lent =
      let few : blocks_for (length payload) ≤ HELD_MAX = rw size (few_blocks (so_far log room) (length bytes) (so_far_short lent) (entry_short entry)) in
      omega (arith, few, lent_size log room lent)

  fills_lent : is_lent log room ≡ true → Fills (appended_to run entry) (length payload)
  unfolding appended_to answer_for room_then filled_to filled_with
  fills_lent lent = rw lent (go (ltb BLOCKS_MAX (first + blocks_for (length payload))))
    where
      go : (many : Bool)
          → Fills (answered run (cond many (Err LogFull) (Ok (now first place payload room)))
          (cond many room (then first place payload room))) (length payload)
      go true = rw size (fills_refused course room LogFull (length bytes))
      go false = fills_put first place payload room (rw size (omega (arith, (entry_record entry).some))) (put_fits lent) run refl

  not_filled : is_lent log room ≡ false → Fills (appended_to run entry) (so_far log room + length bytes)
  unfolding appended_to
  not_filled not =
      let no = not_lent log room bytes not in
      rw (← no.0, ← no.1) (fills_refused course room BadCall (length bytes))

  fills_appended : Fills (appended_to run entry) (so_far log room + length bytes)
  fills_appended = go (is_lent log room) refl
    where
      go : (lent : Bool) → is_lent log room ≡ lent → Fills (appended_to run entry) (so_far log room + length bytes)
      go true lent = rw (← size) (fills_lent lent)
      go false not = not_filled not

  -- with each record no more goes out than comes in
  pub fills : Fills (run_after run entry) (so_far log room + length bytes)
  fills = go (is_over course) refl
    where
      go : (over : Bool) → is_over course ≡ over → Fills (run_after run entry) (so_far log room + length bytes)
      go true over = rw (stays run entry over) (omega arith)
      go false on = rw (goes run entry on) fills_appended
