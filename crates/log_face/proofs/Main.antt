-- The page of the log's C face: a log and a reader come back from their numbers, and a call's next number is the log after it.
-- Assumes nothing.
use mathlib.Core.Path.{◌≡◌, sym, ap, ◌∙◌}
use mathlib.Core.Bool.{Bool}
use mathlib.Core.List.{List, [], ◌∷◌, ◌++◌, map}
use Prim.Native.Nat.{ℕ, ◌≤◌, ◌<◌}
use native.Mathlib.Omega.{arith}
use borrow.Author.Tests.{eqb-false}
use lib.Dec.{eqb}
use lib.IntN.{pos}
use lib.ListN.{length}
use Rattle.lists.proofs.Cases.{choice}
use Rattle.numbers.specs.Numbers.{Bytes}
use Rattle.numbers.proofs.Widths.{value_below}
use Rattle.blocks.specs.Block.{number_in, used_in}
use Rattle.blocks.proofs.Judged.{good_says, uses_le}
use Rattle.paper.specs.declared.Refusal.TheVariants.{LogFull}
use Rattle.paper.specs.Refusals.{refusal_number}
use Rattle.linklog.specs.declared.Log.{Log}
use Rattle.linklog.specs.declared.End.{End}
use Rattle.linklog.specs.declared.Reader.{Reader}
use Rattle.linklog.specs.Records.{Entry, record_of}
use Rattle.linklog.specs.Reading.{BLOCKS_MAX, Course, taken}
use Rattle.linklog.specs.TakenBack.{end_after}
use Rattle.linklog.specs.Turns.{is_last_of, reader_with, room_after, StandsAt}
use Rattle.linklog.specs.Promises.{Holds, flashed, log_of, blocks_of, log_then}
use Rattle.linklog.proofs.Framing.{entry_short}
use Rattle.linklog.proofs.Appends.{touches_few}
use Rattle.linklog.proofs.Runs.{records_more}
use Rattle.linklog.proofs.Readers.{reader_says}
use Rattle.linklog.proofs.Resumed.{gives_good}
use Rattle.linklog.proofs.Turning as turning
use Rattle.linklog.proofs.Main as library
use Rattle.log_face.specs.Words.{HELDS, LOGS, READS, ENDS, USEDS, log_word, log_in, log_number, append_number, append_room, refused_as}
use Rattle.log_face.specs.Words.{end_in, read_word, read_in, read_number, turn_number, turn_room}
use Rattle.log_face.proofs.Words.{a_log, a_reader}
use Rattle.log_face.proofs.Numbers as numbers

-- ---- numbers

-- A log of no more blocks than a log may have, with fewer than eight held, has a number of its own.
pub log_back : (log : Log) → log.held < HELDS → log_in (log_word log) ≡ log
log_back = numbers.log_back

pub log_small : (log : Log) → log.blocks ≤ BLOCKS_MAX → log.held < HELDS → log_word log < LOGS
log_small = numbers.log_small

-- So has a reader whose parts are small enough.
pub read_back : (reader : Reader) → numbers.Small reader → read_in (read_word reader) ≡ reader
read_back = numbers.read_back

pub read_small : (reader : Reader) → numbers.Small reader → read_word reader < READS
read_small = numbers.read_small

-- ---- append and close

module _ (es : List Entry) (e : Entry) (word : ℕ) (room : List ℕ) (small : word < LOGS) (holds : Holds (log_of es) (log_in word) room) where
  abbrev next : Log
  next = log_then (map record_of es) (record_of e)

  -- An entry that fits: the number is that of the log with one more, which the next call takes as that log; the blocks that the room holds make
  -- that log on flash; and the writer can go on.
  pub next_log : blocks_of (es ++ (e ∷ [])) ≤ BLOCKS_MAX
      → (append_number word room (record_of e) ≡ pos (log_word next)) × ((log_word next < LOGS) × (log_in (log_word next) ≡ next))
      × ((flashed (log_of es) next (append_room word room (record_of e)) ≡ log_of (es ++ (e ∷ [])))
      × Holds (log_of (es ++ (e ∷ []))) next (append_room word room (record_of e)))
  unfolding log_number
  next_log few =
      let puts = library.put_to_flash es e (log_in word) room holds few in
      let told = a_log word room (record_of e) small in
      let held = touches_few (map record_of es) (record_of e) (entry_short e) in
      let blocks : next.blocks ≤ BLOCKS_MAX = rw (records_more es e) at few in (
        sym told.0 ∙ ap log_number puts.0,
        (numbers.log_small next blocks (omega (arith, held)), numbers.log_back next (omega (arith, held))),
        rw told.1 at puts.1,
      )

  -- One that doesn't: 21 below zero, and the room as it was.
  pub full_log : blocks_of es ≤ BLOCKS_MAX → BLOCKS_MAX < blocks_of (es ++ (e ∷ []))
      → (append_number word room (record_of e) ≡ refused_as (refusal_number LogFull)) × (append_room word room (record_of e) ≡ room)
  unfolding log_number
  full_log few many =
      let full = library.log_full es e (log_in word) room holds few many in
      let told = a_log word room (record_of e) small in
      (sym told.0 ∙ ap log_number full.0, sym told.1 ∙ full.1)

-- ---- reading

-- the end in any number is small
ends : (word : ℕ) → ((read_in word).end.blocks < ENDS) × ((read_in word).end.used < USEDS)
unfolding read_in end_in
ends word = (omega arith, omega arith)

-- and so is the end that a turn tells
end_small : (last : Bool) (number : ℕ) (course : Course) (block : List ℕ) (end : End) → Bytes block → end.blocks < ENDS → end.used < USEDS
    → let then = end_after end number block (taken last number course block) in (then.blocks < ENDS) × (then.used < USEDS)
unfolding end_after number_in
end_small last number course block end bytes b u =
    choice (λ (then : End). (then.blocks < ENDS) × (then.used < USEDS)) (eqb (length (taken last number course block).given) 0) (λ none. (b, u))
    (λ some.
    let says = good_says last number block (gives_good last number course block (eqb-false _ 0 some)) in
    let small = value_below block 0 2 (omega arith) bytes in
    (omega (arith, says.2, small), omega (arith, uses_le last (used_in block) says.3)))

-- A block of bytes, read from where a reader's number stands: the next number is that of the reader behind the block, the next call takes it as that
-- reader, and the reader stands there in the room.
pub next_read : (word blocks number : ℕ) (block room : List ℕ) (course : Course) → word < READS → Bytes block → StandsAt (read_in word) room course
    → let gave = taken (is_last_of blocks number) number course block in
    let next = reader_with (read_in word) number block gave in
    (turn_number word blocks number block room ≡ pos (read_word next)) × ((read_word next < READS) × (read_in (read_word next) ≡ next))
    × StandsAt next (turn_room word blocks number block room) gave.course
unfolding read_number
next_read word blocks number block room course small bytes stands =
    let gave = taken (is_last_of blocks number) number course block in
    let next = reader_with (read_in word) number block gave in
    let gives = turning.turn_gives (read_in word) blocks number block room course stands in
    let told = a_reader word room blocks number block small in
    let says = reader_says next (room_after (read_in word) blocks number block room) gives.1.1.1.can_be in
    let end = end_small (is_last_of blocks number) number course block (read_in word).end bytes (ends word).0 (ends word).1 in
    let parts : numbers.Small next = record { whole = omega (arith, says.1.0); behind = omega (arith, says.1.1.1); blocks = end.0; used = end.1 } in (
      sym told.0 ∙ ap read_number gives.0,
      (numbers.read_small next parts, numbers.read_back next parts),
      rw told.1 at gives.1.1.1,
    )
