-- The words of the log's page.
use Rattle.std.specs.Prelude.{ℕ, zero, suc, ◌+◌, ◌-◌, ◌*◌, ◌/◌, ◌≤◌, ◌<◌, ◌≡◌, Bool, true, false, cond, ◌&&◌, leb, eqb}
use Rattle.std.specs.Prelude.{List, [], ◌∷◌, ◌++◌, map, length, take, drop, Result, Ok, Err}
use Rattle.lists.specs.Bytes.{laid}
use Rattle.numbers.specs.Numbers.{Bytes, NUMBERS}
use Rattle.blocks.specs.Block.{BLOCK, PAYLOAD, is_good}
use Rattle.paper.specs.declared.Refusal.TheVariants.{LogFull}
use Rattle.linklog.specs.declared.Log.{Log}
use Rattle.linklog.specs.Records.{Entry, Received, Closed, RECORD_MAX, record_of, as_logged}
use Rattle.linklog.specs.Written.{blocks_in, written}
use Rattle.linklog.specs.Reading.{BLOCKS_MAX}
use Rattle.linklog.specs.Appending.{ROOM, HELD_MAX, last_in, answer_for, room_then, last_block, touched_in}
use Rattle.linklog.specs.TakenBack.{taken_back}
use Rattle.paper.specs.declared.Refusal.{Refusal}

-- an entry as a host has one: bytes of a PDU, a number of four bytes
abbrev pub IsEntry : Entry → Type 0
IsEntry (Received pdu) = Bytes pdu
IsEntry (Closed number) = number < NUMBERS

abbrev pub AreEntries : List Entry → Type 0
AreEntries [] = Unit {0}
AreEntries (entry ∷ rest) = IsEntry entry × AreEntries rest

-- the log of entries, and how many blocks it has
abbrev pub log_of : List Entry → List ℕ
log_of es = written (map record_of es)

abbrev pub blocks_of : List Entry → ℕ
blocks_of es = blocks_in (map record_of es)

-- ---- damage

-- a block of a file
unfoldable pub block_at : ℕ → List ℕ → List ℕ
block_at number file = take BLOCK (drop (BLOCK * number) file)

-- whether a block of a file is good
unfoldable pub good_at : List ℕ → ℕ → Bool
good_at file number = is_good (eqb (suc number) (length file / BLOCK)) number (block_at number file)

-- "the blocks found bad are exactly the changed ones": a block is changed if it is another than in the log
abbrev pub Changed : List ℕ → List ℕ → ℕ → Type 0
Changed log file number = block_at number file ≡ block_at number log → ⊥

abbrev pub BadAreChanged : List ℕ → List ℕ → Type 0
BadAreChanged log file =
    (number : ℕ) → number < length file / BLOCK
    → (good_at file number ≡ false → Changed log file number) × (Changed log file number → good_at file number ≡ false)

-- whether all of so many bytes of the records, from a place on, lie in good blocks
unfoldable pub sound : (ℕ → Bool) → ℕ → ℕ → Bool
sound good at zero = true
sound good at (suc n) = good (at / PAYLOAD) && sound good (suc at) n

-- "every record that touches no bad block", in order: the first begins at this place of the records' bytes
unfoldable pub kept_from : (ℕ → Bool) → ℕ → List Entry → List Entry
kept_from good at [] = []
kept_from good at (entry ∷ rest) =
    cond (sound good at (length (record_of entry)))
    (as_logged entry ∷ kept_from good (at + length (record_of entry)) rest)
    (kept_from good (at + length (record_of entry)) rest)

-- ---- of a front, and of any file

-- the records that fit in so many bytes, one behind the other
unfoldable pub fit : ℕ → List (List ℕ) → List (List ℕ)
fit m [] = []
fit m (bytes ∷ rest) = cond (leb (length bytes) m) (bytes ∷ fit (m - length bytes) rest) []

-- no record is longer than a record can be
abbrev pub NoneLonger : List (List ℕ) → Type 0
NoneLonger [] = Unit {0}
NoneLonger (bytes ∷ rest) = (length bytes ≤ RECORD_MAX) × NoneLonger rest

-- ---- the log on flash

-- What the writer needs for an append to a file: how many blocks it has, a room of its size, and in the room the last block, if there is one.
pub record Holds (file : List ℕ) (log : Log) (room : List ℕ) : Type 0 where
  pub counted : log.blocks ≡ length file / BLOCK
  pub roomy : ROOM ≤ length room
  pub has_last : (log.blocks ≡ 0 → ⊥) → (1 ≤ log.held) × ((log.held ≤ HELD_MAX) × (last_in log room ≡ last_block file))

-- the file after an append that answered this log: the blocks that the room holds are put in their places
unfoldable pub flashed : List ℕ → Log → List ℕ → List ℕ
flashed file log room = take (BLOCK * (log.blocks - log.held)) file ++ take (BLOCK * log.held) room

-- the file where power is lost after so many of them are put
unfoldable pub part_flashed : ℕ → List ℕ → Log → List ℕ → List ℕ
part_flashed n file log room =
    take (BLOCK * (log.blocks - log.held)) file
    ++ take (BLOCK * n) (take (BLOCK * log.held) room)
    ++ drop (BLOCK * (log.blocks - log.held + n)) file

-- the log that an append of one more record answers
abbrev pub log_then : List (List ℕ) → List ℕ → Log
log_then rs r = record { blocks = blocks_in (rs ++ (r ∷ [])); held = touched_in (written rs) r }

-- an entry is put: the answer's blocks, in their places, make the log with one more, and the writer can go on
abbrev pub Puts : List Entry → Entry → Result Log Refusal → List ℕ → Type 0
Puts es e answer room =
    (answer ≡ Ok (log_then (map record_of es) (record_of e)))
    × ((flashed (log_of es) (log_then (map record_of es) (record_of e)) room ≡ log_of (es ++ (e ∷ [])))
    × Holds (log_of (es ++ (e ∷ []))) (log_then (map record_of es) (record_of e)) room)

-- what a call that logs an entry does, from a room to a room: it puts it, or where that makes more blocks than there may be, it refuses and
-- leaves the room as it was
abbrev pub Called : List Entry → Entry → List ℕ → Result Log Refusal → List ℕ → Type 0
Called es e room answer then =
    (blocks_of (es ++ (e ∷ [])) ≤ BLOCKS_MAX → Puts es e answer then)
    × (BLOCKS_MAX < blocks_of (es ++ (e ∷ [])) → (answer ≡ Err LogFull) × (then ≡ room))

-- ---- a run: a host appends, stops and starts anew, and loses power

pub record Host : Type 0 where
  pub file : List ℕ
  pub log : Log
  pub room : List ℕ

-- what comes: an entry to log; a stop, and a start with this room; or a loss of power after so many blocks of an entry's append are put,
-- and a start with this room
pub data Coming : Type 0 where
  Logs : Entry → Coming
  Starts : List ℕ → Coming
  Fails : ℕ → Entry → List ℕ → Coming

-- the first start, on an empty file
abbrev pub empty : List ℕ → Host
empty room = record { file = []; log = record { blocks = 0; held = 0 }; room = room }

-- a start: the file is taken back, and its last block laid at the room's front
unfoldable pub started : List ℕ → List ℕ → Host
started file room =
    record {
      file = taken_back file;
      log = record { blocks = length (taken_back file) / BLOCK; held = 1 };
      room = laid room 0 (last_block (taken_back file));
    }

-- an append's answer is put to flash
unfoldable pub answered : Host → List ℕ → Result Log Refusal → Host
answered host room (Ok log) = record { file = flashed host.file log room; log = log; room = room }
answered host room (Err why) = record { file = host.file; log = host.log; room = room }

-- or only so many blocks of it
unfoldable pub part_answered : ℕ → List ℕ → List ℕ → Result Log Refusal → List ℕ
part_answered n file room (Ok log) = part_flashed n file log room
part_answered n file room (Err why) = file

-- an entry is logged by a call of `append` or `close`, which answers so and leaves such a room
unfoldable pub came : Host → Coming → Host
came host (Logs e) = answered host (room_then host.log host.room (record_of e)) (answer_for host.log host.room (record_of e))
came host (Starts room) = started host.file room
came host (Fails n e room) =
    started (part_answered n host.file (room_then host.log host.room (record_of e)) (answer_for host.log host.room (record_of e))) room

unfoldable pub ran : Host → List Coming → Host
ran host [] = host
ran host (coming ∷ rest) = ran (came host coming) rest

-- entries as a host has them, and rooms of their size
abbrev pub IsComing : Coming → Type 0
IsComing (Logs e) = IsEntry e
IsComing (Starts room) = ROOM ≤ length room
IsComing (Fails n e room) = IsEntry e × (ROOM ≤ length room)

abbrev pub AreComings : List Coming → Type 0
AreComings [] = Unit {0}
AreComings (coming ∷ rest) = IsComing coming × AreComings rest

-- the entries with one more, where the log has room for it
unfoldable pub with_one : List Entry → Entry → List Entry
with_one es e = cond (leb (blocks_of (es ++ (e ∷ []))) BLOCKS_MAX) (es ++ (e ∷ [])) es

-- the entries that are logged then: one inside whose append power is lost is there if all its blocks were put
unfoldable pub logged_then : List Entry → Coming → List Entry
logged_then es (Logs e) = with_one es e
logged_then es (Starts room) = es
logged_then es (Fails n e room) = cond (leb (touched_in (log_of es) (record_of e)) n) (with_one es e) es

unfoldable pub logged_in : List Entry → List Coming → List Entry
logged_in es [] = es
logged_in es (coming ∷ rest) = logged_in (logged_then es coming) rest

-- all that were to be logged, where power is never lost
abbrev pub asked : List Coming → List Entry
asked [] = []
asked (Logs e ∷ rest) = e ∷ asked rest
asked (Starts room ∷ rest) = asked rest
asked (Fails n e room ∷ rest) = asked rest

abbrev pub NoneFails : List Coming → Type 0
NoneFails [] = Unit {0}
NoneFails (Logs e ∷ rest) = NoneFails rest
NoneFails (Starts room ∷ rest) = NoneFails rest
NoneFails (Fails n e room ∷ rest) = ⊥
