-- A log on its way to a stream, record by record, and over an input in pieces, as reads give it: a block goes out when it is full, and the
-- last one, partly filled, at the end.
use Rattle.std.specs.Prelude.{ℕ, ◌-◌, ◌*◌, Bool, true, false, cond, Option, None, Some, List, [], ◌∷◌, ◌++◌, map, length, take, Result, Ok, Err}
use Rattle.records.specs.Items.{Stood, stood_by}
use Rattle.blocks.specs.Block.{BLOCK, PAYLOAD}
use Rattle.linklog.specs.declared.Log.{Log}
use Rattle.linklog.specs.Records.{Entry, record_of, entry_in}
use Rattle.linklog.specs.Written.{written}
use Rattle.linklog.specs.Reading.{BLOCKS_MAX}
use Rattle.linklog.specs.Promises.{fit}
use Rattle.linklog.specs.Appending.{begun, last_in, answer_for, room_then}
use Rattle.logging.specs.declared.Course.{Course}
use Rattle.logging.specs.declared.Stand.{Stand}
use Rattle.logging.specs.Input.{input_whole, entries_in}
use Rattle.paper.specs.declared.Refusal.{Refusal}

-- ---- what goes out

-- whether the log has no last block, or a full one
unfoldable pub is_even : Log → List ℕ → Bool
is_even log room = begun log.blocks (last_in log room)

-- the blocks that an append left in the room and that are full: all but the last, and the last too if it is
unfoldable pub full_blocks : Log → List ℕ → ℕ
full_blocks log room = cond (is_even log room) log.held (log.held - 1)

unfoldable pub full_text : Log → List ℕ → List ℕ
full_text log room = take (BLOCK * full_blocks log room) room

-- the last block, where it is partly filled
unfoldable pub last_text : Log → List ℕ → List ℕ
last_text log room = cond (is_even log room) [] (last_in log room)

-- ---- record by record

-- where writing has come: its course, the room, and what has gone out
pub record Run : Type 0 where
  pub course : Course
  pub room : List ℕ
  pub text : List ℕ

abbrev pub run_of : Course → List ℕ → List ℕ → Run
run_of course room text = record { course = course; room = room; text = text }

-- after an append's answer: the blocks that are full go out, or a refusal ends the log
unfoldable pub answered : Run → Result Log Refusal → List ℕ → Run
answered run (Ok log) room = run_of (record { log = log; why = None }) room (run.text ++ full_text log room)
answered run (Err why) room = run_of (record { log = run.course.log; why = Some why }) room run.text

unfoldable pub appended_to : Run → Entry → Run
appended_to run entry =
    answered run (answer_for run.course.log run.room (record_of entry)) (room_then run.course.log run.room (record_of entry))

-- behind a refusal nothing is logged
abbrev pub is_there : Option Refusal → Bool
is_there None = false
is_there (Some why) = true

unfoldable pub is_over : Course → Bool
is_over course = is_there course.why

unfoldable pub run_after : Run → Entry → Run
run_after run entry = cond (is_over run.course) run (appended_to run entry)

-- what one record of the input makes of a course and a room, and what goes out
abbrev pub step_of : Course → List ℕ → List ℕ → Run
step_of course room bytes = run_after (run_of course room []) (entry_in bytes)

-- the same where no refusal has ended the log
abbrev pub put_of : Log → List ℕ → List ℕ → Run
put_of log room bytes = appended_to (run_of (record { log = log; why = None }) room []) (entry_in bytes)

-- ---- in pieces

-- an empty log
abbrev pub empty_log : Log
empty_log = record { blocks = 0; held = 0 }

abbrev pub start_course : Course
start_course = record { log = empty_log; why = None }

-- where writing stands after the whole records of what is there: the rest is left
abbrev pub turned_to : Course → List ℕ → List ℕ → Stood Run
turned_to course room input = stood_by input_whole entry_in run_after (run_of course room []) input

abbrev pub stand_of : Stood Run → Stand
stand_of at = record { course = at.kept.course; had = length at.left; laid = length at.kept.text }

-- the last block of where writing has come
abbrev pub end_text : Run → List ℕ
end_text run = last_text run.course.log run.room

-- all that goes out, read by read
unfoldable pub sent : Course → List ℕ → List ℕ → List (List ℕ) → List ℕ
sent course room left [] = end_text (run_of course room [])
sent course room left (piece ∷ pieces) =
    (turned_to course room (left ++ piece)).kept.text
    ++ cond (is_over (turned_to course room (left ++ piece)).kept.course)
    (end_text (turned_to course room (left ++ piece)).kept)
    (sent (turned_to course room (left ++ piece)).kept.course (turned_to course room (left ++ piece)).kept.room
    (turned_to course room (left ++ piece)).left pieces)

-- ---- all of it at once

-- the log of the input's records, up to the first that doesn't fit in 65,536 blocks
unfoldable pub output_for : List ℕ → List ℕ
output_for input = written (fit (PAYLOAD * BLOCKS_MAX) (map record_of (entries_in input)))
