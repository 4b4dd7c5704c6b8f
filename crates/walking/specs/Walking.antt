-- Walks over records: each record goes to the client's step or to the shore's, and what is written says what was answered; or
-- it is only read, strictly, and what is written says whether it was accepted.
use Rattle.std.specs.Prelude.{ℕ, ◌+◌, ◌-◌, ◌*◌, ◌%◌, ◌≤◌, Bool, true, false, cond, ◌&&◌, List, [], length, drop, ◌==◌, slice_index_or}
use Rattle.paper.specs.Sizes.{STORE, REPLY_MIN, PDU_MAX}
use Rattle.paper.specs.Rows.{verdict_number}
use Rattle.lists.specs.Bytes.{laid, zeros}
use Rattle.numbers.specs.Numbers.{value_of}
use Rattle.reading.specs.Said.{verdict_on}
use Rattle.reading.specs.Strict.{read_strict}
use Rattle.table.specs.declared.Table.{Table}
use Rattle.table.specs.Table.{empty_table}
use Rattle.client.specs.declared.Received.{Received}
use Rattle.client.specs.Client.{Whole, store_started, received, locally_closed}
use Rattle.lines.specs.Lines.{LINE_MAX, MESSAGE_LINE_MAX, header_line, line_of, cut_line_of}
use Rattle.lines.specs.Lines.{reading_header, reading_line_of, totals_header, totals_line_of}
use Rattle.shore.specs.declared.Shore.{Shore}
use Rattle.shore.specs.Shore.{Whole as Called}
use Rattle.saying.specs.Saying.{desk_header, desk_line_of, link_header}
use Rattle.handing.specs.Handing.{message_text}
use Rattle.linking.specs.Linking.{both_of, both_started, Steps as Comes, link_step, STEP_MAX}
use Rattle.hosting.specs.Hosting.{hosted}
use Rattle.records.specs.declared.Due.TheVariants.{Read}
use Rattle.records.specs.Records.{PLACES, whole_of, pdu_in}
use Rattle.records.specs.Desk.{desk_whole, link_whole}
use Rattle.records.specs.Walks.{Program, output, Went, Turned}
use Rattle.walking.specs.declared.Job.{Job}
use Rattle.walking.specs.declared.Job.TheVariants.{Client, Strict, Desk, Link}
use Rattle.walking.specs.declared.Told.{Told}
use Rattle.walking.specs.declared.Told.TheVariants.{Lines, Messages, Moves, Totals}
use Rattle.walking.specs.declared.Kept.{Kept}
use Rattle.walking.specs.declared.Stand.{Stand}
use Rattle.walking.specs.declared.Stepped.{Stepped}
use Rattle.walking.specs.declared.Walked.{Walked}
use Rattle.walking.specs.declared.Turned.{Turned as Turn}

-- what the hosts of both ends keep, the client's table and the shore's, with the store; whether the run has ended at a record
-- that is none; and the place of the next record
pub record Walk : Type 0 where
  pub table : Table
  pub shore : Shore
  pub store : List ℕ
  pub ended : Bool
  pub place : ℕ

abbrev pub walk_of : Kept → List ℕ → Walk
walk_of kept store =
    record { table = kept.table; shore = kept.shore; store = store; ended = kept.ended; place = kept.place }

abbrev pub kept_of : Walk → Kept
kept_of w = record { table = w.table; shore = w.shore; ended = w.ended; place = w.place }

-- the shore's before its request
abbrev pub new_shore : Shore
new_shore = record { table = empty_table; asked = 0 }

-- "place from 0"; a walk begins with a read
unfoldable pub beginning : Stand
beginning =
    record {
      kept = record { table = empty_table; shore = new_shore; ended = false; place = 0 };
      had = 0;
      due = Read;
    }

-- the place of the record behind
abbrev pub next_place : Walk → ℕ
next_place w = (w.place + 1) % PLACES

-- ---- a record of the client's

-- whether local closes stand among the records
unfoldable pub has_closes : Told → Bool
has_closes Lines = false
has_closes Messages = false
has_closes Moves = true
has_closes Totals = true

-- then a record whose first byte is 0, which no command has, is one
unfoldable pub is_close : Told → List ℕ → Bool
is_close told bytes = has_closes told && slice_index_or bytes 0 1 == 0

-- the channel's number stands behind that byte, little-endian
abbrev pub close_number : List ℕ → ℕ
close_number bytes = value_of (drop 1 bytes)

-- what the client's step gives for a record
unfoldable pub answered : Told → List ℕ → Table → List ℕ → List ℕ → Whole
answered told list table store bytes =
    cond (is_close told bytes) (locally_closed table store (close_number bytes) (zeros REPLY_MIN))
    (received table store list bytes (zeros REPLY_MIN))

abbrev pub answered_at : Told → List ℕ → Walk → List ℕ → Whole
answered_at told list w bytes = answered told list w.table w.store bytes

unfoldable pub after_step : Told → List ℕ → Walk → List ℕ → Walk
after_step told list w bytes =
    record {
      table = (answered_at told list w bytes).result.table;
      shore = w.shore;
      store = (answered_at told list w bytes).store;
      ended = w.ended;
      place = next_place w;
    }

-- ---- a record of the shore's

-- what the shore's call gives for a record
unfoldable pub desk_called : Walk → List ℕ → Called
desk_called w bytes = hosted w.shore w.store bytes (zeros PDU_MAX)

unfoldable pub after_call : Walk → List ℕ → Walk
after_call w bytes =
    record {
      table = w.table;
      shore = (desk_called w bytes).result.shore;
      store = (desk_called w bytes).store;
      ended = w.ended;
      place = next_place w;
    }

-- ---- a record of both ends

unfoldable pub comes_of : List ℕ → Walk → List ℕ → Comes
comes_of list w bytes = link_step list w.place (both_of w.table w.shore w.store) bytes

-- a record that is none ends the run
unfoldable pub after_link : List ℕ → Walk → List ℕ → Walk
after_link list w bytes =
    cond w.ended w
    (record {
      table = (comes_of list w bytes).goes.both.ends.panel;
      shore = (comes_of list w bytes).goes.both.ends.shore;
      store = (comes_of list w bytes).goes.both.store;
      ended = (comes_of list w bytes).bad;
      place = next_place w;
    })

-- "and the run ends (no more output)"
unfoldable pub link_text : List ℕ → Walk → List ℕ → List ℕ
link_text list w bytes = cond w.ended [] (comes_of list w bytes).goes.text

unfoldable pub cut_unless : Bool → ℕ → List ℕ
cut_unless ended place = cond ended [] (cut_line_of place)

-- ---- what is written

-- the text of a step, from what it gave and left in the store
unfoldable pub text_for : Told → ℕ → Received → List ℕ → List ℕ
text_for Lines place r store = line_of place r.answer r.sent
text_for Messages place r store = message_text place r.place store r.answer
text_for Moves place r store = line_of place r.answer r.sent
text_for Totals place r store = totals_line_of place r.table.totals.channels r.table.totals.awaited

unfoldable pub first_told : Told → List ℕ
first_told Lines = header_line
first_told Messages = []
first_told Moves = header_line
first_told Totals = totals_header

unfoldable pub cut_told : Told → ℕ → List ℕ
cut_told Lines place = cut_line_of place
cut_told Messages place = []
cut_told Moves place = cut_line_of place
cut_told Totals place = cut_line_of place

-- the most bytes of a step's text
unfoldable pub room_told : Told → ℕ
room_told Lines = LINE_MAX
room_told Messages = MESSAGE_LINE_MAX
room_told Moves = LINE_MAX
room_told Totals = LINE_MAX

-- ---- by job

-- the bytes of the record at the front, or 0 where none is whole
unfoldable pub extent_for : Job → List ℕ → ℕ
extent_for (Client told) input = whole_of input
extent_for (Strict fromServer) input = whole_of input
extent_for Desk input = desk_whole input
extent_for Link input = link_whole input

unfoldable pub first_for : Job → List ℕ
first_for (Client told) = first_told told
first_for (Strict fromServer) = reading_header
first_for Desk = desk_header
first_for Link = link_header

unfoldable pub cut_for : Job → Bool → ℕ → List ℕ
cut_for (Client told) ended place = cut_told told place
cut_for (Strict fromServer) ended place = cut_line_of place
cut_for Desk ended place = cut_line_of place
cut_for Link ended place = cut_unless ended place

-- the most bytes of a record's text
unfoldable pub room_for : Job → ℕ
room_for (Client told) = room_told told
room_for (Strict fromServer) = LINE_MAX
room_for Desk = LINE_MAX
room_for Link = STEP_MAX

-- the bytes of the store that a job is lent: one end's, or both ends'
unfoldable pub store_for : Job → ℕ
store_for (Client told) = STORE
store_for (Strict fromServer) = STORE
store_for Desk = STORE
store_for Link = 2 * STORE

-- the store after Start
unfoldable pub started_for : Job → List ℕ → List ℕ
started_for (Client told) store = store_started store
started_for (Strict fromServer) store = store_started store
started_for Desk store = store_started store
started_for Link store = both_started store

-- a record that is only read leaves the table and the store
unfoldable pub after_record : Job → List ℕ → Walk → List ℕ → Walk
after_record (Client told) list w bytes = after_step told list w (pdu_in bytes)
after_record (Strict fromServer) list w bytes =
    record { table = w.table; shore = w.shore; store = w.store; ended = w.ended; place = next_place w }
after_record Desk list w bytes = after_call w bytes
after_record Link list w bytes = after_link list w bytes

unfoldable pub text_of : Job → List ℕ → Walk → List ℕ → List ℕ
text_of (Client told) list w bytes =
    text_for told w.place (answered_at told list w (pdu_in bytes)).result (answered_at told list w (pdu_in bytes)).store
text_of (Strict fromServer) list w bytes =
    reading_line_of w.place (verdict_number (verdict_on (read_strict fromServer (pdu_in bytes))))
text_of Desk list w bytes =
    desk_line_of w.place (desk_called w bytes).result.said (desk_called w bytes).result.sent
text_of Link list w bytes = link_text list w bytes

-- the program that does a job, with a listener list
unfoldable pub program : Job → List ℕ → Program Walk
program job list =
    record {
      extent = extent_for job;
      first = first_for job;
      room = room_for job;
      after = after_record job list;
      text = text_of job list;
      cut = λ w. cut_for job w.ended w.place;
    }

-- where every run begins: the empty table, a store of zeros, place 0
unfoldable pub start_walk : Job → Walk
start_walk job = record { table = empty_table; shore = new_shore; store = zeros (store_for job); ended = false; place = 0 }

-- all that the program writes for an input
abbrev pub output_of : Job → List ℕ → List ℕ → List ℕ
output_of job list input = output (program job list) (start_walk job) input

-- ---- the functions

-- a function takes one record's step: its result, and every byte of the store and of the output buffer
pub record Steps (p : Program Walk) (w : Walk) (bytes out : List ℕ) (r : Stepped) (storeAfter outAfter : List ℕ) : Type 0 where
  pub kept : Path Kept r.kept (kept_of (p.after w bytes))
  pub length_laid : Path ℕ r.laid (length (p.text w bytes))
  pub fits : r.laid ≤ p.room
  pub stored : Path (List ℕ) storeAfter (p.after w bytes).store
  pub lines : Path (List ℕ) outAfter (laid out 0 (p.text w bytes))

-- a function goes a walk's way: its result, and every byte of the store and of the output buffer
pub record Walks (went : Went Walk) (out : List ℕ) (r : Walked) (storeAfter outAfter : List ℕ) : Type 0 where
  pub kept : Path Kept r.kept (kept_of went.kept)
  pub taken : Path ℕ r.taken went.taken
  pub length_laid : Path ℕ r.laid (length went.text)
  pub stored : Path (List ℕ) storeAfter went.kept.store
  pub lines : Path (List ℕ) outAfter (laid out 0 went.text)

-- where a walk stands after a turn: what it didn't take is left
abbrev pub stand_of : Turned Walk → List ℕ → Stand
stand_of t input = record { kept = kept_of t.went.kept; had = length input - t.went.taken; due = t.due }

-- a function takes a walk's turn: its result, and every byte of the store and of both buffers. What is left of the input
-- comes to its front
pub record Turns (t : Turned Walk) (input out : List ℕ) (r : Turn) (storeAfter inputAfter outAfter : List ℕ) : Type 0 where
  pub stand : Path Stand r.stand (stand_of t input)
  pub length_laid : Path ℕ r.laid (length t.went.text)
  pub stored : Path (List ℕ) storeAfter t.went.kept.store
  pub moved : Path (List ℕ) inputAfter (laid input 0 (drop t.went.taken input))
  pub lines : Path (List ℕ) outAfter (laid out 0 t.went.text)
