-- "A tool over the walker's input names, for a given place in it, the answer there and, for a 13, the place and refusal that spoiled
-- the channel. [..] For any other refusal it names the first rule in the order that held. A place that the input doesn't have whole
-- is answered as such."
use Rattle.std.specs.Prelude.{ℕ, ◌+◌, ◌%◌, cond, Option, None, Some, List, [], length, ◌==◌}
use Rattle.paper.specs.Sizes.{STORE, REPLY_MIN}
use Rattle.paper.specs.Refusals.{refusal_number}
use Rattle.paper.specs.Rows.{Verdict, fine, refused_with}
use Rattle.lists.specs.Bytes.{zeros}
use Rattle.table.specs.declared.Table.{Table}
use Rattle.table.specs.Table.{empty_table}
use Rattle.client.specs.declared.Received.{Received}
use Rattle.client.specs.Client.{Whole, received}
use Rattle.steps.specs.Rows.{verdict_of}
use Rattle.rules.specs.declared.Rule.{Rule}
use Rattle.rules.specs.Rules.{the_rules, first_of}
use Rattle.records.specs.Records.{PLACES}
use Rattle.records.specs.Items.{Stood}
use Rattle.records.specs.Pdus.{stood_after, after_reads}
use Rattle.cause.specs.declared.Note.{Note}
use Rattle.cause.specs.declared.Cause.{Cause}
use Rattle.cause.specs.declared.Cause.TheVariants.{SpoiledBy, ByRule}
use Rattle.cause.specs.declared.Said.{Said}
use Rattle.cause.specs.declared.Course.{Course}
use Rattle.records.specs.declared.Stand.{Stand}
use Rattle.cause.specs.Notes.{no_notes, note_at, notes_after}

-- ---- one PDU

unfoldable pub cause_named : Option Rule → Option Cause
cause_named None = None
cause_named (Some rule) = Some (ByRule rule)

-- by the verdict: 13 has its note, any other its rule. What is accepted has no cause, and 1 is the call's
unfoldable pub cause_by : Note → Option Rule → Verdict → Option Cause
cause_by note broken fine = None
cause_by note broken (refused_with why) =
    cond (refusal_number why == 1) None
    (cond (refusal_number why == 13) (Some (SpoiledBy note.place note.why)) (cause_named broken))

-- the cause of what a PDU got, with the notes and the table before it; the note is that of the channel's record
unfoldable pub cause_of : List Note → Table → List ℕ → List ℕ → Received → Option Cause
cause_of notes t list pdu r = cause_by (note_at notes r.place) (first_of (the_rules t list pdu)) (verdict_of r.answer)

-- ---- on the way to a place

-- what is kept, with every byte of the store
pub record Way : Type 0 where
  pub course : Course
  pub store : List ℕ

abbrev pub way_of : Course → List ℕ → Way
way_of course store = record { course = course; store = store }

-- what the client's step gives
abbrev pub heard_on : List ℕ → Way → List ℕ → Whole
heard_on list w pdu = received w.course.table w.store list pdu (zeros REPLY_MIN)

-- what is said: at the place sought what its PDU got, and from there on that
unfoldable pub said_by : Option Said → ℕ → ℕ → Received → Option Cause → Option Said
said_by None sought place r cause =
    cond (place == sought) (Some (record { answer = r.answer; sent = r.sent; cause = cause })) None
said_by (Some said) sought place r cause = Some said

-- the course after a PDU, from what it got
unfoldable pub course_on : ℕ → List ℕ → Course → List ℕ → Received → Course
course_on sought list c pdu r =
    record {
      table = r.table;
      notes = notes_after c.place (verdict_of r.answer) c.table r.table c.notes;
      place = (c.place + 1) % PLACES;
      said = said_by c.said sought c.place r (cause_of c.notes c.table list pdu r);
    }

-- with one PDU more
unfoldable pub way_after : ℕ → List ℕ → Way → List ℕ → Way
way_after sought list w pdu =
    record { course = course_on sought list w.course pdu (heard_on list w pdu).result; store = (heard_on list w pdu).store }

-- ---- a run

-- where it begins: Start's table, no notes, place 0
unfoldable pub start_course : Course
start_course = record { table = empty_table; notes = no_notes; place = 0; said = None }

abbrev pub start_way : Way
start_way = record { course = start_course; store = zeros STORE }

-- where it stands after the whole records of what is there: the rest is left
abbrev pub turned_to : ℕ → List ℕ → Way → List ℕ → Stood Way
turned_to sought list w input = stood_after (way_after sought list) w input

abbrev pub stand_of : Stood Way → Stand Course
stand_of at = record { course = at.kept.course; had = length at.left }

-- what is said of a place of an input: `None` where the input doesn't have it whole
unfoldable pub said_of : ℕ → List ℕ → List ℕ → Option Said
said_of sought list input = (turned_to sought list start_way input).kept.course.said

-- the same over reads
unfoldable pub said_in_pieces : ℕ → List ℕ → List (List ℕ) → Option Said
said_in_pieces sought list pieces =
    (after_reads (way_after sought list) (record { kept = start_way; left = [] }) pieces).kept.course.said
