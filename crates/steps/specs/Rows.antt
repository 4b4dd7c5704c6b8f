-- The refusals once more, as the paper's table has them: a row for each number, "given exactly when", in the order
-- on receive: "1, then reading, then 7, 6, 9, 8, 13, 10, 11, 12, the first that holds". The rows of reading are
-- `reading_rows`, from the table of kinds. proofs/Refusals shows that the steps give exactly these.
use Rattle.std.specs.Prelude.{ℕ, ◌-◌, Bool, true, false, not, List, [], ◌∷◌, ◌++◌, ltb, eqb, length, Result, Err, Ok}
use Rattle.paper.specs.declared.Refusal.{Refusal}
use Rattle.paper.specs.Sizes.{PARTS, STORE, MESSAGE_MAX}
use Rattle.paper.specs.Refusals.{refusal_number}
use Rattle.paper.specs.Rows.{Verdict, fine, refused_with, Row, row, Outcome, done, refusal}
use Rattle.paper.specs.declared.Refusal.TheVariants.{BadCall, BadList, WrongTime, NotOpen, AlreadyOpen, StillJoining}
use Rattle.paper.specs.declared.Refusal.TheVariants.{OverLimit, PastLength, IsSpoiled}
use Rattle.reading.specs.Reading.{read_pdu}
use Rattle.reading.specs.Layouts.{reading_rows}
use Rattle.reading.specs.declared.Pdu.{Pdu}
use Rattle.reading.specs.declared.Pdu.TheVariants.{CreateRequest, CreateResponse, DataFirst, Data, Close}
use Rattle.reading.specs.declared.Pdu.TheVariants.{CapsRequest, CapsResponse, Refused}
use Rattle.listeners.specs.Listeners.{good_list}
use Rattle.channel.specs.declared.Stage.{Stage}
use Rattle.channel.specs.declared.Stage.TheVariants.{Idle, Joining, Spoiled}
use Rattle.channel.specs.declared.Answer.{Answer}
use Rattle.channel.specs.declared.Answer.TheVariants.{Ready, Opened, Declined, Held, Message, Closed, Ignored}
use Rattle.channel.specs.declared.Answer.TheVariants.{Refused as Refuses}
use Rattle.table.specs.declared.Table.{Table}
use Rattle.table.specs.Table.{number_place, record_at}
use Rattle.client.specs.Client.{bad_call}

-- what an answer says of it
unfoldable pub verdict_of : Answer → Verdict
verdict_of (Ready level) = fine
verdict_of (Opened n) = fine
verdict_of (Declined n why) = fine
verdict_of (Held n left) = fine
verdict_of (Message n len) = fine
verdict_of (Closed n) = fine
verdict_of (Ignored n) = fine
verdict_of (Refuses why concern) = refused_with why

-- and the answer in the paper's terms
unfoldable pub outcome_of : Answer → Outcome Answer
outcome_of (Ready level) = done (Ready level)
outcome_of (Opened n) = done (Opened n)
outcome_of (Declined n why) = done (Declined n why)
outcome_of (Held n left) = done (Held n left)
outcome_of (Message n len) = done (Message n len)
outcome_of (Closed n) = done (Closed n)
outcome_of (Ignored n) = done (Ignored n)
outcome_of (Refuses why concern) = refusal (refusal_number why)

-- ---- what the rows speak of

-- "A number is open while a record holds it, spoiled or not."
unfoldable pub is_open : Table → ℕ → Bool
is_open t n = ltb (number_place n t) PARTS

-- the stage of the channel with number n
unfoldable pub stage_of : Table → ℕ → Stage
stage_of t n = (record_at t (number_place n t)).stage

unfoldable pub is_spoiled : Stage → Bool
is_spoiled Idle = false
is_spoiled (Joining wanted held) = false
is_spoiled Spoiled = true

unfoldable pub is_joining : Stage → Bool
is_joining Idle = false
is_joining (Joining wanted held) = true
is_joining Spoiled = false

-- a Data's block of n bytes is longer than what is still to come
unfoldable pub passes : Stage → ℕ → Bool
passes Idle n = false
passes (Joining wanted held) n = ltb (wanted - held) n
passes Spoiled n = false

-- ---- the rows of a received PDU from 7 on, by its kind. What reading refuses has none, a garbled block neither

-- a Data First of a Length, with a block of m bytes
abbrev pub first_rows : Table → ℕ → ℕ → ℕ → List Row
first_rows t n len m =
    row WrongTime (not t.ready) ∷ row NotOpen (not (is_open t n))
    ∷ row IsSpoiled (is_spoiled (stage_of t n)) ∷ row StillJoining (is_joining (stage_of t n))
    ∷ row OverLimit (ltb MESSAGE_MAX len) ∷ row PastLength (ltb len m) ∷ []

-- a Data with a block of m bytes
abbrev pub data_rows : Table → ℕ → ℕ → List Row
data_rows t n m =
    row WrongTime (not t.ready) ∷ row NotOpen (not (is_open t n))
    ∷ row IsSpoiled (is_spoiled (stage_of t n)) ∷ row PastLength (passes (stage_of t n) m) ∷ []

unfoldable pub rows_of : Table → List ℕ → Pdu → List Row
rows_of t list (CapsRequest version charges) = row WrongTime t.ready ∷ []
rows_of t list (CreateRequest n class name) =
    row WrongTime (not t.ready) ∷ row BadList (not (good_list list)) ∷ row AlreadyOpen (is_open t n) ∷ []
rows_of t list (DataFirst n len block) = first_rows t n len block.len
rows_of t list (Data n block) = data_rows t n block.len
rows_of t list (Close n) = row WrongTime (not t.ready) ∷ []
rows_of t list (CreateResponse n status) = row WrongTime true ∷ []
rows_of t list (CapsResponse version) = row WrongTime true ∷ []
rows_of t list (Refused why) = []

-- on receive: 1, then reading, then the rows of the kind
unfoldable pub receive_rows : Table → List ℕ → List ℕ → List ℕ → List ℕ → List Row
receive_rows t store list pdu reply =
    row BadCall (bad_call t (length store) (length reply)) ∷ (reading_rows true pdu ++ rows_of t list (read_pdu true pdu))

-- "Local close: 1, 7, 8."
unfoldable pub close_rows : Table → List ℕ → ℕ → List ℕ → List Row
close_rows t store n reply =
    row BadCall (bad_call t (length store) (length reply))
    ∷ row WrongTime (not t.ready) ∷ row NotOpen (not (is_open t n)) ∷ []

-- Start: 1
unfoldable pub start_rows : List ℕ → List Row
start_rows store = row BadCall (not (eqb (length store) STORE)) ∷ []

-- Start's answer in the paper's terms
unfoldable pub start_outcome : Result (Unit {0}) Refusal → Outcome (Unit {0})
start_outcome (Ok tt) = done tt
start_outcome (Err why) = refusal (refusal_number why)
