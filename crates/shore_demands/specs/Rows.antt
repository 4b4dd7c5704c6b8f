-- The refusals of the shore's entries as the paper's table has them: a row for each number, "given exactly when", in their
-- order. On receive: 1, then reading, then 7, 16, 8, 13, 10, 11, 12, the first that holds.
use Rattle.std.specs.Prelude.{ℕ, Bool, true, false, not, ◌&&◌, ◌||◌, List, [], ◌∷◌, ◌++◌, eqb, ltb, length}
use Rattle.paper.specs.Sizes.{PARTS, PDU_MAX, MESSAGE_MAX}
use Rattle.paper.specs.Refusals.{refusal_number}
use Rattle.paper.specs.Rows.{Row, row, Outcome, done, refusal}
use Rattle.paper.specs.declared.Refusal.TheVariants.{BadCall, BadField, WrongTime, NotOpen, StillJoining, OverLimit, PastLength}
use Rattle.paper.specs.declared.Refusal.TheVariants.{IsSpoiled, AllTaken, NotAwaited}
use Rattle.reading.specs.Layouts.{reading_rows}
use Rattle.reading.specs.Reading.{read_pdu}
use Rattle.reading.specs.declared.Charges.{Charges}
use Rattle.reading.specs.declared.Pdu.{Pdu}
use Rattle.reading.specs.declared.Pdu.TheVariants.{CreateRequest, CreateResponse, DataFirst, Data, Close}
use Rattle.reading.specs.declared.Pdu.TheVariants.{CapsRequest, CapsResponse, Refused as Unread}
use Rattle.laying.specs.Laying.{create_request_bytes}
use Rattle.writing.specs.Writing.{bad_request, bad_capabilities}
use Rattle.channel.specs.Channel.{class_at}
use Rattle.table.specs.declared.Table.{Table}
use Rattle.table.specs.Table.{number_place, record_at}
use Rattle.client.specs.Client.{bad_call}
use Rattle.steps.specs.Rows.{stage_of, is_spoiled, is_joining, passes}
use Rattle.shore.specs.declared.Shore.{Shore}
use Rattle.shore.specs.declared.Said.{Said}
use Rattle.shore.specs.declared.Said.TheVariants.{Asked, Ready, Awaited, Opened, Declined, Held, Message, Closed, Ignored, Refused}
use Rattle.shore.specs.Numbers.{least_number}
use Rattle.shore.specs.Shore.{all_taken, bad_out}

-- the answer in the paper's terms
unfoldable pub outcome_said : Said → Outcome Said
outcome_said (Asked version) = done (Asked version)
outcome_said (Ready level) = done (Ready level)
outcome_said (Awaited n) = done (Awaited n)
outcome_said (Opened n) = done (Opened n)
outcome_said (Declined n) = done (Declined n)
outcome_said (Held n left) = done (Held n left)
outcome_said (Message n len) = done (Message n len)
outcome_said (Closed n) = done (Closed n)
outcome_said (Ignored n) = done (Ignored n)
outcome_said (Refused why concern) = refusal (refusal_number why)

-- ---- what the rows speak of

-- a record holds the number
abbrev pub has_record : Table → ℕ → Bool
has_record t n = ltb (number_place n t) PARTS

abbrev pub mark : Table → ℕ → Bool
mark t n = (record_at t (number_place n t)).awaited

-- "An awaited number isn't open, though it has its record"
unfoldable pub is_open_at : Table → ℕ → Bool
is_open_at t n = has_record t n && not (mark t n)

unfoldable pub is_awaited_at : Table → ℕ → Bool
is_awaited_at t n = has_record t n && mark t n

-- ---- the rows of a received PDU from 7 on, by its kind. What reading refuses has none, a garbled block neither

unfoldable pub rows_of : Shore → Pdu → List Row
rows_of s (CapsResponse version) = row WrongTime (s.table.ready || eqb s.asked 0) ∷ []
rows_of s (CreateResponse n status) =
    row WrongTime (not s.table.ready) ∷ row NotAwaited (not (is_awaited_at s.table n)) ∷ []
rows_of s (DataFirst n len block) =
    row WrongTime (not s.table.ready) ∷ row NotOpen (not (is_open_at s.table n))
    ∷ row IsSpoiled (is_spoiled (stage_of s.table n)) ∷ row StillJoining (is_joining (stage_of s.table n))
    ∷ row OverLimit (ltb MESSAGE_MAX len) ∷ row PastLength (ltb len block.len) ∷ []
rows_of s (Data n block) =
    row WrongTime (not s.table.ready) ∷ row NotOpen (not (is_open_at s.table n))
    ∷ row IsSpoiled (is_spoiled (stage_of s.table n)) ∷ row PastLength (passes (stage_of s.table n) block.len) ∷ []
rows_of s (Close n) = row WrongTime (not s.table.ready) ∷ []
rows_of s (CreateRequest n class name) = row WrongTime true ∷ []
rows_of s (CapsRequest version charges) = row WrongTime true ∷ []
rows_of s (Unread why) = []

-- on receive: 1, then reading, then the rows of the kind
unfoldable pub receive_rows : Shore → List ℕ → List ℕ → List ℕ → List Row
receive_rows s store pdu reply =
    row BadCall (bad_call s.table (length store) (length reply)) ∷ (reading_rows false pdu ++ rows_of s (read_pdu false pdu))

-- "7 too for a second request (1, 7, 5)"
unfoldable pub request_rows : Shore → ℕ → Charges → List ℕ → List Row
request_rows s version charges out =
    row BadCall (bad_out s.table (length out))
    ∷ row WrongTime (not (eqb s.asked 0)) ∷ row BadField (bad_capabilities version charges) ∷ []

-- "15, sixteen numbers open or awaited (local open: 1, 7, 15, 5, 11)"
unfoldable pub open_rows : Shore → List ℕ → ℕ → List ℕ → List Row
open_rows s name class out =
    row BadCall (bad_out s.table (length out))
    ∷ row WrongTime (not s.table.ready) ∷ row AllTaken (all_taken s.table)
    ∷ row BadField (bad_request (class_at s.table.level class) name)
    ∷ row OverLimit
    (ltb PDU_MAX (length (create_request_bytes (least_number s.table) (class_at s.table.level class) name)))
    ∷ []

-- "Local close: 1, 7, 8": an awaited number isn't open
unfoldable pub close_rows : Shore → List ℕ → ℕ → List ℕ → List Row
close_rows s store n reply =
    row BadCall (bad_call s.table (length store) (length reply))
    ∷ row WrongTime (not s.table.ready) ∷ row NotOpen (not (is_open_at s.table n)) ∷ []
