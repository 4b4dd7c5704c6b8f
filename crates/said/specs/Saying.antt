-- A line for a PDU: what reading says of it, and whether that, written again, is the same PDU.
use Rattle.std.specs.Prelude.{ℕ, Bool, false, cond, List, [], ◌∷◌, ◌++◌, map, length, take, Result, Err, Ok}
use Rattle.paper.specs.Sizes.{PDU_MAX}
use Rattle.paper.specs.Commands.{CREATE, DATA_FIRST, DATA, CLOSE, CAPABILITIES}
use Rattle.paper.specs.Refusals.{refusal_number}
use Rattle.paper.specs.declared.Refusal.{Refusal}
use Rattle.lists.specs.Bytes.{zeros}
use Rattle.numbers.specs.Status.{unsigned_of}
use Rattle.lines.specs.Decimal.{field}
use Rattle.lines.specs.Lines.{SPACE}
use Rattle.listeners.specs.Listeners.{same_bytes}
use Rattle.reading.specs.Reading.{bad_version, read_pdu}
use Rattle.reading.specs.Said.{Said, row, refusal, said, bytes_at}
use Rattle.reading.specs.declared.Extent.{Extent}
use Rattle.reading.specs.declared.Pdu.{Pdu}
use Rattle.reading.specs.declared.Pdu.TheVariants.{CreateRequest, CreateResponse, DataFirst, Data, Close}
use Rattle.reading.specs.declared.Pdu.TheVariants.{CapsRequest, CapsResponse, Refused}
use Rattle.laying.specs.Laying.{buffer_after, create_request_bytes, create_response_bytes, data_first_bytes, data_bytes, close_bytes}
use Rattle.laying.specs.Laying.{caps_request_bytes, caps_response_bytes}
use Rattle.writing.specs.Writing.{written, outcome, bad_request, bad_capabilities}

-- ---- what reading says

abbrev pub COLON : ℕ
COLON = 58

-- Cmd and the row's numbers, a CreationStatus as its 32 bits; or the refusal number
unfoldable pub numbers_in : Said → List ℕ
numbers_in (row cmd numbers bytes) = cmd ∷ map unsigned_of numbers
numbers_in (refusal n) = n ∷ []

-- the name or the data
unfoldable pub bytes_in : Said → List ℕ
bytes_in (row cmd numbers bytes) = bytes
bytes_in (refusal n) = []

-- each number in decimal, with a space behind it
unfoldable pub spelled_out : List ℕ → List ℕ
spelled_out [] = []
spelled_out (n ∷ ns) = field n SPACE ++ spelled_out ns

-- ---- the same, by the PDU that was read: the numbers, and the place of the bytes

-- the first number of a line: Cmd, or the refusal number
abbrev pub first_number : Pdu → ℕ
first_number (CreateRequest number class name) = CREATE
first_number (CreateResponse number status) = CREATE
first_number (DataFirst number len block) = DATA_FIRST
first_number (Data number block) = DATA
first_number (Close number) = CLOSE
first_number (CapsRequest version c) = CAPABILITIES
first_number (CapsResponse version) = CAPABILITIES
first_number (Refused why) = refusal_number why

abbrev pub numbers_of : Pdu → List ℕ
numbers_of (CreateRequest number class name) = CREATE ∷ number ∷ class ∷ []
numbers_of (CreateResponse number status) = CREATE ∷ number ∷ unsigned_of status ∷ []
numbers_of (DataFirst number len block) = DATA_FIRST ∷ number ∷ len ∷ []
numbers_of (Data number block) = DATA ∷ number ∷ []
numbers_of (Close number) = CLOSE ∷ number ∷ []
numbers_of (CapsRequest version c) = CAPABILITIES ∷ version ∷ c.class0 ∷ c.class1 ∷ c.class2 ∷ c.class3 ∷ []
numbers_of (CapsResponse version) = CAPABILITIES ∷ version ∷ []
numbers_of (Refused why) = refusal_number why ∷ []

abbrev pub none : Extent
none = record { at = 0; len = 0 }

abbrev pub place_of : Pdu → Extent
place_of (CreateRequest number class name) = name
place_of (CreateResponse number status) = none
place_of (DataFirst number len block) = block
place_of (Data number block) = block
place_of (Close number) = none
place_of (CapsRequest version c) = none
place_of (CapsResponse version) = none
place_of (Refused why) = none

-- ---- what was read, written again

-- a PDU to write, with whether its values are bad; or none, since reading refused
pub data Again : Type 0 where
  writes : Bool → List ℕ → Again
  nothing : Refusal → Again

unfoldable pub again_of : List ℕ → Pdu → Again
again_of pdu (CreateRequest number class name) =
    writes (bad_request class (bytes_at pdu name)) (create_request_bytes number class (bytes_at pdu name))
again_of pdu (CreateResponse number status) = writes false (create_response_bytes number status)
again_of pdu (DataFirst number len block) = writes false (data_first_bytes number len (bytes_at pdu block))
again_of pdu (Data number block) = writes false (data_bytes number (bytes_at pdu block))
again_of pdu (Close number) = writes false (close_bytes number)
again_of pdu (CapsRequest version charges) = writes (bad_capabilities version charges) (caps_request_bytes version charges)
again_of pdu (CapsResponse version) = writes (bad_version version) (caps_response_bytes version)
again_of pdu (Refused why) = nothing why

-- what the writer answers, and the buffer behind it
unfoldable pub answer_to : Again → List ℕ → Result ℕ Refusal
answer_to (writes bad bytes) out = written bad bytes out
answer_to (nothing why) out = Err why

unfoldable pub left_by : Again → List ℕ → List ℕ
left_by (writes bad bytes) out = buffer_after (outcome (written bad bytes out)) bytes out
left_by (nothing why) out = out

-- ---- the line

-- " same", " other", " refused", each with the line's end
unfoldable pub word_for : Result ℕ Refusal → List ℕ → List ℕ → List ℕ
word_for (Ok n) out pdu =
    cond (same_bytes (take n out) pdu)
    (32 ∷ 115 ∷ 97 ∷ 109 ∷ 101 ∷ 10 ∷ [])
    (32 ∷ 111 ∷ 116 ∷ 104 ∷ 101 ∷ 114 ∷ 10 ∷ [])
word_for (Err why) out pdu = 32 ∷ 114 ∷ 101 ∷ 102 ∷ 117 ∷ 115 ∷ 101 ∷ 100 ∷ 10 ∷ []

-- written to zeros
unfoldable pub word_of : List ℕ → Pdu → List ℕ
word_of pdu read = word_for (answer_to (again_of pdu read) (zeros PDU_MAX)) (left_by (again_of pdu read) (zeros PDU_MAX)) pdu

unfoldable pub text_of : Said → List ℕ
text_of says = (spelled_out (numbers_in says) ++ field (length (bytes_in says)) COLON) ++ bytes_in says

unfoldable pub line_of : Bool → List ℕ → List ℕ
line_of fromServer pdu = text_of (said pdu (read_pdu fromServer pdu)) ++ word_of pdu (read_pdu fromServer pdu)
