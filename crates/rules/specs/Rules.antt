-- The refusals' rules by name: "the first rule in the order that held". One list: each rule's name beside its row, which has the
-- refusal and the condition. The rows are reading's (`reading_rows`) and the steps' (`rows_of`); here stand the names alone, in the
-- order of the rows.
use Rattle.std.specs.Prelude.{ℕ, zero, suc, ◌/◌, ◌%◌, Bool, true, cond, Option, None, Some, List, [], ◌∷◌, ◌++◌, take, drop, get_or}
use Rattle.paper.specs.declared.Refusal.{Refusal}
use Rattle.paper.specs.declared.Refusal.TheVariants.{CutShort, TooLong, NoCommand, BadField, BadList, WrongTime}
use Rattle.paper.specs.declared.Refusal.TheVariants.{AlreadyOpen, IsSpoiled, StillJoining}
use Rattle.paper.specs.declared.Refusal.TheVariants.{NotOpen as Unopened, OverLimit as TooMuch, PastLength as TooFar}
use Rattle.paper.specs.Rows.{Verdict, fine, refused_with, Row}
use Rattle.numbers.specs.Numbers.{little}
use Rattle.reading.specs.Reading.{read_pdu}
use Rattle.reading.specs.Layouts.{Field, Tail, no_more, any_bytes, a_name, Layout, layout_of, reading_rows}
use Rattle.reading.specs.declared.Pdu.{Pdu}
use Rattle.reading.specs.declared.Pdu.TheVariants.{CreateRequest, CreateResponse, DataFirst, Data, Close}
use Rattle.reading.specs.declared.Pdu.TheVariants.{CapsRequest, CapsResponse, Refused}
use Rattle.table.specs.declared.Table.{Table}
use Rattle.steps.specs.Rows.{rows_of}
use Rattle.rules.specs.declared.Rule.{Rule}
use Rattle.rules.specs.declared.Rule.TheVariants.{Empty, Long, Command, CbId, LengthWidth, Ended, Pad, Version, LeftOver}
use Rattle.rules.specs.declared.Rule.TheVariants.{ReadyAlready, NotReady, List as BadNames, OpenAlready, NotOpen, Spoiled}
use Rattle.rules.specs.declared.Rule.TheVariants.{Joining, OverLimit, PastLength}

-- ---- the names, each with its refusal

unfoldable pub refusal_of : Rule → Refusal
refusal_of Empty = CutShort
refusal_of Long = TooLong
refusal_of Command = NoCommand
refusal_of CbId = BadField
refusal_of LengthWidth = BadField
refusal_of Ended = CutShort
refusal_of Pad = BadField
refusal_of Version = BadField
refusal_of LeftOver = BadField
refusal_of ReadyAlready = WrongTime
refusal_of NotReady = WrongTime
refusal_of BadNames = BadList
refusal_of OpenAlready = AlreadyOpen
refusal_of NotOpen = Unopened
refusal_of Spoiled = IsSpoiled
refusal_of Joining = StillJoining
refusal_of OverLimit = TooMuch
refusal_of PastLength = TooFar

-- ---- the names of reading's rows

-- "bytes left over last"
unfoldable pub names_of_tail : Tail → List Rule
names_of_tail no_more = LeftOver ∷ []
names_of_tail any_bytes = []
names_of_tail a_name = Ended ∷ LeftOver ∷ []

-- the name of a field's value, by how many fields stand before it. Of all kinds only Capabilities have values that are judged,
-- Pad and behind it Version; any other value is good, and its name never counts
unfoldable pub value_name : ℕ → Rule
value_name zero = Pad
value_name (suc before) = Version

-- "fields from left to right, each ended (2) before its value is judged (5)"
unfoldable pub names_of_fields : ℕ → List Field → Tail → List Rule
names_of_fields before [] tail = names_of_tail tail
names_of_fields before (f ∷ fs) tail = Ended ∷ value_name before ∷ names_of_fields (suc before) fs tail

-- "empty 2, too long 3, then Cmd, cbId, the Length width, then fields"
unfoldable pub names_of_layout : Layout → List Rule
names_of_layout l = Empty ∷ Long ∷ Command ∷ CbId ∷ LengthWidth ∷ names_of_fields 0 l.fields l.tail

unfoldable pub reading_names : Bool → List ℕ → List Rule
reading_names fromServer pdu =
    names_of_layout
    (layout_of fromServer (get_or pdu 0 0 / 16) (get_or pdu 0 0 / 4 % 4) (get_or pdu 0 0 % 4) (little (take 2 (drop 2 pdu))))

-- ---- the names of the steps' rows, by the kind of PDU: "7, 6, 9, 8, 13, 10, 11, 12"

unfoldable pub names_of : Pdu → List Rule
names_of (CapsRequest version charges) = ReadyAlready ∷ []
names_of (CreateRequest n class name) = NotReady ∷ BadNames ∷ OpenAlready ∷ []
names_of (DataFirst n len block) = NotReady ∷ NotOpen ∷ Spoiled ∷ Joining ∷ OverLimit ∷ PastLength ∷ []
names_of (Data n block) = NotReady ∷ NotOpen ∷ Spoiled ∷ PastLength ∷ []
names_of (Close n) = NotReady ∷ []
-- never read in a PDU from the server
names_of (CreateResponse n status) = NotReady ∷ []
names_of (CapsResponse version) = NotReady ∷ []
names_of (Refused why) = []

-- ---- the list

-- a rule: its name, and its row
pub record Named : Type 0 where
  pub name : Rule
  pub row : Row

unfoldable pub beside : List Rule → List Row → List Named
beside [] rows = []
beside (name ∷ names) [] = []
beside (name ∷ names) (r ∷ rows) = record { name = name; row = r } ∷ beside names rows

-- the rules of reading a PDU from the server
unfoldable pub reading_rules : List ℕ → List Named
reading_rules pdu = beside (reading_names true pdu) (reading_rows true pdu)

-- those of the steps, for what is read, at a table and with a listener list
unfoldable pub step_rules : Table → List ℕ → Pdu → List Named
step_rules t list p = beside (names_of p) (rows_of t list p)

-- "then reading, then" the steps
unfoldable pub the_rules : Table → List ℕ → List ℕ → List Named
the_rules t list pdu = reading_rules pdu ++ step_rules t list (read_pdu true pdu)

-- "the first that holds"
unfoldable pub first_of : List Named → Option Rule
first_of [] = None
first_of (x ∷ rest) = cond x.row.holds (Some x.name) (first_of rest)

-- what the first rule that holds says of the answer: nothing, or the refusal beside its name
unfoldable pub verdict_by : Option Rule → Verdict
verdict_by None = fine
verdict_by (Some rule) = refused_with (refusal_of rule)

-- ---- the names as text, each ended by an LF

-- the most bytes of one
abbrev pub NAME_MAX : ℕ
NAME_MAX = 14

unfoldable pub name_text : Rule → List ℕ
name_text Empty = 101 ∷ 109 ∷ 112 ∷ 116 ∷ 121 ∷ 10 ∷ []
name_text Long = 108 ∷ 111 ∷ 110 ∷ 103 ∷ 10 ∷ []
name_text Command = 99 ∷ 111 ∷ 109 ∷ 109 ∷ 97 ∷ 110 ∷ 100 ∷ 10 ∷ []
name_text CbId = 99 ∷ 98 ∷ 105 ∷ 100 ∷ 10 ∷ []
name_text LengthWidth = 108 ∷ 101 ∷ 110 ∷ 103 ∷ 116 ∷ 104 ∷ 45 ∷ 119 ∷ 105 ∷ 100 ∷ 116 ∷ 104 ∷ 10 ∷ []
name_text Ended = 101 ∷ 110 ∷ 100 ∷ 101 ∷ 100 ∷ 10 ∷ []
name_text Pad = 112 ∷ 97 ∷ 100 ∷ 10 ∷ []
name_text Version = 118 ∷ 101 ∷ 114 ∷ 115 ∷ 105 ∷ 111 ∷ 110 ∷ 10 ∷ []
name_text LeftOver = 108 ∷ 101 ∷ 102 ∷ 116 ∷ 45 ∷ 111 ∷ 118 ∷ 101 ∷ 114 ∷ 10 ∷ []
name_text ReadyAlready = 114 ∷ 101 ∷ 97 ∷ 100 ∷ 121 ∷ 45 ∷ 97 ∷ 108 ∷ 114 ∷ 101 ∷ 97 ∷ 100 ∷ 121 ∷ 10 ∷ []
name_text NotReady = 110 ∷ 111 ∷ 116 ∷ 45 ∷ 114 ∷ 101 ∷ 97 ∷ 100 ∷ 121 ∷ 10 ∷ []
name_text BadNames = 108 ∷ 105 ∷ 115 ∷ 116 ∷ 10 ∷ []
name_text OpenAlready = 111 ∷ 112 ∷ 101 ∷ 110 ∷ 45 ∷ 97 ∷ 108 ∷ 114 ∷ 101 ∷ 97 ∷ 100 ∷ 121 ∷ 10 ∷ []
name_text NotOpen = 110 ∷ 111 ∷ 116 ∷ 45 ∷ 111 ∷ 112 ∷ 101 ∷ 110 ∷ 10 ∷ []
name_text Spoiled = 115 ∷ 112 ∷ 111 ∷ 105 ∷ 108 ∷ 101 ∷ 100 ∷ 10 ∷ []
name_text Joining = 106 ∷ 111 ∷ 105 ∷ 110 ∷ 105 ∷ 110 ∷ 103 ∷ 10 ∷ []
name_text OverLimit = 111 ∷ 118 ∷ 101 ∷ 114 ∷ 45 ∷ 108 ∷ 105 ∷ 109 ∷ 105 ∷ 116 ∷ 10 ∷ []
name_text PastLength = 112 ∷ 97 ∷ 115 ∷ 116 ∷ 45 ∷ 108 ∷ 101 ∷ 110 ∷ 103 ∷ 116 ∷ 104 ∷ 10 ∷ []
