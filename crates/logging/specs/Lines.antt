-- "A line `pdu LENGTH HEX` (lower case, `-` for no bytes) or `close NUMBER` for each record."
use Rattle.std.specs.Prelude.{ℕ, ◌*◌, List, [], ◌∷◌, ◌++◌, length}
use Rattle.lines.specs.Decimal.{field}
use Rattle.lines.specs.Hex.{bytes_field}
use Rattle.lines.specs.Lines.{SPACE, LF}
use Rattle.records.specs.Items.{items_in}
use Rattle.linklog.specs.Records.{Entry, Received, Closed, logged_whole, entry_in}
use Rattle.linklog.specs.Appending.{ROOM}

-- "pdu "
abbrev pub PDU : List ℕ
PDU = 112 ∷ 100 ∷ 117 ∷ 32 ∷ []

-- "close "
abbrev pub CLOSE : List ℕ
CLOSE = 99 ∷ 108 ∷ 111 ∷ 115 ∷ 101 ∷ 32 ∷ []

unfoldable pub entry_line : Entry → List ℕ
entry_line (Received pdu) = ((PDU ++ field (length pdu) SPACE) ++ bytes_field pdu) ++ (LF ∷ [])
entry_line (Closed number) = CLOSE ++ field number LF

unfoldable pub lines_of : List Entry → List ℕ
lines_of [] = []
lines_of (entry ∷ entries) = entry_line entry ++ lines_of entries

-- the lines of the whole records at the front of bytes
unfoldable pub said_of : List ℕ → List ℕ
said_of records = lines_of (items_in logged_whole entry_in records)

-- the most bytes of text for a byte of records: the line of a record of two bytes has at most 27, with a number's field for its length
abbrev pub TEXT_PER_BYTE : ℕ
TEXT_PER_BYTE = 14

-- and for a room of them, which is the most that a turn gives
abbrev pub SAID_MAX : ℕ
SAID_MAX = TEXT_PER_BYTE * ROOM
