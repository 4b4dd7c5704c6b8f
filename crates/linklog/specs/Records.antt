-- The records of the log: what is logged, its bytes, and how a record is told at the front of bytes.
use Rattle.std.specs.Prelude.{ℕ, ◌+◌, Bool, cond, not, ◌&&◌, List, ◌++◌, ltb, leb, eqb, length, take, drop}
use Rattle.numbers.specs.Numbers.{bytes_of, value_at}
use Rattle.records.specs.Records.{LENGTH, announced}
use Rattle.records.specs.Desk.{CLOSE, CLOSE_SIZE, whole_by}

-- what is logged: a received PDU, or the local close of a number
pub data Entry : Type 0 where
  Received : List ℕ → Entry
  Closed : ℕ → Entry

-- "longer ones cut to 1,601 bytes"
abbrev pub CUT : ℕ
CUT = 1601

-- "A record is a two-byte length (0 to 1,601) and the PDU, longer ones cut to 1,601 bytes; a local close is logged as length 65,535 and
-- the number in four bytes."
unfoldable pub pdu_record : List ℕ → List ℕ
pdu_record pdu = bytes_of LENGTH (length pdu) ++ pdu

unfoldable pub close_record : ℕ → List ℕ
close_record number = bytes_of LENGTH CLOSE ++ bytes_of 4 number

unfoldable pub record_of : Entry → List ℕ
record_of (Received pdu) = pdu_record (take CUT pdu)
record_of (Closed number) = close_record number

-- the most bytes that a record has
abbrev pub RECORD_MAX : ℕ
RECORD_MAX = LENGTH + CUT

-- ---- and back

-- how many bytes the record at the front needs, as far as those that are there can tell
unfoldable pub needs_of : List ℕ → ℕ
needs_of input =
    cond (ltb (length input) LENGTH) LENGTH
    (cond (eqb (announced input) CLOSE) CLOSE_SIZE (LENGTH + announced input))

-- "a length that no record has"
unfoldable pub is_stray : List ℕ → Bool
is_stray input = leb LENGTH (length input) && ltb CUT (announced input) && not (eqb (announced input) CLOSE)

-- the bytes of the record at the front, or 0 where no whole record stands there
unfoldable pub logged_whole : List ℕ → ℕ
logged_whole input = cond (is_stray input) 0 (whole_by needs_of input)

-- what a record's bytes log
unfoldable pub entry_in : List ℕ → Entry
entry_in bytes = cond (eqb (announced bytes) CLOSE) (Closed (value_at bytes LENGTH 4)) (Received (drop LENGTH bytes))

-- what is logged of an entry
unfoldable pub as_logged : Entry → Entry
as_logged (Received pdu) = Received (take CUT pdu)
as_logged (Closed number) = Closed number
