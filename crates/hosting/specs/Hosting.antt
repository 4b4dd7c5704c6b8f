-- A record of the desk as a call at the shore: "65,533: the request [..]; 65,534: a local open [..]; 65,535: a local close [..];
-- any other length: a PDU of so many bytes from the client".
use Rattle.std.specs.Prelude.{ℕ, ◌+◌, cond, List, eqb, drop, get_or}
use Rattle.paper.specs.Sizes.{PARTS}
use Rattle.numbers.specs.Numbers.{value_of, value_at}
use Rattle.reading.specs.declared.Charges.{Charges}
use Rattle.reading.specs.Reading.{charges_at}
use Rattle.records.specs.Records.{LENGTH, announced, pdu_in}
use Rattle.records.specs.Desk.{REQUEST, OPEN, CLOSE, OPEN_HEAD}
use Rattle.shore.specs.declared.Shore.{Shore}
use Rattle.shore.specs.declared.Sending.{Sending}
use Rattle.shore.specs.declared.Given.{Given}
use Rattle.shore.specs.Shore.{Whole, Sends, received, locally_closed, requested, locally_opened}

-- "the request (version 2 bytes, four charges of 2 bytes, little-endian)"
unfoldable pub version_in : List ℕ → ℕ
version_in bytes = value_at bytes LENGTH 2

unfoldable pub charges_in : List ℕ → Charges
charges_in bytes = charges_at bytes (LENGTH + 2)

-- "a local open (class 1 byte, name's length 2 bytes, name)"
unfoldable pub class_in : List ℕ → ℕ
class_in bytes = get_or bytes LENGTH 0

abbrev pub name_in : List ℕ → List ℕ
name_in bytes = drop OPEN_HEAD bytes

-- "a local close (number 4 bytes)"
abbrev pub close_in : List ℕ → ℕ
close_in bytes = value_of (drop LENGTH bytes)

-- a call that isn't lent the store leaves it, and has no message in it
unfoldable pub storeless : Sending → Given
storeless s = record { shore = s.shore; said = s.said; sent = s.sent; place = PARTS }

abbrev pub leaving : List ℕ → Sends → Whole
leaving store s = record { result = storeless s.result; store = store; reply = s.out }

-- the call, with a buffer for what is sent
unfoldable pub hosted : Shore → List ℕ → List ℕ → List ℕ → Whole
hosted shore store bytes buffer =
    cond (eqb (announced bytes) REQUEST) (leaving store (requested shore (version_in bytes) (charges_in bytes) buffer))
    (cond (eqb (announced bytes) OPEN) (leaving store (locally_opened shore (name_in bytes) (class_in bytes) buffer))
    (cond (eqb (announced bytes) CLOSE) (locally_closed shore store (close_in bytes) buffer)
    (received shore store (pdu_in bytes) buffer)))
