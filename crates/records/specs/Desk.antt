-- What a record is to the shore's walker, and to both ends in one process: "records of a two-byte little-endian length and what
-- follows", among them what the hosts do.
use Rattle.std.specs.Prelude.{ℕ, ◌+◌, Bool, true, false, cond, List, ltb, eqb, length, take, drop, get_or}
use Rattle.numbers.specs.Numbers.{value_of}
use Rattle.records.specs.Records.{LENGTH, announced}

-- a record by the bytes that it needs, as far as those that are there can tell
unfoldable pub whole_by : (List ℕ → ℕ) → List ℕ → ℕ
whole_by needs input = cond (ltb (length input) (needs input)) 0 (needs input)

-- ---- the shore's walker

-- the lengths that announce no PDU: the host's request, its local open and its local close
abbrev pub REQUEST : ℕ
REQUEST = 65533

abbrev pub OPEN : ℕ
OPEN = 65534

abbrev pub CLOSE : ℕ
CLOSE = 65535

-- behind the length: "the request (version 2 bytes, four charges of 2 bytes, little-endian)"
abbrev pub REQUEST_SIZE : ℕ
REQUEST_SIZE = LENGTH + 10

-- "a local open (class 1 byte, name's length 2 bytes, name)"; this far the name's length can't be told
abbrev pub OPEN_HEAD : ℕ
OPEN_HEAD = LENGTH + 3

-- "a local close (number 4 bytes)"
abbrev pub CLOSE_SIZE : ℕ
CLOSE_SIZE = LENGTH + 4

unfoldable pub name_length : List ℕ → ℕ
name_length input = value_of (take 2 (drop (LENGTH + 1) input))

-- "any other length: a PDU of so many bytes from the client", where PDUs are among the records; else its length is all that
-- is looked at
unfoldable pub desk_needs : Bool → List ℕ → ℕ
desk_needs pdus input =
    cond (ltb (length input) LENGTH) LENGTH
    (cond (eqb (announced input) REQUEST) REQUEST_SIZE
    (cond (eqb (announced input) OPEN) (cond (ltb (length input) OPEN_HEAD) OPEN_HEAD (OPEN_HEAD + name_length input))
    (cond (eqb (announced input) CLOSE) CLOSE_SIZE
    (cond pdus (LENGTH + announced input) LENGTH))))

-- no record needs more than this: a number below 2 ^ 32 behind what tells it
abbrev pub NEEDS_MAX : ℕ
NEEDS_MAX = OPEN_HEAD + 4294967295

unfoldable pub desk_whole : List ℕ → ℕ
desk_whole input = whole_by (desk_needs true) input

-- ---- both ends: "records with one leading byte"

-- "0, a host's record of `desk`; 1, a local close at the panel (number 4 bytes); 2 or 3, a message of the shore's or the
-- panel's host [..]; 4, the link drops"
abbrev pub LEAD : ℕ
LEAD = 1

abbrev pub AT_SHORE : ℕ
AT_SHORE = 0

abbrev pub PANEL_CLOSE : ℕ
PANEL_CLOSE = 1

abbrev pub FROM_SHORE : ℕ
FROM_SHORE = 2

abbrev pub FROM_PANEL : ℕ
FROM_PANEL = 3

abbrev pub DROPS : ℕ
DROPS = 4

unfoldable pub leading : List ℕ → ℕ
leading input = get_or input 0 0

-- "(number 4 bytes, length 2 bytes, message, then one byte: how many of its PDUs are sent, 255 for all)"; this far the
-- message's length can't be told
abbrev pub MESSAGE_HEAD : ℕ
MESSAGE_HEAD = LEAD + 4 + 2

unfoldable pub message_length : List ℕ → ℕ
message_length input = value_of (take 2 (drop (LEAD + 4) input))

unfoldable pub message_needs : List ℕ → ℕ
message_needs input = cond (ltb (length input) MESSAGE_HEAD) MESSAGE_HEAD (MESSAGE_HEAD + message_length input + 1)

-- "Any other leading byte or length": a record of the bytes looked at
unfoldable pub link_needs : List ℕ → ℕ
link_needs input =
    cond (ltb (length input) LEAD) LEAD
    (cond (eqb (leading input) AT_SHORE) (LEAD + desk_needs false (drop LEAD input))
    (cond (eqb (leading input) PANEL_CLOSE) (LEAD + 4)
    (cond (eqb (leading input) FROM_SHORE) (message_needs input)
    (cond (eqb (leading input) FROM_PANEL) (message_needs input) LEAD))))

unfoldable pub link_whole : List ℕ → ℕ
link_whole input = whole_by link_needs input

-- the most bytes that a record has, whatever a record is: those of a message's, with as many as two bytes can announce
abbrev pub RECORD_MAX : ℕ
RECORD_MAX = MESSAGE_HEAD + 65535 + 1
