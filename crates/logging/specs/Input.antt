-- "Records of a two-byte length and a PDU as the walker takes them, length 65,535 a local close with its number in four bytes."
use Rattle.std.specs.Prelude.{ℕ, ◌+◌, List}
use Rattle.records.specs.Records.{LENGTH}
use Rattle.records.specs.Desk.{whole_by}
use Rattle.records.specs.Items.{items_in}
use Rattle.linklog.specs.Records.{Entry, needs_of, entry_in}

-- the bytes of the record at the front, or 0 where no whole record stands there: any length but a close's announces a PDU
unfoldable pub input_whole : List ℕ → ℕ
input_whole input = whole_by needs_of input

-- the most bytes that a record has
abbrev pub INPUT_MAX : ℕ
INPUT_MAX = LENGTH + 65534

-- what the whole records of an input log
abbrev pub entries_in : List ℕ → List Entry
entries_in input = items_in input_whole entry_in input
