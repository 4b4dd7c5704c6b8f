-- Cmd, the high four bits of a PDU's first byte.
use Rattle.std.specs.Prelude.{ℕ}

abbrev pub CREATE : ℕ
CREATE = 1

abbrev pub DATA_FIRST : ℕ
DATA_FIRST = 2

abbrev pub DATA : ℕ
DATA = 3

abbrev pub CLOSE : ℕ
CLOSE = 4

abbrev pub CAPABILITIES : ℕ
CAPABILITIES = 5

-- "Not in: commands 6 and 7 (compressed)". They have a number where Data First and Data have it.
abbrev pub DATA_FIRST_COMPRESSED : ℕ
DATA_FIRST_COMPRESSED = 6

abbrev pub DATA_COMPRESSED : ℕ
DATA_COMPRESSED = 7
