-- "The walker program reads PDUs from standard input, each after its length in two bytes, little-endian."
use Rattle.std.specs.Prelude.{ℕ, ◌+◌, ◌^◌, cond, Option, None, Some, List, eqb, ltb, length, take, drop}
use Rattle.numbers.specs.Numbers.{value_of}

-- the bytes of a record's length
abbrev pub LENGTH : ℕ
LENGTH = 2

-- the length that a record announces
unfoldable pub announced : List ℕ → ℕ
announced input = value_of (take LENGTH input)

-- the bytes of the record at the front, its length among them, or 0 where no whole record stands there
unfoldable pub whole_of : List ℕ → ℕ
whole_of input =
    cond (ltb (length input) LENGTH) 0
    (cond (ltb (length input) (LENGTH + announced input)) 0
    (LENGTH + announced input))

-- a number of bytes as a program has it: 0 stands for none
unfoldable pub found : ℕ → Option ℕ
found n = cond (eqb n 0) None (Some n)

-- the PDU of a record
unfoldable pub pdu_in : List ℕ → List ℕ
pdu_in bytes = drop LENGTH bytes

-- places of records are counted in 64 bits, which no run uses up
abbrev pub PLACES : ℕ
PLACES = 2 ^ 64
