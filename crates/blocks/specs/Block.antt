-- "512-byte blocks: two bytes block number from 0, two bytes of payload used (0 to 504), two bytes place in the payload where the first
-- record begins or 65,535 for none, two bytes check, then 504 payload bytes, unused ones zero."
use Rattle.std.specs.Prelude.{ℕ, ◌+◌, ◌-◌, Bool, cond, ◌&&◌, ◌||◌, List, ◌++◌, ltb, leb, eqb, length, take, drop}
use Rattle.std.specs.List.{list_all}
use Rattle.lists.specs.Bytes.{zeros, is_zero}
use Rattle.numbers.specs.Numbers.{bytes_of, value_at}
use Rattle.blocks.specs.Check.{check_of}

abbrev pub BLOCK : ℕ
BLOCK = 512

abbrev pub HEAD : ℕ
HEAD = 8

abbrev pub PAYLOAD : ℕ
PAYLOAD = 504

-- the place where no record begins
abbrev pub NONE : ℕ
NONE = 65535

-- ---- a block's bytes from its number, payload and the place of its first record

-- what stands before the check
unfoldable pub head_of : ℕ → ℕ → ℕ → List ℕ
head_of number used place = bytes_of 2 number ++ bytes_of 2 used ++ bytes_of 2 place

-- what stands behind it
unfoldable pub body_of : List ℕ → List ℕ
body_of payload = payload ++ zeros (PAYLOAD - length payload)

unfoldable pub block_of : ℕ → ℕ → List ℕ → List ℕ
block_of number place payload =
    head_of number (length payload) place
    ++ bytes_of 2 (check_of (head_of number (length payload) place ++ zeros 2 ++ body_of payload))
    ++ body_of payload

-- ---- and back

unfoldable pub number_in : List ℕ → ℕ
number_in block = value_at block 0 2

unfoldable pub used_in : List ℕ → ℕ
used_in block = value_at block 2 2

unfoldable pub place_in : List ℕ → ℕ
place_in block = value_at block 4 2

unfoldable pub check_in : List ℕ → ℕ
check_in block = value_at block 6 2

unfoldable pub payload_in : List ℕ → List ℕ
payload_in block = take (used_in block) (drop HEAD block)

-- ---- "A block is bad if its check, number, used count, unused bytes or place (below the used count, or 65,535) break this."

-- "only the last block may be partly used"
unfoldable pub may_use : Bool → ℕ → Bool
may_use last used = cond last (leb used PAYLOAD) (eqb used PAYLOAD)

unfoldable pub may_begin : ℕ → ℕ → Bool
may_begin used place = ltb place used || eqb place NONE

unfoldable pub all_zero : List ℕ → Bool
all_zero bytes = list_all is_zero bytes

unfoldable pub is_good : Bool → ℕ → List ℕ → Bool
is_good last number block =
    eqb (length block) BLOCK
    && eqb (check_in block) (check_of block)
    && eqb (number_in block) number
    && may_use last (used_in block)
    && may_begin (used_in block) (place_in block)
    && all_zero (drop (HEAD + used_in block) block)
