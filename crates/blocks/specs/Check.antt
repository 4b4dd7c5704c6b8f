-- "The check is the Internet checksum of RFC 1071 over the block with the check field as 0, words and check low byte first."
use Rattle.std.specs.Prelude.{ℕ, ◌+◌, ◌-◌, ◌*◌, cond, List, [], ◌∷◌, ◌++◌, ltb, take, drop}
use Rattle.lists.specs.Bytes.{zeros}

-- the greatest word
abbrev pub WORD_MAX : ℕ
WORD_MAX = 65535

-- the one's complement sum of two words: a carry out of the top is brought round to the bottom
unfoldable pub carried : ℕ → ℕ → ℕ
carried a b = cond (ltb WORD_MAX (a + b)) (a + b - WORD_MAX) (a + b)

-- the words of bytes, low byte first, summed onto a word. A last byte without a partner has a zero for one
unfoldable pub summed : ℕ → List ℕ → ℕ
summed word [] = word
summed word (low ∷ []) = carried word low
summed word (low ∷ high ∷ bytes) = summed (carried word (low + 256 * high)) bytes

-- where the check stands in a block, and its bytes
abbrev pub CHECK_AT : ℕ
CHECK_AT = 6

abbrev pub CHECK_SIZE : ℕ
CHECK_SIZE = 2

-- the block with the check field as 0
unfoldable pub cleared : List ℕ → List ℕ
cleared block = take CHECK_AT block ++ zeros CHECK_SIZE ++ drop (CHECK_AT + CHECK_SIZE) block

-- the check is the complement of the sum
unfoldable pub check_of : List ℕ → ℕ
check_of block = WORD_MAX - summed 0 (cleared block)
