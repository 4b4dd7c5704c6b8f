-- Cutting: the paper's section "Cutting", sentence by sentence. `total` is the message's length, `at` an offset.
use Rattle.std.specs.Prelude.{ℕ, zero, suc, ◌+◌, ◌-◌, ◌*◌, ◌/◌, ◌%◌, min, Bool, false, cond, not, ◌&&◌, ◌||◌, List, [], ◌∷◌, ltb, eqb, length, take, drop, Result, Ok, Err}
use Rattle.paper.specs.Sizes.{PDU_MAX, MESSAGE_MAX, WHOLE_MAX}
use Rattle.paper.specs.Refusals.{refusal_number}
use Rattle.paper.specs.Rows.{refuse, Row, row, Outcome, done, refusal}
use Rattle.paper.specs.declared.Refusal.{Refusal}
use Rattle.paper.specs.declared.Refusal.TheVariants.{BadCall, OverLimit, NoStart}
use Rattle.numbers.specs.Numbers.{narrowest}
use Rattle.laying.specs.Laying.{data_bytes, data_first_bytes, buffer_after}
use Rattle.cutting.specs.declared.Piece.{Piece}

-- "a message of at most 1,590 bytes is one Data PDU, at offset 0 only. A longer one
-- has at offset 0 a Data First [..]; then [..] a Data"
unfoldable pub is_first : ℕ → ℕ → Bool
is_first total at = ltb WHOLE_MAX total && eqb at 0

-- "its header": the first byte and the number, and in a Data First the Length
unfoldable pub header_len : ℕ → ℕ → ℕ → ℕ
header_len number total at = cond (is_first total at) (1 + narrowest number + narrowest total) (1 + narrowest number)

-- "all of it or 1,600 less its header, the smaller"; "the rest or 1,600 less its header"
unfoldable pub block_len : ℕ → ℕ → ℕ → ℕ
block_len number total at = min (total - at) (PDU_MAX - header_len number total at)

-- where the block ends
unfoldable pub block_end : ℕ → ℕ → ℕ → ℕ
block_end number total at = at + block_len number total at

-- "then, starting just where the block before ended, [..] until the length is reached":
-- whether the offset is among so many starts, of which `at` is the first
unfoldable pub meets : ℕ → ℕ → ℕ → ℕ → ℕ → Bool
meets zero number total offset at = false
meets (suc more) number total offset at =
    eqb at offset || (ltb (block_end number total at) total && meets more number total offset (block_end number total at))

-- the offset is a start of a block: it is met from 0 on, the start of an empty message too. Every
-- block but the last has a byte, so that no message has more starts than this
unfoldable pub is_start : ℕ → ℕ → ℕ → Bool
is_start number total offset = meets (suc total) number total offset 0

-- the block that starts at an offset
unfoldable pub block : ℕ → List ℕ → ℕ → List ℕ
block number message at = take (block_len number (length message) at) (drop at message)

-- and its PDU
unfoldable pub cut_pdu : ℕ → List ℕ → ℕ → List ℕ
cut_pdu number message at =
    cond (is_first (length message) at)
    (data_first_bytes number (length message) (block number message at))
    (data_bytes number (block number message at))

-- what a call answers that isn't refused
abbrev pub piece_of : ℕ → ℕ → Piece
piece_of len next = record { len = len; next = next }

-- "Cutting: 1, 11, 14." 1: the buffer is not of its size; 11: "a message over 4,096"; 14: "Any other offset".
-- "The answer is the PDU's length and the next offset."
unfoldable pub cut_at : ℕ → List ℕ → ℕ → List ℕ → Result Piece Refusal
cut_at number message offset out =
    refuse (Err BadCall) (ltb (length out) PDU_MAX)
    (refuse (Err OverLimit) (ltb MESSAGE_MAX (length message))
    (refuse (Err NoStart) (not (is_start number (length message) offset))
    (Ok (piece_of (length (cut_pdu number message offset)) (block_end number (length message) offset)))))

-- ---- the answer in the paper's terms, and the buffer

-- "the PDU's length and the next offset"
pub record Lengths : Type 0 where
  pub pdu : ℕ
  pub next : ℕ

unfoldable pub outcome : Result Piece Refusal → Outcome Lengths
outcome (Ok piece) = done (record { pdu = piece.len; next = piece.next })
outcome (Err why) = refusal (refusal_number why)

unfoldable pub cut_buffer : ℕ → List ℕ → ℕ → List ℕ → List ℕ
cut_buffer number message offset out =
    buffer_after (outcome (cut_at number message offset out)) (cut_pdu number message offset) out

-- ---- the refusals as rows

-- at a start
abbrev pub lengths_at : ℕ → List ℕ → ℕ → Lengths
lengths_at number message offset =
    record { pdu = length (cut_pdu number message offset); next = block_end number (length message) offset }

-- "Cutting: 1, 11, 14."
unfoldable pub cutting_rows : ℕ → List ℕ → ℕ → List ℕ → List Row
cutting_rows number message offset out =
    row BadCall (ltb (length out) PDU_MAX)
    ∷ row OverLimit (ltb MESSAGE_MAX (length message))
    ∷ row NoStart (not (is_start number (length message) offset))
    ∷ []

-- ---- the answer as one number: "The panel's host program is in C and calls the cutter with numbers and byte
-- slices."

-- what one byte of a PDU's length counts in it: more than any next offset
unfoldable pub LENGTH_UNIT : ℕ
LENGTH_UNIT = 65536

unfoldable pub packed : Result Piece Refusal → ℕ
packed (Ok piece) = piece.len * LENGTH_UNIT + piece.next
packed (Err why) = refusal_number why

-- cutting's three refusals by their numbers
unfoldable pub refusal_of : ℕ → Refusal
refusal_of n =
    cond (eqb n (refusal_number BadCall)) BadCall
    (cond (eqb n (refusal_number OverLimit)) OverLimit NoStart)

-- how the host reads it
unfoldable pub unpacked : ℕ → Result Piece Refusal
unpacked n = cond (ltb n LENGTH_UNIT) (Err (refusal_of n)) (Ok (piece_of (n / LENGTH_UNIT) (n % LENGTH_UNIT)))
