-- A block made anew of the first bytes of its payload and of bytes behind them.
use Rattle.std.specs.Prelude.{ℕ, Bool, cond, ◌&&◌, List, ◌++◌, leb, eqb, length, take, drop}
use Rattle.lists.specs.Bytes.{laid}
use Rattle.numbers.specs.Numbers.{bytes_of}
use Rattle.blocks.specs.Check.{WORD_MAX, CHECK_AT, CHECK_SIZE, check_of}
use Rattle.blocks.specs.Block.{BLOCK, HEAD, PAYLOAD, head_of, block_of}

-- the payload: bytes that it has no room for fall away
unfoldable pub joined_to : ℕ → List ℕ → List ℕ → List ℕ
joined_to used bytes block = take PAYLOAD (take used (drop HEAD block) ++ bytes)

-- the head laid over a block's own, with the check of what the block is then
unfoldable pub headed : ℕ → ℕ → ℕ → List ℕ → List ℕ
headed number used place block =
    laid (laid block 0 (head_of number used place)) CHECK_AT (bytes_of CHECK_SIZE (check_of (laid block 0 (head_of number used place))))

-- there is a block, and the numbers are words
unfoldable pub may_seal : ℕ → ℕ → ℕ → List ℕ → Bool
may_seal number place used block =
    eqb (length block) BLOCK && leb used PAYLOAD && leb number WORD_MAX && leb place WORD_MAX

-- else it stays as it is
unfoldable pub sealed : ℕ → ℕ → ℕ → List ℕ → List ℕ → List ℕ
sealed number place used bytes block =
    cond (may_seal number place used block) (block_of number place (joined_to used bytes block)) block
