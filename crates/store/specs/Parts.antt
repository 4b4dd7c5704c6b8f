-- The store in parts: "record k (0 to 15) owns bytes 4,096 × k to 4,096 × k + 4,095."
use Rattle.std.specs.Prelude.{ℕ, ◌*◌, Bool, cond, ◌&&◌, List, ltb, eqb, length, take, drop}
use Rattle.paper.specs.Sizes.{PART, PARTS, STORE}
use Rattle.lists.specs.Bytes.{laid, zeros}

-- part k of the store
unfoldable pub part : List ℕ → ℕ → List ℕ
part store k = take PART (drop (PART * k) store)

-- the store with other bytes in part k
unfoldable pub with_part : List ℕ → ℕ → List ℕ → List ℕ
with_part store k bytes = laid store (PART * k) bytes

-- "The store is exactly 65,536 bytes", and has sixteen parts
unfoldable pub has_part : ℕ → ℕ → Bool
has_part size k = eqb size STORE && ltb k PARTS

-- a block in part k from a place on; "bytes behind them stay"
unfoldable pub block_put : List ℕ → ℕ → ℕ → List ℕ → List ℕ
block_put store k at block = cond (has_part (length store) k) (with_part store k (laid (part store k) at block)) store

-- "every byte of its part becomes zero"
unfoldable pub part_cleared : List ℕ → ℕ → List ℕ
part_cleared store k = cond (has_part (length store) k) (with_part store k (zeros PART)) store
