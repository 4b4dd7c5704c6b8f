-- A written log, as a function of the records: their bytes one behind the other, cut into payloads, each in its block with the place
-- where the first record begins in it.
use Rattle.std.specs.Prelude.{ℕ, zero, suc, ◌+◌, ◌-◌, ◌/◌, Bool, true, false, cond, List, [], ◌∷◌, ◌++◌, map, ltb, length, take, drop}
use Rattle.lists.specs.Places.{place}
use Rattle.blocks.specs.Block.{PAYLOAD, NONE, block_of}

-- a byte of the records, and whether a record begins there
pub record Mark : Type 0 where
  pub byte : ℕ
  pub begins : Bool

abbrev pub byte_at : Mark → ℕ
byte_at mark = mark.byte

abbrev pub begins_at : Mark → Bool
begins_at mark = mark.begins

abbrev pub inside : ℕ → Mark
inside byte = record { byte = byte; begins = false }

-- a record's bytes
unfoldable pub marked : List ℕ → List Mark
marked [] = []
marked (byte ∷ bytes) = record { byte = byte; begins = true } ∷ map inside bytes

-- the records' bytes one behind the other
unfoldable pub marked_all : List (List ℕ) → List Mark
marked_all [] = []
marked_all (bytes ∷ rest) = marked bytes ++ marked_all rest

-- "place in the payload where the first record begins or 65,535 for none"
unfoldable pub first_place : List Mark → ℕ
first_place marks = cond (ltb (place begins_at marks) (length marks)) (place begins_at marks) NONE

unfoldable pub block_with : ℕ → List Mark → List ℕ
block_with number marks = block_of number (first_place marks) (map byte_at marks)

-- so many blocks, from a number on
unfoldable pub blocks_from : ℕ → ℕ → List Mark → List ℕ
blocks_from zero number marks = []
blocks_from (suc n) number marks = block_with number (take PAYLOAD marks) ++ blocks_from n (suc number) (drop PAYLOAD marks)

-- the blocks for so many bytes: the last may be partly used, and none is left empty
unfoldable pub blocks_for : ℕ → ℕ
blocks_for bytes = (bytes + (PAYLOAD - 1)) / PAYLOAD

-- how many blocks records fill, and these blocks
abbrev pub blocks_in : List (List ℕ) → ℕ
blocks_in records = blocks_for (length (marked_all records))

unfoldable pub written : List (List ℕ) → List ℕ
written records = blocks_from (blocks_in records) 0 (marked_all records)
