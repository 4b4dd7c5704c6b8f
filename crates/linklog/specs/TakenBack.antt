-- A log after a loss of power inside an append: it is taken back to the end of the last whole record that reading gives.
use Rattle.std.specs.Prelude.{ℕ, zero, suc, ◌-◌, ◌*◌, ◌/◌, cond, List, [], ◌++◌, ltb, eqb, length, take, drop}
use Rattle.blocks.specs.Block.{BLOCK, NONE, block_of, used_in, place_in, payload_in}
use Rattle.linklog.specs.declared.End.{End}
use Rattle.linklog.specs.Reading.{Course, Seeking, Gave, taken}

-- where no record was whole
abbrev pub no_end : End
no_end = record { blocks = 0; used = 0 }

-- a block in which a record becomes whole holds its end
abbrev pub end_with : End → ℕ → ℕ → Gave → End
end_with end number used gave = cond (eqb (length gave.given) 0) end (record { blocks = suc number; used = used - gave.behind })

unfoldable pub end_after : End → ℕ → List ℕ → Gave → End
end_after end number block gave = end_with end number (used_in block) gave

-- so many blocks, from a number on
unfoldable pub end_from : ℕ → ℕ → Course → End → List ℕ → End
end_from zero number course end file = end
end_from (suc n) number course end file =
    end_from n (suc number)
    (taken (eqb n 0) number course (take BLOCK file)).course
    (end_after end number (take BLOCK file) (taken (eqb n 0) number course (take BLOCK file)))
    (drop BLOCK file)

unfoldable pub end_in : List ℕ → End
end_in file = end_from (length file / BLOCK) 0 Seeking no_end file

-- the block that holds the end, with nothing behind it
unfoldable pub shortened : ℕ → ℕ → List ℕ → List ℕ
shortened number used block = block_of number (cond (ltb (place_in block) used) (place_in block) NONE) (take used (payload_in block))

-- the blocks behind it are gone, and it is written anew
unfoldable pub cut_at : End → List ℕ → List ℕ
cut_at end file =
    cond (eqb end.blocks 0) []
    (take (BLOCK * (end.blocks - 1)) file
    ++ shortened (end.blocks - 1) end.used (take BLOCK (drop (BLOCK * (end.blocks - 1)) file)))

unfoldable pub taken_back : List ℕ → List ℕ
taken_back file = cut_at (end_in file) file
