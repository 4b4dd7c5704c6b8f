-- What an append writes: of the log it sees how many blocks there are, and the last one.
use Rattle.std.specs.Prelude.{ℕ, zero, suc, ◌+◌, ◌-◌, ◌*◌, ◌/◌, Bool, cond, ◌&&◌, ◌||◌, ltb, leb, eqb}
use Rattle.std.specs.Prelude.{List, [], ◌∷◌, ◌++◌, length, take, drop, Result, Ok, Err}
use Rattle.lists.specs.Bytes.{laid}
use Rattle.paper.specs.declared.Refusal.TheVariants.{BadCall, LogFull}
use Rattle.blocks.specs.Block.{BLOCK, PAYLOAD, NONE, block_of, number_in, used_in, place_in, payload_in}
use Rattle.linklog.specs.Written.{blocks_for}
use Rattle.linklog.specs.Reading.{BLOCKS_MAX}
use Rattle.linklog.specs.declared.Log.{Log}
use Rattle.paper.specs.declared.Refusal.{Refusal}

-- so many blocks of a payload, the first with a place, in the others no record begins
unfoldable pub chained : ℕ → ℕ → ℕ → List ℕ → List ℕ
chained zero number place payload = []
chained (suc n) number place payload =
    block_of number place (take PAYLOAD payload) ++ chained n (suc number) NONE (drop PAYLOAD payload)

-- where there is no last block, or it is full, a new one is begun
unfoldable pub begun : ℕ → List ℕ → Bool
begun blocks last = eqb blocks 0 || eqb (used_in last) PAYLOAD

-- the first block that an append touches: its number,
unfoldable pub first_touched : ℕ → List ℕ → ℕ
first_touched blocks last = cond (begun blocks last) blocks (blocks - 1)

-- its payload so far,
unfoldable pub payload_so_far : ℕ → List ℕ → List ℕ
payload_so_far blocks last = cond (begun blocks last) [] (payload_in last)

-- and the place of its first record, which is this one if none begins there so far
unfoldable pub place_then : ℕ → List ℕ → ℕ
place_then blocks last =
    cond (begun blocks last) 0
    (cond (eqb (place_in last) NONE) (used_in last) (place_in last))

-- how many blocks an append touches
unfoldable pub touched : ℕ → List ℕ → List ℕ → ℕ
touched blocks last bytes = blocks_for (length (payload_so_far blocks last) + length bytes)

-- the blocks that it puts
unfoldable pub put_blocks : ℕ → List ℕ → List ℕ → List ℕ
put_blocks blocks last bytes =
    chained (touched blocks last bytes) (first_touched blocks last) (place_then blocks last) (payload_so_far blocks last ++ bytes)

-- ---- the room that the writer is lent: the block being filled, and as many more as one record can touch

abbrev pub HELD_MAX : ℕ
HELD_MAX = 5

abbrev pub ROOM : ℕ
ROOM = HELD_MAX * BLOCK

-- where the log's last block stands in it
unfoldable pub last_at : Log → ℕ
last_at log = BLOCK * (log.held - 1)

unfoldable pub last_in : Log → List ℕ → List ℕ
last_in log room = take BLOCK (drop (last_at log) room)

-- a block may be the last of so many
unfoldable pub may_be_last : ℕ → List ℕ → Bool
may_be_last blocks block = eqb (number_in block + 1) blocks && leb (used_in block) PAYLOAD

-- the room is of its size, and has the last block of a log that isn't empty
unfoldable pub is_lent : Log → List ℕ → Bool
is_lent log room =
    leb ROOM (length room)
    && (eqb log.blocks 0 || leb 1 log.held && leb log.held HELD_MAX && may_be_last log.blocks (last_in log room))

-- ---- what an append answers, and what it leaves in the room

-- "21, the record doesn't fit in 65,536 blocks, nothing written": a payload, in blocks from a number on
unfoldable pub filled_to : ℕ → List ℕ → Result Log Refusal
filled_to number payload =
    cond (ltb BLOCKS_MAX (number + blocks_for (length payload))) (Err LogFull)
    (Ok (record { blocks = number + blocks_for (length payload); held = blocks_for (length payload) }))

unfoldable pub filled_with : ℕ → ℕ → List ℕ → List ℕ → List ℕ
filled_with number place payload room =
    cond (ltb BLOCKS_MAX (number + blocks_for (length payload))) room
    (laid room 0 (chained (blocks_for (length payload)) number place payload))

-- the payload from the first block that is touched on
unfoldable pub payload_then : Log → List ℕ → List ℕ → List ℕ
payload_then log room bytes = payload_so_far log.blocks (last_in log room) ++ bytes

unfoldable pub answer_for : Log → List ℕ → List ℕ → Result Log Refusal
answer_for log room bytes =
    cond (is_lent log room) (filled_to (first_touched log.blocks (last_in log room)) (payload_then log room bytes)) (Err BadCall)

unfoldable pub room_then : Log → List ℕ → List ℕ → List ℕ
room_then log room bytes =
    cond (is_lent log room)
    (filled_with (first_touched log.blocks (last_in log room)) (place_then log.blocks (last_in log room)) (payload_then log room bytes) room)
    room

-- ---- a log that is written append by append. Whatever stops and restarts lie between two, the file is all that an append finds

unfoldable pub last_block : List ℕ → List ℕ
last_block file = take BLOCK (drop (BLOCK * (length file / BLOCK - 1)) file)

-- the number of the first block that an append to a file touches, how many it touches, and what it puts there
unfoldable pub first_in : List ℕ → ℕ
first_in file = first_touched (length file / BLOCK) (last_block file)

unfoldable pub touched_in : List ℕ → List ℕ → ℕ
touched_in file bytes = touched (length file / BLOCK) (last_block file) bytes

unfoldable pub put_to : List ℕ → List ℕ → List ℕ
put_to file bytes = put_blocks (length file / BLOCK) (last_block file) bytes

-- the file then
unfoldable pub appended_to : List ℕ → List ℕ → List ℕ
appended_to file bytes = take (BLOCK * first_in file) file ++ put_to file bytes

-- and after an append of each record in turn
unfoldable pub appended_all : List ℕ → List (List ℕ) → List ℕ
appended_all file [] = file
appended_all file (bytes ∷ rest) = appended_all (appended_to file bytes) rest

-- the file where power is lost after so many of the blocks are put
unfoldable pub part_appended : ℕ → List ℕ → List ℕ → List ℕ
part_appended n file bytes =
    take (BLOCK * first_in file) file
    ++ take (BLOCK * n) (put_to file bytes)
    ++ drop (BLOCK * (first_in file + n)) file
