-- Taking a log up again: after a stop between two appends, and after a loss of power inside one.
use Rattle.std.specs.Prelude.{ℕ, ◌-◌, Bool, true, cond, ◌&&◌, List, leb, eqb, length, take, Result, Ok, Err}
use Rattle.lists.specs.Bytes.{laid}
use Rattle.paper.specs.declared.Refusal.TheVariants.{BadCall}
use Rattle.blocks.specs.Block.{BLOCK, used_in, is_good}
use Rattle.linklog.specs.declared.End.{End}
use Rattle.linklog.specs.Appending.{ROOM, may_be_last}
use Rattle.linklog.specs.TakenBack.{shortened}
use Rattle.paper.specs.declared.Refusal.{Refusal}
use Rattle.linklog.specs.declared.Log.{Log}

-- the empty log, and one whose last block stands at the room's front
abbrev pub empty_log : Result Log Refusal
empty_log = Ok (record { blocks = 0; held = 0 })

abbrev pub last_held : ℕ → Result Log Refusal
last_held blocks = Ok (record { blocks = blocks; held = 1 })

-- "a log can be taken up again after a stop between two appends from its last block"
unfoldable pub taken_up : ℕ → List ℕ → Result Log Refusal
taken_up blocks block = cond (eqb blocks 0) empty_log (cond (is_good true (blocks - 1) block) (last_held blocks) (Err BadCall))

-- the room is of its size, and the block at its front can hold the end
unfoldable pub may_shorten : End → List ℕ → Bool
may_shorten end room =
    leb ROOM (length room) && may_be_last end.blocks (take BLOCK room) && leb end.used (used_in (take BLOCK room))

unfoldable pub took_back : End → List ℕ → Result Log Refusal
took_back end room = cond (eqb end.blocks 0) empty_log (cond (may_shorten end room) (last_held end.blocks) (Err BadCall))

unfoldable pub room_back : End → List ℕ → List ℕ
room_back end room =
    cond (eqb end.blocks 0) room
    (cond (may_shorten end room) (laid room 0 (shortened (end.blocks - 1) end.used (take BLOCK room))) room)
