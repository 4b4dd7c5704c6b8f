-- Reading block by block, as the reader's room has it: the whole records at its front, and behind them what isn't whole.
use Rattle.std.specs.Prelude.{ℕ, zero, suc, ◌-◌, ◌/◌, ◌≡◌, Bool, true, false, cond, ◌&&◌, ltb, leb, eqb}
use Rattle.std.specs.Prelude.{List, [], ◌∷◌, ◌++◌, length, take, drop, Result, Ok, Err}
use Rattle.lists.specs.Bytes.{laid}
use Rattle.paper.specs.declared.Refusal.TheVariants.{BadCall}
use Rattle.records.specs.Walks.{records_of, size_of}
use Rattle.records.specs.Items.{all_of}
use Rattle.blocks.specs.Block.{BLOCK, NONE, place_in, payload_in, is_good}
use Rattle.linklog.specs.declared.End.{End}
use Rattle.linklog.specs.declared.Reader.{Reader}
use Rattle.linklog.specs.Records.{RECORD_MAX, is_stray, logged_whole}
use Rattle.linklog.specs.Reading.{Course, Seeking, Within, Gave, taken}
use Rattle.linklog.specs.TakenBack.{no_end, end_after}
use Rattle.linklog.specs.Appending.{ROOM}
use Rattle.paper.specs.declared.Refusal.{Refusal}

-- before the first block
abbrev pub at_first : Reader
at_first = record { within = false; whole = 0; behind = 0; end = no_end }

-- the room is of its size, and what the reader says of it can be
unfoldable pub is_reader : Reader → List ℕ → Bool
is_reader reader room =
    leb ROOM (length room)
    && leb reader.whole ROOM
    && leb reader.behind (ROOM - reader.whole)
    && ltb reader.behind RECORD_MAX

-- where reading stands
unfoldable pub course_in : Reader → List ℕ → Course
course_in reader room = cond reader.within (Within (take reader.behind (drop reader.whole room))) Seeking

unfoldable pub is_within : Course → Bool
is_within Seeking = false
is_within (Within left) = true

-- the bytes that a good block brings to be gone through
unfoldable pub brought_by : Course → List ℕ → List ℕ
brought_by Seeking block = cond (eqb (place_in block) NONE) [] (drop (place_in block) (payload_in block))
brought_by (Within left) block = left ++ payload_in block

-- the block of a number, of so many
unfoldable pub is_last_of : ℕ → ℕ → Bool
is_last_of blocks number = eqb (suc number) blocks

-- what the block gives to a reader
unfoldable pub gave_to : Reader → ℕ → ℕ → List ℕ → List ℕ → Gave
gave_to reader blocks number block room = taken (is_last_of blocks number) number (course_in reader room) block

-- where the reader stands then
abbrev pub reader_at : End → Gave → Reader
reader_at end gave = record { within = is_within gave.course; whole = size_of gave.given; behind = gave.behind; end = end }

abbrev pub reader_with : Reader → ℕ → List ℕ → Gave → Reader
reader_with reader number block gave = reader_at (end_after reader.end number block gave) gave

unfoldable pub turned_to : Reader → ℕ → ℕ → List ℕ → List ℕ → Result Reader Refusal
turned_to reader blocks number block room =
    cond (is_reader reader room) (Ok (reader_with reader number block (gave_to reader blocks number block room))) (Err BadCall)

unfoldable pub room_after : Reader → ℕ → ℕ → List ℕ → List ℕ → List ℕ
room_after reader blocks number block room =
    cond (is_reader reader room && is_good (is_last_of blocks number) number block) (laid room 0 (brought_by (course_in reader room) block)) room

-- ---- turn by turn

-- what reading has of a record isn't whole, and can become so
abbrev pub Unfinished : Course → Type 0
Unfinished Seeking = Unit {0}
Unfinished (Within left) = (logged_whole left ≡ 0) × (is_stray left ≡ false)

-- a reader and its room, as turns leave them, stand there
pub record StandsAt (reader : Reader) (room : List ℕ) (course : Course) : Type 0 where
  pub can_be : is_reader reader room ≡ true
  pub stands : course_in reader room ≡ course
  pub unfinished : Unfinished course

-- the bytes of the whole records that stand at the room's front
abbrev pub whole_in : Reader → List ℕ → List ℕ
whole_in reader room = take reader.whole room

-- what a turn does with what its block gives: at the front of the room stand the bytes of these records alone, and the reader stands behind
-- the block
abbrev pub Gives : Reader → ℕ → List ℕ → Gave → Result Reader Refusal → List ℕ → Type 0
Gives reader number block gave answer room =
    (answer ≡ Ok (reader_with reader number block gave))
    × ((records_of logged_whole (whole_in (reader_with reader number block gave) room) ≡ gave.given)
    × ((whole_in (reader_with reader number block gave) room ≡ all_of gave.given)
    × StandsAt (reader_with reader number block gave) room gave.course))

-- what turns gave: the bytes of whole records after each, and the reader and its room at the end
pub record Turns : Type 0 where
  pub gave : List (List ℕ)
  pub reader : Reader
  pub room : List ℕ

-- a turn goes on with its reader, or where it is refused it is the last
unfoldable pub gone_on : Result Reader Refusal → (Reader → Turns) → Turns → Turns
gone_on (Ok reader) onward here = onward reader
gone_on (Err why) onward here = here

-- so many blocks of a file, from a number on
unfoldable pub turned_from : ℕ → ℕ → ℕ → Reader → List ℕ → List ℕ → Turns
turned_from zero blocks number reader room file = record { gave = []; reader = reader; room = room }
turned_from (suc n) blocks number reader room file =
    let then = room_after reader blocks number (take BLOCK file) room in
    gone_on (turned_to reader blocks number (take BLOCK file) room)
    (λ next.
    let later = turned_from n blocks (suc number) next then (drop BLOCK file) in
    record { gave = whole_in next then ∷ later.gave; reader = later.reader; room = later.room })
    (record { gave = []; reader = reader; room = then })

-- all of them, from before the first on
unfoldable pub turned_over : List ℕ → List ℕ → Turns
turned_over room file = turned_from (length file / BLOCK) (length file / BLOCK) 0 at_first room file

-- the records of bytes that come turn by turn
unfoldable pub records_by_turn : List (List ℕ) → List (List ℕ)
records_by_turn [] = []
records_by_turn (bytes ∷ rest) = records_of logged_whole bytes ++ records_by_turn rest
