-- The state of a connection: the table with its store, and one channel in it.
use Rattle.std.specs.Prelude.{ℕ, ◌≤◌, ◌<◌, ◌≡◌, Bool, true, false, cond, List, ltb, length}
use Rattle.paper.specs.Sizes.{PART, PARTS, STORE}
use Rattle.lists.specs.Bytes.{zeros}
use Rattle.channel.specs.declared.Record.{Record}
use Rattle.channel.specs.declared.Change.{Change}
use Rattle.channel.specs.declared.Change.TheVariants.{Stays, Becomes, Frees}
use Rattle.channel.specs.declared.Part.{Part}
use Rattle.channel.specs.declared.Part.TheVariants.{Keeps, Takes, Clears}
use Rattle.channel.specs.Channel.{blank, Act, BadCreate, Create, Bring, Garbled, Closing, LocalClose, View, Shut, Open}
use Rattle.channel.specs.Channel.{Room, NoRoom, Spare}
use Rattle.table.specs.declared.Table.{Table}
use Rattle.table.specs.Table.{number_place, free_place, record_at, with_record}
use Rattle.table.specs.Sound.{sound_table}
use Rattle.store.specs.Parts.{part, with_part, block_put, part_cleared}

pub record State : Type 0 where
  pub table : Table
  pub store : List ℕ

abbrev pub state_of : Table → List ℕ → State
state_of table store = record { table = table; store = store }

-- the record at place k with its part, where there is one
unfoldable pub view_at : State → ℕ → View
view_at st k = cond (ltb k PARTS) (Open (record_at st.table k) (part st.store k)) Shut

-- the channel with number n
unfoldable pub view : ℕ → State → View
view n st = view_at st (number_place n st.table)

unfoldable pub room_at : State → ℕ → Room
room_at st k = cond (ltb k PARTS) (Spare (part st.store k)) NoRoom

-- what an opening finds: the lowest free record's part, or no room
unfoldable pub room_in : State → Room
room_in st = room_at st (free_place st.table)

-- a record and its part, put at place k
unfoldable pub wrote : State → ℕ → Record → List ℕ → State
wrote st k r bytes = record { table = with_record st.table k r; store = with_part st.store k bytes }

-- what became of the channel with number n is put back. An opening takes the lowest free record. Closing: "the record is
-- free again, every byte of its part becomes zero"; "A freed record is as Start made it."
unfoldable pub save : ℕ → State → View → View → State
save n st Shut Shut = st
save n st Shut (Open r bytes) = wrote st (free_place st.table) r bytes
save n st (Open old kept) (Open r bytes) = wrote st (number_place n st.table) r bytes
save n st (Open old kept) Shut = wrote st (number_place n st.table) blank (zeros PART)

-- ---- what a reader should know of a state

-- a state that a connection is in once it is ready: sixteen records, a store of its size, a sound table
pub record Steady (st : State) : Type 0 where
  pub rows : length st.table.records ≡ PARTS
  pub bytes : length st.store ≡ STORE
  pub sound : sound_table st.table ≡ true
  pub ready : st.table.ready ≡ true

-- "the parts of free records are zero"
abbrev pub FreePartsAreZero : State → Type 0
FreePartsAreZero st = (k : ℕ) → k < PARTS → (record_at st.table k).taken ≡ false → part st.store k ≡ zeros PART

-- a class of two bits: what reading makes sure of
abbrev pub FineAct : Act → Type 0
FineAct BadCreate = Unit {0}
FineAct (Create listed pri) = pri ≤ 3
FineAct (Bring offer bytes) = Unit {0}
FineAct (Garbled why) = Unit {0}
FineAct Closing = Unit {0}
FineAct LocalClose = Unit {0}

-- ---- the same, as the code puts it back

-- the store with what becomes of the part at place k
unfoldable pub kept : List ℕ → ℕ → Part → List ℕ → List ℕ
kept store k Keeps block = store
kept store k (Takes at) block = block_put store k at block
kept store k Clears block = part_cleared store k

-- whether a channel has a record after a change, from whether it had one
unfoldable pub stands : Bool → Change → Bool
stands taken Stays = taken
stands taken (Becomes r) = true
stands taken Frees = false

-- the place of a channel's record after a change at place k, or the number of records where it has none
unfoldable pub place_after : ℕ → Bool → Change → ℕ
place_after k taken change = cond (stands taken change) k PARTS
