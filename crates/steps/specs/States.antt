-- What the statements on steps suppose and say: a state that is in order, an event as reading makes it, and what
-- the rules of one channel say of it.
use Rattle.std.specs.Prelude.{◌≡◌, true, false, ℕ, ◌≤◌, ◌<◌, length}
use Rattle.paper.specs.Sizes.{PARTS, STORE}
use Rattle.channel.specs.Channel.{Act, Did, blank, act}
use Rattle.table.specs.Table.{record_at}
use Rattle.table.specs.Sound.{sound_table}
use Rattle.connection.specs.States.{State, view, room_in, FreePartsAreZero, FineAct}
use Rattle.client.specs.Events.{Event, Unreadable, Capabilities, Of}

-- ---- states

-- sixteen records, a store of its size, a sound table
pub record Sane (st : State) : Type 0 where
  pub rows : length st.table.records ≡ PARTS
  pub bytes : length st.store ≡ STORE
  pub sound : sound_table st.table ≡ true

-- "A freed record is as Start made it."
abbrev pub FreeRecordsAreBlank : State → Type 0
FreeRecordsAreBlank st = (k : ℕ) → k < PARTS → (record_at st.table k).taken ≡ false → record_at st.table k ≡ blank

-- a state that calls reach from Start
pub record Calm (st : State) : Type 0 where
  pub sane : Sane st
  pub zero : FreePartsAreZero st
  pub blank : FreeRecordsAreBlank st

-- ---- events, as reading makes them: a class of two bits, a version from 1 on

abbrev pub FineEvent : Event → Type 0
FineEvent (Unreadable why) = Unit {0}
FineEvent (Capabilities version) = 1 ≤ version
FineEvent (Of n a) = FineAct a

-- ---- what the rules of one channel say of an event of the channel with number n

abbrev pub ruled : ℕ → State → Act → Did
ruled n st a = act st.table.level n (room_in st) (view n st) a
