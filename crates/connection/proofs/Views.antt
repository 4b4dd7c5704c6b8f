-- What the searches say of a channel, and a channel put back as it was.
-- Assumes nothing.
use mathlib.Core.Path.{◌≡◌, refl}
use mathlib.Core.List.{List}
use mathlib.Core.Logic.{⊎_elim}
use Prim.Native.Nat.{ℕ, ◌≤◌, ◌<◌}
use borrow.Author.Tests.{lt-ltb, le-ltb}
use lib.ListN.{length, get_or}
use lib.Seq.{set-get_or}
use Rattle.paper.specs.Sizes.{PARTS, STORE}
use Rattle.lists.proofs.Cases.{lt_or_le}
use Rattle.channel.specs.Channel.{blank, Shut, Open, NoRoom, Spare}
use Rattle.table.specs.Table.{number_place, free_place, record_at, placed, with_record}
use Rattle.table.proofs.Recount.{changed_same}
use Rattle.store.specs.Parts.{part, with_part}
use Rattle.store.proofs.Parts.{there, inside, with_own}
use Rattle.connection.specs.States.{State, view_at, view, room_at, room_in, wrote, save}

-- ---- what a search says of the channel

pub view_shut : (n : ℕ) (st : State) (k : ℕ) → k ≡ number_place n st.table → PARTS ≤ k → view n st ≡ Shut
unfolding view view_at
view_shut n st k e h = rw (← e, le-ltb k PARTS h)

pub view_open :
    (n : ℕ) (st : State) (k : ℕ) → k ≡ number_place n st.table → k < PARTS
    → view n st ≡ Open (record_at st.table k) (part st.store k)
unfolding view view_at
view_open n st k e h = rw (← e, lt-ltb k PARTS h)

pub room_none : (st : State) (k : ℕ) → k ≡ free_place st.table → PARTS ≤ k → room_in st ≡ NoRoom
unfolding room_in room_at
room_none st k e h = rw (← e, le-ltb k PARTS h)

pub room_spare : (st : State) (k : ℕ) → k ≡ free_place st.table → k < PARTS → room_in st ≡ Spare (part st.store k)
unfolding room_in room_at
room_spare st k e h = rw (← e, lt-ltb k PARTS h)

-- ---- what is put back

-- a store of its size has each part
pub own_part : (store : List ℕ) (k : ℕ) → length store ≡ STORE → k < PARTS → with_part store k (part store k) ≡ store
own_part store k h l = with_own store k (inside store k (there store k h l))

-- a record and its part put back as they were
pub wrote_own :
    (st : State) (k : ℕ) → length st.store ≡ STORE → k < PARTS → wrote st k (record_at st.table k) (part st.store k) ≡ st
unfolding wrote with_record placed record_at
wrote_own st k h l =
    rw (set-get_or, changed_same st.table.totals (get_or st.table.records k blank), own_part st.store k h l)

-- a channel put back as it was
pub save_own : (n : ℕ) (st : State) → length st.store ≡ STORE → save n st (view n st) (view n st) ≡ st
unfolding save
save_own n st h =
    ⊎_elim
    (λ (l : number_place n st.table < PARTS). rw (view_open n st (number_place n st.table) refl l) (wrote_own st (number_place n
    st.table) h l))
    (λ (l : PARTS ≤ number_place n st.table). rw (view_shut n st (number_place n st.table) refl l))
    (lt_or_le (number_place n st.table) PARTS)
