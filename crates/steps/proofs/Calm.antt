-- Every state that calls reach from Start is calm: sixteen records, a store of its size, a sound table, and free records and
-- their parts as Start made them. So refusal 1 for an unsound table never comes up there.
-- Assumes nothing.
use Rattle.std.specs.Prelude.{Option, None, Some}
use mathlib.Core.Path.{◌≡◌, refl}
use mathlib.Core.Logic.{◌⊎◌, inl, inr, ⊎_elim}
use mathlib.Core.Bool.{Bool, true, false}
use mathlib.Core.List.{List}
use Prim.Native.Nat.{ℕ, ◌≤◌, ◌<◌, min}
use native.Mathlib.Omega.{arith}
use lib.ListN.{length}
use Rattle.paper.specs.Sizes.{PARTS, STORE}
use Rattle.paper.specs.declared.Refusal.{Refusal}
use Rattle.lists.specs.Bytes.{zeros}
use Rattle.lists.proofs.Cases.{choice, lt_or_le}
use Rattle.lists.proofs.Laid.{length_zeros}
use Rattle.store.proofs.Parts.{zeros_part}
use Rattle.reading.specs.Reading.{read_pdu}
use Rattle.reading.specs.Said.{bytes_at}
use Rattle.reading.specs.Garbled.{carries}
use Rattle.reading.specs.declared.Pdu.{Pdu}
use Rattle.reading.specs.declared.Pdu.TheVariants.{CreateRequest, CreateResponse, DataFirst, Data, Close, CapsRequest, CapsResponse, Refused}
use Rattle.reading.proofs.Placed.{Placed, placed}
use Rattle.listeners.specs.Listeners.{good_list}
use Rattle.channel.specs.Channel.{LocalClose}
use Rattle.table.specs.declared.Table.{Table}
use Rattle.table.specs.Table.{empty_table, record_at}
use Rattle.table.specs.Sound.{sound_table}
use Rattle.table.proofs.Soundness.{sound_empty, sound_ready}
use Rattle.connection.specs.States.{State, state_of, Steady, FreePartsAreZero, FineAct}
use Rattle.client.specs.Events.{Event, Unreadable, Capabilities, Of, create_act, unread, event_of}
use Rattle.client.specs.Client.{readied, stepped, bad_call, whole_of, guarded, received, locally_closed}
use Rattle.client.proofs.Steps.{too_early, made_ready}
use Rattle.client.proofs.Calls.{proper, refuses, passes}
use Rattle.steps.specs.States.{FreeRecordsAreBlank, Sane, Calm, FineEvent}
use Rattle.steps.proofs.Channels.{step_steady, step_clear}
use Rattle.steps.proofs.Blank.{blank_start, step_blank}

-- a sane state that is ready is steady, and the other way
pub sane_steady : (st : State) → Sane st → st.table.ready ≡ true → Steady st
sane_steady st c r = record { rows = c.rows; bytes = c.bytes; sound = c.sound; ready = r }

pub steady_sane : (st : State) → Steady st → Sane st
steady_sane st g = record { rows = g.rows; bytes = g.bytes; sound = g.sound }

-- what Start leaves
empty_rows : length empty_table.records ≡ PARTS
unfolding empty_table PARTS
empty_rows = refl

pub calm_start : Calm (state_of empty_table (zeros STORE))
calm_start = record { sane = record { rows = empty_rows; bytes = length_zeros STORE; sound = sound_empty }; zero = λ k l u. zeros_part k l; blank = λ k l u. blank_start k l }

-- the smaller of a version from 1 on and 2
pub level_good : (version : ℕ) → 1 ≤ version → (min version 2 ≡ 1) ⊎ (min version 2 ≡ 2)
level_good version h = ⊎_elim (λ (l : version < 2). inl (omega arith)) (λ (l : 2 ≤ version). inr (omega arith)) (lt_or_le version 2)

-- what holds of the next state in time and out of time holds of it
by_time :
    (P : State → Type 0) (st : State) (e : Event) → FineEvent e → P st
    → ((version : ℕ) → 1 ≤ version → st.table.ready ≡ false → P (readied st version).state)
    → (st.table.ready ≡ true → P (stepped st e).state) → P (stepped st e).state
unfolding stepped
by_time P st (Unreadable why) z p c r = p
by_time P st (Capabilities version) z p c r = go st.table.ready refl
  where
    go : (t : Bool) → st.table.ready ≡ t → P (stepped st (Capabilities version)).state
    go true e = r e
    go false e = rw (made_ready st version e) (c version z e)
by_time P st (Of n a) z p c r = go st.table.ready refl
  where
    go : (t : Bool) → st.table.ready ≡ t → P (stepped st (Of n a)).state
    go true e = r e
    go false e = rw (too_early st n a e) p

-- every event leaves a sane state sane
pub sane_step : (st : State) → Sane st → (e : Event) → FineEvent e → Sane (stepped st e).state
unfolding readied
sane_step st c e z =
    by_time Sane st e z c
    (λ version h r. record { rows = c.rows; bytes = c.bytes; sound = sound_ready st.table (min version 2) c.sound (level_good version h) })
    (λ r. steady_sane (stepped st e).state (step_steady st (sane_steady st c r) e z))

-- and a calm one calm
pub calm_step : (st : State) → Calm st → (e : Event) → FineEvent e → Calm (stepped st e).state
unfolding readied record_at
calm_step st c e z =
    record {
      sane = sane_step st c.sane e z;
      zero = by_time FreePartsAreZero st e z c.zero (λ version h r. c.zero) (λ r. step_clear st (sane_steady st c.sane r) e z c.zero);
      blank = by_time FreeRecordsAreBlank st e z c.blank (λ version h r. c.blank) (λ r. step_blank st (sane_steady st c.sane r) c.blank e z);
    }

-- ---- what is read in a PDU is fine

pub fine_create : (list name : List ℕ) (pri : ℕ) → pri ≤ 3 → FineAct (create_act list name pri)
unfolding create_act
fine_create list name pri h = choice FineAct (good_list list) (λ e. h) (λ e. tt)

fine_unread : (why : Refusal) (carried : Option ℕ) → FineEvent (unread why carried)
unfolding unread
fine_unread why None = tt
fine_unread why (Some n) = tt

fine_read : (list pdu : List ℕ) (p : Pdu) → Placed pdu p → FineEvent (event_of list pdu p)
unfolding event_of
fine_read list pdu (CreateRequest n class name) h = fine_create list (bytes_at pdu name) class h.1
fine_read list pdu (CreateResponse n status) h = tt
fine_read list pdu (DataFirst n len block) h = tt
fine_read list pdu (Data n block) h = tt
fine_read list pdu (Close n) h = tt
fine_read list pdu (CapsRequest version charges) h = h.0
fine_read list pdu (CapsResponse version) h = tt
fine_read list pdu (Refused why) h = fine_unread why (carries pdu)

pub fine_pdu : (list pdu : List ℕ) → FineEvent (event_of list pdu (read_pdu true pdu))
fine_pdu list pdu = fine_read list pdu (read_pdu true pdu) (placed pdu true)

-- ---- calls

-- the table after a call
guarded_sound :
    (t : Table) (store reply : List ℕ) (e : Event) → FineEvent e → length t.records ≡ PARTS → sound_table t ≡ true
    → sound_table (guarded t store reply (stepped (state_of t store) e)).result.table ≡ true
unfolding whole_of
guarded_sound t store reply e z rows sound = go (bad_call t (length store) (length reply)) refl
  where
    go :
        (b : Bool) → bad_call t (length store) (length reply) ≡ b
        → sound_table (guarded t store reply (stepped (state_of t store) e)).result.table ≡ true
    go true b = rw (refuses t store reply (stepped (state_of t store) e) b) sound
    go false b = rw (passes t store reply (stepped (state_of t store) e) b) (sane_step (state_of t store) (record { rows = rows; bytes = (proper t (length store) (length reply) b).store_size; sound = sound }) e z).sound

-- after every call from a sound table the table is sound
pub receive_sound :
    (t : Table) (store list pdu reply : List ℕ) → length t.records ≡ PARTS → sound_table t ≡ true
    → sound_table (received t store list pdu reply).result.table ≡ true
unfolding received
receive_sound t store list pdu reply rows sound = guarded_sound t store reply (event_of list pdu (read_pdu true pdu)) (fine_pdu list pdu) rows sound

pub local_close_sound :
    (t : Table) (store : List ℕ) (n : ℕ) (reply : List ℕ) → length t.records ≡ PARTS → sound_table t ≡ true
    → sound_table (locally_closed t store n reply).result.table ≡ true
unfolding locally_closed
local_close_sound t store n reply rows sound = guarded_sound t store reply (Of n LocalClose) tt rows sound
