-- What holds of the face: what is saved comes back, packing is undone, a run of C calls is the library's, and what a refusal leaves.
use Rattle.std.specs.Prelude.{ℕ, ◌+◌, ◌*◌, ◌≤◌, ◌<◌, ◌≡◌, true, false, List, length}
use Rattle.paper.specs.Sizes.{PARTS, PART, STORE}
use Rattle.numbers.specs.Numbers.{Bytes, NUMBERS}
use Rattle.channel.specs.declared.Answer.TheVariants.{Message}
use Rattle.table.specs.declared.Table.{Table}
use Rattle.connection.specs.States.{State}
use Rattle.client.specs.declared.Received.{Received}
use Rattle.client.specs.Client.{bad_call, received, locally_closed}
use Rattle.saved.specs.Saved.{STATE, CLIENT, saved, table_in, asked_in, is_state, is_good}
use Rattle.packing.specs.Packing.{packed, answer_place, packed_answer}
use Rattle.packing.specs.Unpacking.{channel_in, number_in, place_in, sent_in, word_in, answer_in}
use Rattle.client_face.specs.Face.{dvc_started}
use Rattle.demands.specs.Runs.{Call, told_to, ends, started_on, JustReady}
use Rattle.demands.specs.Orders.{TwoOrders, NeverFull}
use Rattle.face_demands.specs.Tables.{ClientCanHold, ClientAt}
use Rattle.face_demands.specs.Runs.{lent_of, begun_on, FromC, AllFromC, face_gives, face_told, face_ends}
use Rattle.face_demands.specs.Runs.{face_told_all, face_told_to, told_all, SameEitherWayInC}

-- ======== The client

-- what is saved is told again, and is accepted
pub record WhatIsSavedComesBack : Type 0 where
  pub table : (t : Table) → ClientCanHold t → table_in (saved CLIENT 0 t) ≡ t
  pub asked : (t : Table) → ClientCanHold t → asked_in (saved CLIENT 0 t) ≡ 0
  pub state : (t : Table) → ClientCanHold t → is_state CLIENT false (saved CLIENT 0 t) ≡ true
  pub good : (t : Table) → ClientCanHold t → is_good CLIENT false (saved CLIENT 0 t) ≡ true
  -- every table of a run from Start is one that comes back
  pub of_a_run :
      (store : List ℕ) → length store ≡ STORE → (cs : List Call) → AllFromC cs → ClientCanHold (ends (started_on store) cs).table

-- no two states in bytes tell the same table
pub record AcceptedBytesAreTheirTables : Type 0 where
  pub saved_again : (l : List ℕ) → Bytes l → is_state CLIENT false l ≡ true → saved CLIENT 0 (table_in l) ≡ l
  pub can_hold : (l : List ℕ) → Bytes l → is_good CLIENT false l ≡ true → ClientCanHold (table_in l)

-- a result is got back from its number: the answer, how much is sent, and the place, of a message
pub record GotBack (r : Received) : Type 0 where
  pub answer : answer_in (packed_answer r.answer r.place r.sent) ≡ r.answer
  pub sent : sent_in (packed_answer r.answer r.place r.sent) ≡ r.sent
  pub place : place_in (packed_answer r.answer r.place r.sent) ≡ answer_place r.answer r.place

pub record PackingIsUndone : Type 0 where
  pub channel :
      (word channel number place sent : ℕ) → channel < NUMBERS → channel_in (packed word channel number place sent) ≡ channel
  pub number :
      (word channel number place sent : ℕ) → channel < NUMBERS → number < 8192
      → number_in (packed word channel number place sent) ≡ number
  pub place :
      (word channel number place sent : ℕ) → channel < NUMBERS → place < 16
      → place_in (packed word channel number place sent) ≡ place
  pub sent :
      (word channel number place sent : ℕ) → channel < NUMBERS → sent < 2048
      → sent_in (packed word channel number place sent) ≡ sent
  pub word : (word channel number place sent : ℕ) → channel < NUMBERS → word_in (packed word channel number place sent) ≡ word
  -- every answer of a call, on any table
  pub receive :
      (t : Table) (store list pdu reply : List ℕ) → length t.records ≡ PARTS → Bytes pdu
      → GotBack (received t store list pdu reply).result
  pub local_close :
      (t : Table) (store : List ℕ) (n : ℕ) (reply : List ℕ) → length t.records ≡ PARTS → n < NUMBERS
      → GotBack (locally_closed t store n reply).result

-- a run of C calls is a run of the library: it leaves the same, and the host is told the same
pub record EveryRunIsTheLibrarys : Type 0 where
  pub start :
      (state store : List ℕ) → length state ≡ STATE → length store ≡ STORE
      → ((dvc_started state store).answer ≡ 0) × (begun_on state store ≡ lent_of (started_on store))
  pub start_holds : (store : List ℕ) → length store ≡ STORE → ClientAt (started_on store)
  pub leaves :
      (st : State) → ClientAt st → (cs : List Call) → AllFromC cs → face_ends (lent_of st) cs ≡ lent_of (ends st cs)
  pub holds : (st : State) → ClientAt st → (cs : List Call) → AllFromC cs → ClientAt (ends st cs)
  pub tells :
      (st : State) → ClientAt st → (cs : List Call) → AllFromC cs → face_told_all (lent_of st) cs ≡ told_all st cs
  pub tells_each :
      (st : State) → ClientAt st → (cs : List Call) → AllFromC cs → (n : ℕ)
      → face_told_to n (lent_of st) cs ≡ told_to n st cs
  -- a channel in a run from Start
  pub tells_from_start :
      (state store : List ℕ) → length state ≡ STATE → length store ≡ STORE → (cs : List Call) → AllFromC cs → (n : ℕ)
      → face_told_to n (begun_on state store) cs ≡ told_to n (started_on store) cs
  -- a message that is told lies in the store
  pub message_within :
      (st : State) → ClientAt st → (c : Call) → FromC c.asked → (n len : ℕ) → (face_told (lent_of st) c).answer ≡ Message n len
      → PART * place_in (face_gives (lent_of st) c.asked c.reply).answer + len ≤ STORE
  -- so the demands hold of it. Demand 3: each channel is told the same in either order
  pub each_channel :
      (st : State) → JustReady st → (xs ys : List Call) → AllFromC xs → AllFromC ys → TwoOrders xs ys
      → NeverFull st xs → NeverFull st ys → (n : ℕ) → SameEitherWayInC (lent_of st) xs ys n

-- a host that lends back what it got never meets refusal 1: its bytes are good, and its call is no bad one of the library
pub record NeverRefusal1ForItsState : Type 0 where
  pub good :
      (state store : List ℕ) → length state ≡ STATE → length store ≡ STORE → (cs : List Call) → AllFromC cs
      → is_good CLIENT false (face_ends (begun_on state store) cs).state ≡ true
  pub never :
      (state store : List ℕ) → length state ≡ STATE → length store ≡ STORE → (cs : List Call) → AllFromC cs → (c : Call)
      → bad_call (table_in (face_ends (begun_on state store) cs).state) (length (face_ends (begun_on state store) cs).store) (length c.reply)
      ≡ false
