-- What holds of the face at the shore, in the order of the client's page. The fields of a packed number are the same at both ends.
use Rattle.std.specs.Prelude.{ℕ, ◌+◌, ◌*◌, ◌≤◌, ◌<◌, ◌≡◌, true, false, List, length}
use Rattle.paper.specs.Sizes.{PARTS, PART, STORE, REPLY_MIN, PDU_MAX}
use Rattle.numbers.specs.Numbers.{Bytes, NUMBERS}
use Rattle.reading.specs.declared.Charges.{Charges}
use Rattle.shore.specs.declared.Said.{Said}
use Rattle.shore.specs.declared.Said.TheVariants.{Message}
use Rattle.shore.specs.declared.Shore.{Shore}
use Rattle.shore.specs.declared.Given.{Given}
use Rattle.shore.specs.declared.Sending.{Sending}
use Rattle.client.specs.Client.{bad_call}
use Rattle.shore.specs.Shore.{Standing, bad_out, received, locally_closed, requested, locally_opened}
use Rattle.saved.specs.Saved.{STATE, SHORE, is_state, is_good}
use Rattle.packing.specs.Packing.{said_place, packed_said}
use Rattle.packing.specs.Unpacking.{place_in, sent_in, said_in}
use Rattle.shore_face.specs.Face.{shore_in, saved_shore, dvc_shore_started}
use Rattle.shore_demands.specs.Runs.{Call, told_to, ends, started_on, JustReady}
use Rattle.shore_demands.specs.Orders.{TwoOrders}
use Rattle.face_demands.specs.Tables.{ShoreCanHold, ShoreAt}
use Rattle.face_demands.specs.ShoreRuns.{lent_of, begun_on, FromC, AllFromC, face_gives, face_told, face_ends}
use Rattle.face_demands.specs.ShoreRuns.{face_told_all, face_told_to, told_all, SameEitherWayInC}

-- what is saved is told again, the version asked for too, and is accepted
pub record WhatIsSavedComesBack : Type 0 where
  pub shore : (s : Shore) → ShoreCanHold s → shore_in (saved_shore s) ≡ s
  pub state : (s : Shore) → ShoreCanHold s → is_state SHORE true (saved_shore s) ≡ true
  pub good : (s : Shore) → ShoreCanHold s → is_good SHORE true (saved_shore s) ≡ true
  -- whatever a run from Start holds is what comes back
  pub of_a_run :
      (store : List ℕ) → length store ≡ STORE → (cs : List Call) → AllFromC cs → ShoreCanHold (ends (started_on store) cs).shore

-- no two states in bytes tell the same
pub record AcceptedBytesAreTheirTables : Type 0 where
  pub saved_again : (l : List ℕ) → Bytes l → is_state SHORE true l ≡ true → saved_shore (shore_in l) ≡ l
  pub can_hold : (l : List ℕ) → Bytes l → is_good SHORE true l ≡ true → ShoreCanHold (shore_in l)

-- an answer is got back from its number: how much is sent too, and the place, of a message
pub record GotBack (s : Said) (count k : ℕ) : Type 0 where
  pub said : said_in (packed_said s k count) ≡ s
  pub sent : sent_in (packed_said s k count) ≡ count
  pub place : place_in (packed_said s k count) ≡ said_place s k

abbrev pub GivenBack : Given → Type 0
GivenBack g = GotBack g.said g.sent g.place

-- no place is shown of the request and a local open
abbrev pub SendingBack : Sending → Type 0
SendingBack r = GotBack r.said r.sent PARTS

pub record PackingIsUndone : Type 0 where
  pub receive :
      (s : Shore) (store pdu reply : List ℕ) → length s.table.records ≡ PARTS → Bytes pdu
      → GivenBack (received s store pdu reply).result
  pub local_close :
      (s : Shore) (store : List ℕ) (n : ℕ) (reply : List ℕ) → length s.table.records ≡ PARTS → n < NUMBERS
      → GivenBack (locally_closed s store n reply).result
  pub request :
      (s : Shore) (version : ℕ) (charges : Charges) (out : List ℕ) → SendingBack (requested s version charges out).result
  pub local_open :
      (s : Shore) (name : List ℕ) (class : ℕ) (out : List ℕ) → SendingBack (locally_opened s name class out).result

-- a run of C calls is a run of the library: it leaves the same, and the host is told the same
pub record EveryRunIsTheLibrarys : Type 0 where
  pub start :
      (state store : List ℕ) → length state ≡ STATE → length store ≡ STORE
      → ((dvc_shore_started state store).answer ≡ 0) × (begun_on state store ≡ lent_of (started_on store))
  pub start_holds : (store : List ℕ) → length store ≡ STORE → ShoreAt (started_on store)
  pub leaves :
      (st : Standing) → ShoreAt st → (cs : List Call) → AllFromC cs → face_ends (lent_of st) cs ≡ lent_of (ends st cs)
  pub holds : (st : Standing) → ShoreAt st → (cs : List Call) → AllFromC cs → ShoreAt (ends st cs)
  pub tells :
      (st : Standing) → ShoreAt st → (cs : List Call) → AllFromC cs → face_told_all (lent_of st) cs ≡ told_all st cs
  pub tells_each :
      (st : Standing) → ShoreAt st → (cs : List Call) → AllFromC cs → (n : ℕ)
      → face_told_to n (lent_of st) cs ≡ told_to n st cs
  -- a number in a run from Start
  pub tells_from_start :
      (state store : List ℕ) → length state ≡ STATE → length store ≡ STORE → (cs : List Call) → AllFromC cs → (n : ℕ)
      → face_told_to n (begun_on state store) cs ≡ told_to n (started_on store) cs
  -- a message that is told lies in the store
  pub message_within :
      (st : Standing) → ShoreAt st → (c : Call) → FromC c.asked → (n len : ℕ) → (face_told (lent_of st) c).said ≡ Message n len
      → PART * place_in (face_gives (lent_of st) c.asked c.buffer).answer + len ≤ STORE
  -- so the demands hold of it. Demand 3: each number is told the same in either order
  pub each_channel :
      (st : Standing) → JustReady st → (xs ys : List Call) → AllFromC xs → AllFromC ys → TwoOrders st xs ys
      → (n : ℕ) → SameEitherWayInC st xs ys n

-- a host that lends back what it got never meets refusal 1: its bytes are good, and its call is no bad one of the library
pub record NeverRefusal1ForItsState : Type 0 where
  pub good :
      (state store : List ℕ) → length state ≡ STATE → length store ≡ STORE → (cs : List Call) → AllFromC cs
      → is_good SHORE true (face_ends (begun_on state store) cs).state ≡ true
  pub never :
      (state store : List ℕ) → length state ≡ STATE → length store ≡ STORE → (cs : List Call) → AllFromC cs
      → (reply : List ℕ) → REPLY_MIN ≤ length reply
      → bad_call (shore_in (face_ends (begun_on state store) cs).state).table (length (face_ends (begun_on state store) cs).store) (length reply)
      ≡ false
  pub nor_in_writing :
      (state store : List ℕ) → length state ≡ STATE → length store ≡ STORE → (cs : List Call) → AllFromC cs
      → (out : List ℕ) → PDU_MAX ≤ length out
      → bad_out (shore_in (face_ends (begun_on state store) cs).state).table (length out) ≡ false
