-- Strangers' channels, phrase by phrase: "Take two runs of the panel end from one ready state with its store, reached from
-- Start by calls, with the same list, proper buffers and nobody else writing the store between calls, and one channel
-- number. Let its own events be the same in both, with each of its Create requests that is listed and not already open
-- meeting a full table in both runs or in neither. All other channels' events may differ in number and bytes, and the table
-- may fill. Then that channel's answers, replies, messages, record and stored bytes are the same in both."
use Rattle.std.specs.Prelude.{ℕ, ◌≤◌, ◌<◌, ◌≡◌, true, false, List, [], ◌∷◌, map, length, Some}
use Rattle.paper.specs.Sizes.{PARTS, STORE, REPLY_MIN}
use Rattle.reading.specs.Reading.{read_pdu}
use Rattle.reading.specs.Said.{bytes_at}
use Rattle.reading.specs.Garbled.{carries}
use Rattle.reading.specs.declared.Extent.{Extent}
use Rattle.reading.specs.declared.Pdu.TheVariants.{CreateRequest, DataFirst, Data, Close}
use Rattle.listeners.specs.Listeners.{good_list, is_listed}
use Rattle.channel.specs.declared.Record.{Record}
use Rattle.channel.specs.declared.Decline.TheVariants.{Full}
use Rattle.channel.specs.declared.Answer.{Answer}
use Rattle.channel.specs.declared.Answer.TheVariants.{Opened, Declined, Message}
use Rattle.channel.specs.Channel.{View, Shut, Open}
use Rattle.table.specs.declared.Table.{Table}
use Rattle.table.specs.Table.{record_at}
use Rattle.connection.specs.States.{State, view}
use Rattle.client.specs.Client.{received, locally_closed}
use Rattle.steps.specs.Rows.{is_open}
use Rattle.demands.specs.Trace.{keep}
use Rattle.demands.specs.Runs.{Entry, receives, closes, Call, leaves, Told, told_to, ends, is_event_of, own_events}
use Rattle.demands.specs.Runs.{meets_full, full_flags, started_on, Running}
use Rattle.demands.specs.Orders.{NeverFull}
use Rattle.demands.specs.Managers.{ours, StrangersOf}
use Rattle.demands.specs.Examples.{PUMP, just_ready, beside_few, beside_many, told_to_five}
use Rattle.demands.specs.Examples.{alone, behind_sixteen}

-- ---- "one ready state with its store, reached from Start by calls"

-- each call on the table and the store that the call before left, as its contract says what it leaves
pub data Reached : State → Type 0 where
  -- Start, on any store of its size
  by_start : (store : List ℕ) → length store ≡ STORE → Reached (started_on store)
  -- `receive` of any bytes, with any list: the list may differ from call to call
  by_receive :
      {st : State} → Reached st → (list pdu reply : List ℕ) → REPLY_MIN ≤ length reply
      → Reached (leaves (received st.table st.store list pdu reply))
  by_local_close :
      {st : State} → Reached st → (n : ℕ) (reply : List ℕ) → REPLY_MIN ≤ length reply
      → Reached (leaves (locally_closed st.table st.store n reply))

-- ---- "with the same list"

abbrev pub Lends : List ℕ → Entry → Type 0
Lends list (receives lent pdu) = lent ≡ list
Lends list (closes n) = Unit {0}

-- every PDU of a run is received with it
abbrev pub WithList : List ℕ → List Call → Type 0
WithList list [] = Unit {0}
WithList list (c ∷ cs) = Lends list c.asked × WithList list cs

-- ---- "its own events"

-- what is received or closed, as the host sees it
pub data Happening : Type 0 where
  pdu_received : List ℕ → Happening
  closed_locally : ℕ → Happening

abbrev pub happening : Entry → Happening
happening (receives list pdu) = pdu_received pdu
happening (closes n) = closed_locally n

-- a channel's own, in their order
unfoldable pub own_happenings : ℕ → List Call → List Happening
own_happenings n cs = map (λ (c : Call). happening c.asked) (keep (is_event_of n) cs)

-- which they are: "the readable PDUs that carry its number (accepted or not) and its local closes", and "any PDU of
-- [command 2, 3, 6 or 7] with its number whole [..], open or not"
pub data OwnEvent (n : ℕ) : Happening → Type 0 where
  a_create_request :
      {pdu : List ℕ} (class : ℕ) (name : Extent) → read_pdu true pdu ≡ CreateRequest n class name
      → OwnEvent n (pdu_received pdu)
  a_data_first :
      {pdu : List ℕ} (len : ℕ) (block : Extent) → read_pdu true pdu ≡ DataFirst n len block → OwnEvent n (pdu_received pdu)
  a_data : {pdu : List ℕ} (block : Extent) → read_pdu true pdu ≡ Data n block → OwnEvent n (pdu_received pdu)
  a_close : {pdu : List ℕ} → read_pdu true pdu ≡ Close n → OwnEvent n (pdu_received pdu)
  its_number_whole : {pdu : List ℕ} → carries pdu ≡ Some n → OwnEvent n (pdu_received pdu)
  a_local_close : OwnEvent n (closed_locally n)

-- ---- "each of its Create requests that is listed and not already open meeting a full table"

-- a call, on the table that it meets
pub data MeetsFullTable (t : Table) : Entry → Type 0 where
  a_listed_create :
      {list pdu : List ℕ} (n class : ℕ) (name : Extent) → read_pdu true pdu ≡ CreateRequest n class name
      → good_list list ≡ true → is_listed list (bytes_at pdu name) ≡ true
      → is_open t n ≡ false
      → ((k : ℕ) → k < PARTS → (record_at t k).taken ≡ true)
      → MeetsFullTable t (receives list pdu)

-- ---- the two runs

-- What is supposed of them but for the full table. That the buffers are proper is in the calls: each has its own reply
-- buffer, of 9 bytes and more. That nobody else writes the store is in the run: each call takes it as the one before left it.
-- Of all other channels' events nothing is supposed
pub record TwoRuns (list : List ℕ) (n : ℕ) (st : State) (xs ys : List Call) : Type 0 where
  pub reached : Reached st
  pub ready : st.table.ready ≡ true
  pub same_list : WithList list xs × WithList list ys
  pub own_events_same : own_happenings n xs ≡ own_happenings n ys

-- each of its own events meets a full table "in both runs or in neither"
abbrev pub FullInBothOrNeither : ℕ → State → List Call → List Call → Type 0
FullInBothOrNeither n st xs ys = full_flags n st xs ≡ full_flags n st ys

-- ---- "Then that channel's answers, replies, messages, record and stored bytes are the same in both"

abbrev pub answers_to : ℕ → State → List Call → List Answer
answers_to n st xs = map (λ (t : Told). t.answer) (told_to n st xs)

-- the bytes that are to be sent
abbrev pub replies_to : ℕ → State → List Call → List (List ℕ)
replies_to n st xs = map (λ (t : Told). t.reply) (told_to n st xs)

-- with each of its events the messages handed up, their bytes: one or none
abbrev pub messages_to : ℕ → State → List Call → List (List (List ℕ))
messages_to n st xs = map (λ (t : Told). t.message) (told_to n st xs)

-- number, class, stage and count; none where it isn't open
abbrev pub record_of : View → List Record
record_of Shut = []
record_of (Open r part) = r ∷ []

-- its whole part of the store
abbrev pub part_of : View → List ℕ
part_of Shut = []
part_of (Open r part) = part

pub record SameInBoth (n : ℕ) (st : State) (xs ys : List Call) : Type 0 where
  pub answers : answers_to n st xs ≡ answers_to n st ys
  pub replies : replies_to n st xs ≡ replies_to n st ys
  pub messages : messages_to n st xs ≡ messages_to n st ys
  pub its_record : record_of (view n (ends st xs)) ≡ record_of (view n (ends st ys))
  pub stored_bytes : part_of (view n (ends st xs)) ≡ part_of (view n (ends st ys))

-- ---- by examples

-- two runs that meet the suppositions, one of which fills the table, and what channel 5 is told in them
pub record BesideFewOrMany : Type 0 where
  -- the suppositions are met
  pub supposed : TwoRuns PUMP 5 just_ready beside_few beside_many
  pub full_alike : FullInBothOrNeither 5 just_ready beside_few beside_many
  -- beside few the table never fills; beside many it does
  pub never_fills : NeverFull just_ready beside_few
  pub fills : answers_to 17 just_ready beside_many ≡ Declined 17 Full ∷ Opened 17 ∷ Message 17 1 ∷ []
  -- what 5 is told
  pub beside_few_law : told_to 5 just_ready beside_few ≡ told_to_five
  pub beside_many_law : told_to 5 just_ready beside_many ≡ told_to_five
  -- what is all channels' is not the same: two are open at the end, or sixteen
  pub open_beside_few : (ends just_ready beside_few).table.totals.channels ≡ 2
  pub open_beside_many : (ends just_ready beside_many).table.totals.channels ≡ 16

-- two runs that meet all but the one on the full table: 5 is answered otherwise
pub record AloneOrBehindSixteen : Type 0 where
  -- all else is as supposed
  pub supposed : TwoRuns PUMP 5 just_ready alone behind_sixteen
  pub opened_alone : answers_to 5 just_ready alone ≡ Opened 5 ∷ []
  pub declined_behind_sixteen : answers_to 5 just_ready behind_sixteen ≡ Declined 5 Full ∷ []

-- ---- all of it

pub record StrangersChannels : Type 0 where
  pub same_in_both :
      (list : List ℕ) (n : ℕ) (st : State) (xs ys : List Call) → TwoRuns list n st xs ys → FullInBothOrNeither n st xs ys
      → SameInBoth n st xs ys
  -- what is taken for a channel's own event is one, and the other way round
  pub only_own : (n : ℕ) (c : Call) → is_event_of n c ≡ true → OwnEvent n (happening c.asked)
  pub all_own : (n : ℕ) (c : Call) → OwnEvent n (happening c.asked) → is_event_of n c ≡ true
  -- so with meeting a full table, on the table of any state that calls reach
  pub only_full : (st : State) → Reached st → (c : Call) → meets_full st c ≡ true → MeetsFullTable st.table c.asked
  pub all_full : (st : State) → Reached st → (c : Call) → MeetsFullTable st.table c.asked → meets_full st c ≡ true
  -- every state of a run from a state that calls reach is one
  pub still_reached : (st : State) → Reached st → (xs : List Call) → Reached (ends st xs)
  pub for_example : BesideFewOrMany
  pub the_full_table_matters : AloneOrBehindSixteen
  -- More than was asked: the lists may differ, from call to call and from run to run; its own PDUs need only say the same, in
  -- other widths, say; and the state may be any that is sound and ready, with what is free as Start made it
  pub whatever_the_lists :
      (l : ℕ) (st : State) → Running l st → (n : ℕ) (xs ys : List Call) → own_events n xs ≡ own_events n ys
      → FullInBothOrNeither n st xs ys → SameInBoth n st xs ys
  -- as a property of any manager: ours has it, from every Start on
  pub of_ours : (store : List ℕ) → length store ≡ STORE → StrangersOf (ours store)
