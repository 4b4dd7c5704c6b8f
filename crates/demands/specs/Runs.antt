-- What a run is: calls of `receive` and `local_close`, as their contracts say, one after the other on the table and
-- the store; what the host is told in it; and whose event each call is.
use Rattle.std.specs.Prelude.{ℕ, ◌≤◌, ◌≡◌, Bool, true, false, not, ◌&&◌, List, [], ◌∷◌, map, ltb, length, take}
use Rattle.paper.specs.Sizes.{PARTS, STORE, REPLY_MIN}
use Rattle.reading.specs.Reading.{read_pdu}
use Rattle.reading.specs.declared.Charges.{Charges}
use Rattle.reading.specs.declared.Pdu.TheVariants.{CapsRequest}
use Rattle.channel.specs.declared.Answer.{Answer}
use Rattle.channel.specs.declared.Answer.TheVariants.{Ready, Opened, Declined, Held, Message, Closed, Ignored, Refused}
use Rattle.channel.specs.Channel.{Act, BadCreate, Create, Bring, Garbled, Closing, LocalClose, View, Shut, Open}
use Rattle.table.specs.Table.{free_place}
use Rattle.connection.specs.States.{State, state_of, view}
use Rattle.client.specs.Events.{Event, Unreadable, Capabilities, Of, event_of, is_of}
use Rattle.client.specs.Client.{Whole, received, locally_closed, started, store_started}
use Rattle.steps.specs.States.{Calm}
use Rattle.demands.specs.Trace.{keep, final, seen}

-- what a call is asked: a PDU with the list that is lent, or a close by the host
pub data Entry : Type 0 where
  receives : List ℕ → List ℕ → Entry
  closes : ℕ → Entry

-- a call with its reply buffer, of any length from 9 on and any contents
pub record Call : Type 0 where
  pub asked : Entry
  pub reply : List ℕ
  pub enough : REPLY_MIN ≤ length reply

-- what the call gives: the contracts of `receive` and `local_close`
unfoldable pub gives : State → Entry → List ℕ → Whole
gives st (receives list pdu) reply = received st.table st.store list pdu reply
gives st (closes n) reply = locally_closed st.table st.store n reply

-- the state that it leaves: its table with its store
abbrev pub leaves : Whole → State
leaves w = state_of w.result.table w.store

-- the state afterwards
unfoldable pub after : State → Call → State
after st c = leaves (gives st c.asked c.reply)

-- "A handed-up message of n bytes is the first n bytes of that part."
unfoldable pub first_of : View → ℕ → List (List ℕ)
first_of Shut len = []
first_of (Open r part) len = take len part ∷ []

unfoldable pub handed_up : State → Answer → List (List ℕ)
handed_up st (Ready level) = []
handed_up st (Opened n) = []
handed_up st (Declined n why) = []
handed_up st (Held n left) = []
handed_up st (Message n len) = first_of (view n st) len
handed_up st (Closed n) = []
handed_up st (Ignored n) = []
handed_up st (Refused why concern) = []

-- what the host is told: the answer, the bytes of the reply that are to be sent, and the message handed up, if any
pub record Told : Type 0 where
  pub answer : Answer
  pub reply : List ℕ
  pub message : List (List ℕ)

unfoldable pub told : State → Call → Told
told st c =
    record {
      answer = (gives st c.asked c.reply).result.answer;
      reply = take (gives st c.asked c.reply).result.sent (gives st c.asked c.reply).reply;
      message = handed_up (after st c) (gives st c.asked c.reply).result.answer;
    }

-- ---- events

-- the event that a call is
unfoldable pub event_in : Entry → Event
event_in (receives list pdu) = event_of list pdu (read_pdu true pdu)
event_in (closes n) = Of n LocalClose

-- "A channel's events are the readable PDUs that carry its number (accepted or not) and its local closes", and the garbled
-- blocks that carry it
unfoldable pub is_event_of : ℕ → Call → Bool
is_event_of n c = is_of n (event_in c.asked)

-- the events of a run
abbrev pub events_of : List Call → List Event
events_of cs = map (λ (c : Call). event_in c.asked) cs

-- a channel's own events, in their order
unfoldable pub own_events : ℕ → List Call → List Event
own_events n cs = events_of (keep (is_event_of n) cs)

-- what a channel is told, in its order
unfoldable pub told_to : ℕ → State → List Call → List Told
told_to n st cs = seen after (is_event_of n) told st cs

unfoldable pub ends : State → List Call → State
ends st cs = final after st cs

-- ---- "meets a full table": a Create request, listed, for a number not open, that finds sixteen records taken

unfoldable pub full_table : State → Bool
full_table st = not (ltb (free_place st.table) PARTS)

unfoldable pub asks_room : View → Act → Bool
asks_room Shut BadCreate = false
asks_room Shut (Create listed pri) = listed
asks_room Shut (Bring offer bytes) = false
asks_room Shut (Garbled why) = false
asks_room Shut Closing = false
asks_room Shut LocalClose = false
asks_room (Open r part) a = false

unfoldable pub event_meets_full : State → Event → Bool
event_meets_full st (Unreadable why) = false
event_meets_full st (Capabilities version) = false
event_meets_full st (Of n a) = asks_room (view n st) a && full_table st

unfoldable pub meets_full : State → Call → Bool
meets_full st c = event_meets_full st (event_in c.asked)

-- whether each of the channel's own events met one
unfoldable pub full_flags : ℕ → State → List Call → List Bool
full_flags n st xs = seen after (is_event_of n) meets_full st xs

-- ---- where runs begin

-- what Start leaves on a store
unfoldable pub started_on : List ℕ → State
started_on store = state_of (started store).table (store_started store)

-- "'Just made ready' is Start, then one accepted Capabilities request": Start on any 65,536 bytes, used before or not
pub record JustReady (st : State) : Type 0 where
  pub store : List ℕ
  pub size : length store ≡ STORE
  pub call : Call
  pub list : List ℕ
  pub pdu : List ℕ
  pub asks : call.asked ≡ receives list pdu
  pub version : ℕ
  pub charges : Charges
  pub accepted : read_pdu true pdu ≡ CapsRequest version charges
  pub then : st ≡ after (started_on store) call

-- a state of a run once the connection is ready, at a level
pub record Running (l : ℕ) (st : State) : Type 0 where
  pub calm : Calm st
  pub ready : st.table.ready ≡ true
  pub level : st.table.level ≡ l
