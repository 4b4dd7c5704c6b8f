-- What a run of the shore end is: calls of its entries, as their contracts say, one after the other on what the host keeps
-- and the store; what the host is told in it; and whose event each call is.
use Rattle.std.specs.Prelude.{ℕ, ◌≤◌, ◌≡◌, Bool, true, false, ◌&&◌, List, [], eqb, length, take}
use Rattle.paper.specs.Sizes.{STORE, REPLY_MIN, PDU_MAX}
use Rattle.reading.specs.Reading.{read_pdu}
use Rattle.reading.specs.declared.Charges.{Charges}
use Rattle.reading.specs.declared.Pdu.TheVariants.{CapsResponse}
use Rattle.writing.specs.Writing.{bad_capabilities}
use Rattle.channel.specs.Channel.{LocalClose}
use Rattle.connection.specs.States.{view}
use Rattle.client.specs.Client.{store_started}
use Rattle.shore.specs.declared.Shore.{Shore}
use Rattle.shore.specs.declared.Said.{Said}
use Rattle.shore.specs.declared.Said.TheVariants.{Asked, Ready, Awaited, Opened, Declined, Held, Message, Closed, Ignored, Refused}
use Rattle.shore.specs.Rules.{Acts}
use Rattle.shore.specs.Events.{Event, Unreadable, Asking, Response, Opening, Of, event_of}
use Rattle.shore.specs.Shore.{Standing, standing, state_in, number_next, stepped, received, locally_closed, requested, locally_opened, started}
use Rattle.steps.specs.States.{Calm}
use Rattle.demands.specs.Trace.{final, seen_at}
use Rattle.demands.specs.Runs.{first_of}

-- what a call is asked: the request, a PDU of the client, a local open, a local close
pub data Entry : Type 0 where
  requests : ℕ → Charges → Entry
  receives : List ℕ → Entry
  opens : List ℕ → ℕ → Entry
  closes : ℕ → Entry

-- "The request and a local open's Create go to a written PDU's buffer, of 01's size; a Close goes to the reply."
abbrev pub room_for : Entry → ℕ
room_for (requests version charges) = PDU_MAX
room_for (receives pdu) = REPLY_MIN
room_for (opens name class) = PDU_MAX
room_for (closes n) = REPLY_MIN

-- a call with its buffer, of any length from there on and any contents
pub record Call : Type 0 where
  pub asked : Entry
  pub buffer : List ℕ
  pub enough : room_for asked ≤ length buffer

-- what a call gives: what the host keeps, the answer, how many bytes are sent, and every byte of the store and the buffer
pub record Gave : Type 0 where
  pub shore : Shore
  pub said : Said
  pub sent : ℕ
  pub store : List ℕ
  pub buffer : List ℕ

-- the contracts of `request`, `receive`, `open` and `local_close`
unfoldable pub gives : Standing → Entry → List ℕ → Gave
gives st (requests version charges) buffer =
    let s = requested st.shore version charges buffer in
    record { shore = s.result.shore; said = s.result.said; sent = s.result.sent; store = st.store; buffer = s.out }
gives st (receives pdu) buffer =
    let w = received st.shore st.store pdu buffer in
    record { shore = w.result.shore; said = w.result.said; sent = w.result.sent; store = w.store; buffer = w.reply }
gives st (opens name class) buffer =
    let s = locally_opened st.shore name class buffer in
    record { shore = s.result.shore; said = s.result.said; sent = s.result.sent; store = st.store; buffer = s.out }
gives st (closes n) buffer =
    let w = locally_closed st.shore st.store n buffer in
    record { shore = w.result.shore; said = w.result.said; sent = w.result.sent; store = w.store; buffer = w.reply }

-- the state afterwards
unfoldable pub after : Standing → Call → Standing
after st c = standing (gives st c.asked c.buffer).shore (gives st c.asked c.buffer).store

-- "A handed-up message of n bytes is the first n bytes of that part."
unfoldable pub handed_up : Standing → Said → List (List ℕ)
handed_up st (Asked version) = []
handed_up st (Ready level) = []
handed_up st (Awaited n) = []
handed_up st (Opened n) = []
handed_up st (Declined n) = []
handed_up st (Held n left) = []
handed_up st (Message n len) = first_of (view n (state_in st)) len
handed_up st (Closed n) = []
handed_up st (Ignored n) = []
handed_up st (Refused why concern) = []

-- what the host is told: the answer, the bytes that are to be sent, and the message handed up, if any
pub record Told : Type 0 where
  pub said : Said
  pub sent : List ℕ
  pub message : List (List ℕ)

unfoldable pub told : Standing → Call → Told
told st c =
    record {
      said = (gives st c.asked c.buffer).said;
      sent = take (gives st c.asked c.buffer).sent (gives st c.asked c.buffer).buffer;
      message = handed_up (after st c) (gives st c.asked c.buffer).said;
    }

unfoldable pub ends : Standing → List Call → Standing
ends st cs = final after st cs

-- ---- events

-- the event that a call is
unfoldable pub event_in : Entry → Event
event_in (requests version charges) = Asking version charges
event_in (receives pdu) = event_of pdu (read_pdu false pdu)
event_in (opens name class) = Opening name class
event_in (closes n) = Of n (Acts LocalClose)

-- a local open "that isn't refused"
abbrev pub is_awaited : Said → Bool
is_awaited (Asked version) = false
is_awaited (Ready level) = false
is_awaited (Awaited n) = true
is_awaited (Opened n) = false
is_awaited (Declined n) = false
is_awaited (Held n left) = false
is_awaited (Message n len) = false
is_awaited (Closed n) = false
is_awaited (Ignored n) = false
is_awaited (Refused why concern) = false

unfoldable pub granted : Standing → List ℕ → ℕ → Bool
granted st name class = is_awaited (stepped st (Opening name class)).said

-- whether an event is of the number n: "A local open that isn't refused is an event of the number it got"
unfoldable pub is_of : ℕ → Standing → Event → Bool
is_of n st (Unreadable why) = false
is_of n st (Asking version charges) = false
is_of n st (Response version) = false
is_of n st (Opening name class) = granted st name class && eqb (number_next st) n
is_of n st (Of m d) = eqb m n

unfoldable pub is_event_of : ℕ → Standing → Call → Bool
is_event_of n st c = is_of n st (event_in c.asked)

-- a number's own events in a run, in their order
unfoldable pub own_events : ℕ → Standing → List Call → List Event
own_events n st cs = seen_at after (is_event_of n) (λ (s : Standing) (c : Call). event_in c.asked) st cs

-- what a number is told, in its order
unfoldable pub told_to : ℕ → Standing → List Call → List Told
told_to n st cs = seen_at after (is_event_of n) told st cs

-- ---- where runs begin

-- what Start leaves on a store
unfoldable pub started_on : List ℕ → Standing
started_on store = standing (started store).shore (store_started store)

-- "At this end 'just made ready' is Start, the request sent, then one accepted Capabilities response": Start on any 65,536
-- bytes, used before or not
pub record JustReady (st : Standing) : Type 0 where
  pub store : List ℕ
  pub size : length store ≡ STORE
  pub version : ℕ
  pub charges : Charges
  pub request : Call
  pub asks : request.asked ≡ requests version charges
  pub sent : bad_capabilities version charges ≡ false
  pub response : Call
  pub pdu : List ℕ
  pub answers : response.asked ≡ receives pdu
  pub theirs : ℕ
  pub accepted : read_pdu false pdu ≡ CapsResponse theirs
  pub then : st ≡ after (after (started_on store) request) response

-- a state of a run once the connection is ready, at a level
pub record Running (l : ℕ) (st : Standing) : Type 0 where
  pub calm : Calm (state_in st)
  pub ready : st.shore.table.ready ≡ true
  pub level : st.shore.table.level ≡ l
  pub asked : 1 ≤ st.shore.asked
