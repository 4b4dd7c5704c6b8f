-- The shore's steps. One number's rules are `deed`; here stand what a step does with the state, refusals 1, 7, 15, 5 and 11,
-- and what each call answers and leaves in every buffer.
use Rattle.std.specs.Prelude.{ℕ, min, Bool, true, false, cond, not, ◌||◌, List, [], eqb, ltb, length, None, Err, Ok}
use Rattle.paper.specs.Sizes.{PARTS, STORE, PDU_MAX}
use Rattle.paper.specs.Rows.{refuse}
use Rattle.paper.specs.declared.Refusal.{Refusal}
use Rattle.paper.specs.declared.Refusal.TheVariants.{BadCall, BadField, WrongTime, OverLimit, AllTaken}
use Rattle.lists.specs.Bytes.{laid}
use Rattle.reading.specs.Reading.{read_pdu}
use Rattle.reading.specs.declared.Charges.{Charges}
use Rattle.laying.specs.Laying.{create_request_bytes, caps_request_bytes}
use Rattle.writing.specs.Writing.{bad_request, bad_capabilities}
use Rattle.channel.specs.Channel.{LocalClose, View, class_at}
use Rattle.channel.specs.Turns.{OUR_VERSION}
use Rattle.deciding.specs.Deciding.{too_soon}
use Rattle.table.specs.declared.Table.{Table}
use Rattle.table.specs.Table.{empty_table, free_place, with_record}
use Rattle.table.specs.Sound.{sound_table}
use Rattle.connection.specs.States.{State, state_of, view, save}
use Rattle.client.specs.Client.{bad_call, place_for}
use Rattle.shore.specs.declared.Said.{Said}
use Rattle.shore.specs.declared.Said.TheVariants.{Asked, Ready, Awaited, Refused}
use Rattle.shore.specs.declared.Shore.{Shore}
use Rattle.shore.specs.declared.Started.{Started}
use Rattle.shore.specs.declared.Given.{Given}
use Rattle.shore.specs.declared.Sending.{Sending}
use Rattle.shore.specs.Saying.{concern_said}
use Rattle.shore.specs.Rules.{Deed, Answered, Acts, Does, awaited_record, deed}
use Rattle.shore.specs.Numbers.{least_number}
use Rattle.shore.specs.Events.{Event, Unreadable, Asking, Response, Opening, Of, event_of}

-- ---- the state

-- what the host keeps, with its store
pub record Standing : Type 0 where
  pub shore : Shore
  pub store : List ℕ

abbrev pub standing : Shore → List ℕ → Standing
standing shore store = record { shore = shore; store = store }

-- its table with its store
abbrev pub state_in : Standing → State
state_in st = state_of st.shore.table st.store

-- another table and store, and the request as it was
abbrev pub with_state : Standing → State → Standing
with_state st new = record { shore = record { table = new.table; asked = st.shore.asked }; store = new.store }

-- ---- steps

-- the state afterwards, the answer, and the bytes that are sent
pub record Stepped : Type 0 where
  pub state : Standing
  pub said : Said
  pub sent : List ℕ

abbrev pub step_to : Standing → Said → List ℕ → Stepped
step_to st said sent = record { state = st; said = said; sent = sent }

-- a refusal that concerns no channel, and changes nothing
abbrev pub refused : Standing → Refusal → Stepped
refused st why = step_to st (Refused why None) []

-- "it sends the Capabilities request once, of the host's version and charges". 7: "a second request".
unfoldable pub asking : Standing → ℕ → Charges → Stepped
asking st version charges =
    refuse (refused st WrongTime) (not (eqb st.shore.asked 0))
    (refuse (refused st BadField) (bad_capabilities version charges)
    (step_to (record { shore = record { table = st.shore.table; asked = version }; store = st.store })
    (Asked version) (caps_request_bytes version charges)))

-- "takes the response (level: the smaller version, at most 2)"
abbrev pub level_between : ℕ → ℕ → ℕ
level_between asked version = min (min asked version) OUR_VERSION

unfoldable pub readied : Table → ℕ → Table
readied t level = record { totals = t.totals; ready = true; level = level; records = t.records }

-- 7: "an unasked response", and one when ready
unfoldable pub responded : Standing → ℕ → Stepped
responded st version =
    refuse (refused st WrongTime) (st.shore.table.ready || eqb st.shore.asked 0)
    (step_to (with_state st (state_of (readied st.shore.table (level_between st.shore.asked version)) st.store))
    (Ready (level_between st.shore.asked version)) [])

-- the number that a local open gets, and the class that it sends and keeps
abbrev pub number_next : Standing → ℕ
number_next st = least_number st.shore.table

abbrev pub class_in : Standing → ℕ → ℕ
class_in st class = class_at st.shore.table.level class

-- "15, sixteen numbers open or awaited"
unfoldable pub all_taken : Table → Bool
all_taken t = not (ltb (free_place t) PARTS)

-- the lowest free record is the number's from here on
unfoldable pub awaiting : Table → ℕ → ℕ → Table
awaiting t n class = with_record t (free_place t) (awaited_record t.level n class)

-- "(local open: 1, 7, 15, 5, 11)", behind 1
unfoldable pub opening : Standing → List ℕ → ℕ → Stepped
opening st name class =
    refuse (refused st WrongTime) (not st.shore.table.ready)
    (refuse (refused st AllTaken) (all_taken st.shore.table)
    (refuse (refused st BadField) (bad_request (class_in st class) name)
    (refuse (refused st OverLimit) (ltb PDU_MAX (length (create_request_bytes (number_next st) (class_in st class) name)))
    (step_to (with_state st (state_of (awaiting st.shore.table (number_next st) class) st.store))
    (Awaited (number_next st)) (create_request_bytes (number_next st) (class_in st class) name)))))

-- what one number's rules did, put back
unfoldable pub finished : ℕ → Standing → View → Does → Stepped
finished n st old d = step_to (with_state st (save n (state_in st) old d.view)) d.said d.sent

-- an event of the number n
unfoldable pub done : ℕ → Standing → Deed → Stepped
done n st d = finished n st (view n (state_in st)) (deed st.shore.table.level n (view n (state_in st)) d)

-- what an event of a number is refused with when not ready: a garbled block has reading's refusal then too
unfoldable pub too_soon_for : Deed → Refusal
too_soon_for (Answered status) = WrongTime
too_soon_for (Acts a) = too_soon a

unfoldable pub stepped : Standing → Event → Stepped
stepped st (Unreadable why) = refused st why
stepped st (Asking version charges) = asking st version charges
stepped st (Response version) = responded st version
stepped st (Opening name class) = opening st name class
stepped st (Of n d) = cond st.shore.table.ready (done n st d) (refused st (too_soon_for d))

-- ---- calls that are lent the store and the reply: receive and local close

pub record Whole : Type 0 where
  pub result : Given
  pub store : List ℕ
  pub reply : List ℕ

abbrev pub result_of : Stepped → Given
result_of s =
    record {
      shore = s.state.shore;
      said = s.said;
      sent = length s.sent;
      place = place_for s.state.shore.table (concern_said s.said);
    }

-- what is sent is laid at the front of the reply
unfoldable pub whole_of : List ℕ → Stepped → Whole
whole_of reply s = record { result = result_of s; store = s.state.store; reply = laid reply 0 s.sent }

-- a function gives a step: its result, and every byte of the store and of the reply buffer
pub record Gives (s : Stepped) (reply : List ℕ) (r : Given) (storeAfter replyAfter : List ℕ) : Type 0 where
  pub result : Path Given r (result_of s)
  pub stored : Path (List ℕ) storeAfter s.state.store
  pub replied : Path (List ℕ) replyAfter (laid reply 0 s.sent)

-- refusal 1 stands in front, and gives back what came in
unfoldable pub guarded : Shore → List ℕ → List ℕ → Stepped → Whole
guarded shore store reply s =
    whole_of reply (cond (bad_call shore.table (length store) (length reply)) (refused (standing shore store) BadCall) s)

abbrev pub called : Shore → List ℕ → Event → List ℕ → Whole
called shore store event reply = guarded shore store reply (stepped (standing shore store) event)

unfoldable pub received : Shore → List ℕ → List ℕ → List ℕ → Whole
received shore store pdu reply = called shore store (event_of pdu (read_pdu false pdu)) reply

unfoldable pub locally_closed : Shore → List ℕ → ℕ → List ℕ → Whole
locally_closed shore store n reply = called shore store (Of n (Acts LocalClose)) reply

-- ---- calls that are lent a written PDU's buffer: the request and a local open. Neither is lent the store, and neither
-- touches it.

pub record Sends : Type 0 where
  pub result : Sending
  pub out : List ℕ

unfoldable pub sends_of : List ℕ → Stepped → Sends
sends_of out s =
    record {
      result = record { shore = s.state.shore; said = s.said; sent = length s.sent };
      out = laid out 0 s.sent;
    }

-- 1: the PDU buffer is not of its size, or the table is unsound
unfoldable pub bad_out : Table → ℕ → Bool
bad_out t size = ltb size PDU_MAX || not (sound_table t)

-- a state of which only what the host keeps is looked at
abbrev pub storeless : Shore → Standing
storeless shore = standing shore []

unfoldable pub sending : Shore → List ℕ → Stepped → Sends
sending shore out s = sends_of out (cond (bad_out shore.table (length out)) (refused (storeless shore) BadCall) s)

unfoldable pub requested : Shore → ℕ → Charges → List ℕ → Sends
requested shore version charges out = sending shore out (asking (storeless shore) version charges)

unfoldable pub locally_opened : Shore → List ℕ → ℕ → List ℕ → Sends
locally_opened shore name class out = sending shore out (opening (storeless shore) name class)

-- ---- Start: as the client's

unfoldable pub started : List ℕ → Started
started store =
    record {
      shore = record { table = empty_table; asked = 0 };
      begun = cond (eqb (length store) STORE) (Ok tt) (Err BadCall);
    }
