-- "A channel number is its value: 5 in one byte and 5 in four bytes name one channel", carried to the event and so to every step: a
-- PDU's event is a function of the values that it says, and two encodings of the same values are the same call.
-- Assumes nothing.
use Rattle.std.specs.Prelude.{Option}
use Prim.Native.Nat.{ℕ, ◌≤◌}
use mathlib.Core.Path.{◌≡◌, refl, sym, ap, ◌∙◌}
use mathlib.Core.Bool.{true}
use mathlib.Core.List.{List}
use lib.ListN.{length}
use Rattle.paper.specs.Sizes.{PDU_MAX}
use Rattle.paper.specs.declared.Refusal.TheVariants.{WrongTime}
use Rattle.reading.specs.Reading.{read_pdu}
use Rattle.reading.specs.Garbled.{carries}
use Rattle.reading.specs.Grammar.{Value, create_request_law, create_response_law, data_first_law, data_block, close, capabilities_request, capabilities_response, Read, values, refusal, meant, read_as, Encodes}
use Rattle.reading.specs.declared.Pdu.{Pdu}
use Rattle.reading.specs.declared.Pdu.TheVariants.{CreateRequest, CreateResponse, DataFirst, Data, Close, CapsRequest, CapsResponse, Refused}
use Rattle.reading.proofs.Grammar.{every_encoding}
use Rattle.channel.specs.declared.Offer.TheVariants.{First, More}
use Rattle.channel.specs.Channel.{Bring, Closing}
use Rattle.table.specs.declared.Table.{Table}
use Rattle.connection.specs.States.{state_of}
use Rattle.client.specs.Events.{Event, Unreadable, Capabilities, Of, create_act, unread, event_of}
use Rattle.client.specs.Client.{stepped, guarded, received}

-- the event is a function of the values alone
unfoldable pub event_of_value : List ℕ → Value → Event
event_of_value list (create_request_law n pri name) = Of n (create_act list name pri)
event_of_value list (create_response_law n status) = Unreadable WrongTime
event_of_value list (data_first_law n len block) = Of n (Bring (First len) block)
event_of_value list (data_block n block) = Of n (Bring More block)
event_of_value list (close n) = Of n Closing
event_of_value list (capabilities_request version charges) = Capabilities version
event_of_value list (capabilities_response version) = Unreadable WrongTime

-- or of the refusal, and of the number that the PDU carries
unfoldable pub event_of_read : List ℕ → Option ℕ → Read → Event
event_of_read list carried (values v) = event_of_value list v
event_of_read list carried (refusal why) = unread why carried

event_is : (list pdu : List ℕ) (p : Pdu) → event_of list pdu p ≡ event_of_read list (carries pdu) (meant pdu p)
unfolding event_of event_of_read event_of_value
event_is list pdu (CreateRequest n class name) = refl
event_is list pdu (CreateResponse n status) = refl
event_is list pdu (DataFirst n len block) = refl
event_is list pdu (Data n block) = refl
event_is list pdu (Close n) = refl
event_is list pdu (CapsRequest version charges) = refl
event_is list pdu (CapsResponse version) = refl
event_is list pdu (Refused why) = refl

-- the event of an encoding
pub encoded_event :
    (v : Value) (bytes : List ℕ) → Encodes true v bytes → length bytes ≤ PDU_MAX → (list : List ℕ)
    → event_of list bytes (read_pdu true bytes) ≡ event_of_value list v
unfolding read_as event_of_read
encoded_event v bytes e l list =
    event_is list bytes (read_pdu true bytes) ∙ ap (event_of_read list (carries bytes)) (every_encoding true v bytes e l)

-- two PDUs of the same values, whatever the widths and whatever Sp, are the same event
pub same_event :
    (v : Value) (one two : List ℕ) → Encodes true v one → Encodes true v two → length one ≤ PDU_MAX → length two ≤ PDU_MAX
    → (list : List ℕ) → event_of list one (read_pdu true one) ≡ event_of list two (read_pdu true two)
same_event v one two e f l k list = encoded_event v one e l list ∙ sym (encoded_event v two f k list)

-- and so the same call: the answer, the table, every byte of the store and the reply
pub same_call :
    (v : Value) (one two : List ℕ) → Encodes true v one → Encodes true v two → length one ≤ PDU_MAX → length two ≤ PDU_MAX
    → (t : Table) (store list reply : List ℕ) → received t store list one reply ≡ received t store list two reply
unfolding received
same_call v one two e f l k t store list reply = ap (λ (x : Event). guarded t store reply (stepped (state_of t store) x)) (same_event v one two e f l k list)
