-- The event of a PDU that the shore receives is a function of the values that it says: any two encodings of one value are the same event.
-- Assumes nothing.
use Rattle.std.specs.Prelude.{Option}
use Prim.Native.Nat.{ℕ, ◌≤◌}
use mathlib.Core.Path.{◌≡◌, refl, ap, ◌∙◌}
use mathlib.Core.Bool.{false}
use mathlib.Core.List.{List}
use lib.ListN.{length}
use Rattle.paper.specs.Sizes.{PDU_MAX}
use Rattle.paper.specs.declared.Refusal.TheVariants.{WrongTime}
use Rattle.reading.specs.Reading.{read_pdu}
use Rattle.reading.specs.Garbled.{carries}
use Rattle.reading.specs.Grammar.{Value, create_request_law, create_response_law, data_first_law, data_block, close, capabilities_request, capabilities_response}
use Rattle.reading.specs.Grammar.{Read, values, refusal, meant, read_as, Encodes}
use Rattle.reading.specs.declared.Pdu.{Pdu}
use Rattle.reading.specs.declared.Pdu.TheVariants.{CreateRequest, CreateResponse, DataFirst, Data, Close, CapsRequest, CapsResponse, Refused}
use Rattle.reading.proofs.Grammar.{every_encoding}
use Rattle.channel.specs.declared.Offer.TheVariants.{First, More}
use Rattle.channel.specs.Channel.{Bring, Closing}
use Rattle.shore.specs.Rules.{Answered, Acts}
use Rattle.shore.specs.Events.{Event, Unreadable, Response, Of, unread, event_of}

-- the event is a function of the values alone
abbrev pub event_of_value : Value → Event
event_of_value (create_request_law n pri name) = Unreadable WrongTime
event_of_value (create_response_law n status) = Of n (Answered status)
event_of_value (data_first_law n len block) = Of n (Acts (Bring (First len) block))
event_of_value (data_block n block) = Of n (Acts (Bring More block))
event_of_value (close n) = Of n (Acts Closing)
event_of_value (capabilities_request version charges) = Unreadable WrongTime
event_of_value (capabilities_response version) = Response version

-- or of the refusal, and of the number that the PDU carries
unfoldable pub event_of_read : Option ℕ → Read → Event
event_of_read carried (values v) = event_of_value v
event_of_read carried (refusal why) = unread why carried

-- a PDU's event is that of what is meant by it
event_is : (pdu : List ℕ) (p : Pdu) → event_of pdu p ≡ event_of_read (carries pdu) (meant pdu p)
unfolding event_of event_of_read
event_is pdu (CreateRequest n class name) = refl
event_is pdu (CreateResponse n status) = refl
event_is pdu (DataFirst n len block) = refl
event_is pdu (Data n block) = refl
event_is pdu (Close n) = refl
event_is pdu (CapsRequest version charges) = refl
event_is pdu (CapsResponse version) = refl
event_is pdu (Refused why) = refl

-- the event of an encoding
pub encoded_event : (v : Value) (bytes : List ℕ) → Encodes false v bytes → length bytes ≤ PDU_MAX → event_of bytes (read_pdu false bytes) ≡ event_of_value v
unfolding read_as event_of_read
encoded_event v bytes e l = event_is bytes (read_pdu false bytes) ∙ ap (event_of_read (carries bytes)) (every_encoding false v bytes e l)
