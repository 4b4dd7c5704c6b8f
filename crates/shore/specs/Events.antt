-- What the shore is asked: by a PDU of the client, and by its host.
use Rattle.std.specs.Prelude.{ℕ, List, Option, None, Some}
use Rattle.paper.specs.declared.Refusal.{Refusal}
use Rattle.paper.specs.declared.Refusal.TheVariants.{WrongTime}
use Rattle.reading.specs.Said.{bytes_at}
use Rattle.reading.specs.Garbled.{carries}
use Rattle.reading.specs.declared.Charges.{Charges}
use Rattle.reading.specs.declared.Pdu.{Pdu}
use Rattle.reading.specs.declared.Pdu.TheVariants.{CreateRequest, CreateResponse, DataFirst, Data, Close}
use Rattle.reading.specs.declared.Pdu.TheVariants.{CapsRequest, CapsResponse, Refused}
use Rattle.channel.specs.declared.Offer.TheVariants.{First, More}
use Rattle.channel.specs.Channel.{Bring, Garbled, Closing}
use Rattle.shore.specs.Rules.{Deed, Answered, Acts}

pub data Event : Type 0 where
  -- a PDU that reading refuses, and that carries no channel's number whole
  Unreadable : Refusal → Event
  -- the host's request, of a version and charges
  Asking : ℕ → Charges → Event
  -- a Capabilities response of a version
  Response : ℕ → Event
  -- a local open, of a listener name and a class. What number it gets, the table says.
  Opening : List ℕ → ℕ → Event
  -- an event of a number
  Of : ℕ → Deed → Event

-- a PDU that reading refuses, by the number that it carries
unfoldable pub unread : Refusal → Option ℕ → Event
unread why None = Unreadable why
unread why (Some n) = Of n (Acts (Garbled why))

-- a PDU's event, from what reading answers. Requests are never read in a PDU from the client.
unfoldable pub event_of : List ℕ → Pdu → Event
event_of pdu (CreateRequest n class name) = Unreadable WrongTime
event_of pdu (CreateResponse n status) = Of n (Answered status)
event_of pdu (DataFirst n len block) = Of n (Acts (Bring (First len) (bytes_at pdu block)))
event_of pdu (Data n block) = Of n (Acts (Bring More (bytes_at pdu block)))
event_of pdu (Close n) = Of n (Acts Closing)
event_of pdu (CapsRequest version charges) = Unreadable WrongTime
event_of pdu (CapsResponse version) = Response version
event_of pdu (Refused why) = unread why (carries pdu)
