-- What a received PDU is an event of.
use Rattle.std.specs.Prelude.{ℕ, Bool, true, false, cond, List, eqb, Option, None, Some}
use Rattle.paper.specs.declared.Refusal.{Refusal}
use Rattle.paper.specs.declared.Refusal.TheVariants.{WrongTime}
use Rattle.reading.specs.Said.{bytes_at}
use Rattle.reading.specs.Garbled.{carries}
use Rattle.reading.specs.declared.Pdu.{Pdu}
use Rattle.reading.specs.declared.Pdu.TheVariants.{CreateRequest, CreateResponse, DataFirst, Data, Close}
use Rattle.reading.specs.declared.Pdu.TheVariants.{CapsRequest, CapsResponse, Refused}
use Rattle.listeners.specs.Listeners.{good_list, is_listed}
use Rattle.channel.specs.declared.Offer.TheVariants.{First, More}
use Rattle.channel.specs.Channel.{Act, BadCreate, Create, Bring, Garbled, Closing, LocalClose}

pub data Event : Type 0 where
  -- a PDU that reading refuses, and that carries no channel's number whole
  Unreadable : Refusal → Event
  -- a Capabilities request of a version
  Capabilities : ℕ → Event
  -- an event of the channel with a number
  Of : ℕ → Act → Event

-- what a Create request asks, by the list that the host lends and the request's name and Pri. Only a Create request judges
-- the listener list.
unfoldable pub create_act : List ℕ → List ℕ → ℕ → Act
create_act list name pri = cond (good_list list) (Create (is_listed list name) pri) BadCreate

-- a Close, or a close by the host
abbrev pub close_act : Bool → Act
close_act true = LocalClose
close_act false = Closing

-- a PDU that reading refuses, by the number that it carries: "any PDU of these commands with its number whole is an event of
-- that channel, open or not"
unfoldable pub unread : Refusal → Option ℕ → Event
unread why None = Unreadable why
unread why (Some n) = Of n (Garbled why)

-- a PDU's event, from what reading answers. Responses are never read in a PDU from the server.
unfoldable pub event_of : List ℕ → List ℕ → Pdu → Event
event_of list pdu (CreateRequest n class name) = Of n (create_act list (bytes_at pdu name) class)
event_of list pdu (CreateResponse n status) = Unreadable WrongTime
event_of list pdu (DataFirst n len block) = Of n (Bring (First len) (bytes_at pdu block))
event_of list pdu (Data n block) = Of n (Bring More (bytes_at pdu block))
event_of list pdu (Close n) = Of n Closing
event_of list pdu (CapsRequest version charges) = Capabilities version
event_of list pdu (CapsResponse version) = Unreadable WrongTime
event_of list pdu (Refused why) = unread why (carries pdu)

-- whether an event is of the channel with number n: "A channel's events are the readable PDUs that carry its number (accepted
-- or not) and its local closes", and the garbled blocks that carry it
abbrev pub is_of : ℕ → Event → Bool
is_of n (Unreadable why) = false
is_of n (Capabilities version) = false
is_of n (Of m a) = eqb m n
