-- What a call asks, as the code has it: the number, the matter, and where in the PDU the block lies. Nobody need believe this
-- page: proofs/Asking shows that what is asked is the event.
use Rattle.std.specs.Prelude.{ℕ, true, false, List, Option, None, Some}
use Rattle.paper.specs.declared.Refusal.{Refusal}
use Rattle.paper.specs.declared.Refusal.TheVariants.{WrongTime}
use Rattle.reading.specs.Said.{bytes_at}
use Rattle.reading.specs.Garbled.{carries}
use Rattle.reading.specs.declared.Extent.{Extent}
use Rattle.reading.specs.declared.Pdu.{Pdu}
use Rattle.reading.specs.declared.Pdu.TheVariants.{CreateRequest, CreateResponse, DataFirst, Data, Close}
use Rattle.reading.specs.declared.Pdu.TheVariants.{CapsRequest, CapsResponse, Refused}
use Rattle.channel.specs.declared.Offer.TheVariants.{First, More}
use Rattle.channel.specs.Channel.{Bring, Garbled}
use Rattle.client.specs.Events.{close_act}
use Rattle.shore.specs.declared.Matter.{Matter}
use Rattle.shore.specs.declared.Matter.TheVariants.{Unread, Caps, Status, Block, End}
use Rattle.client.specs.declared.Asked.{Asked as Call}
use Rattle.shore.specs.Rules.{Answered, Acts}
use Rattle.shore.specs.Events.{Event, Unreadable, Response, Of}

-- a matter of the number n, with the bytes of its block
unfoldable pub told : ℕ → Matter → List ℕ → Event
told n (Unread why true) block = Of n (Acts (Garbled why))
told n (Unread why false) block = Unreadable why
told n (Caps version) block = Response version
told n (Status status) block = Of n (Answered status)
told n (Block offer) block = Of n (Acts (Bring offer block))
told n (End local) block = Of n (Acts (close_act local))

-- what is asked, with the PDU that its block lies in
unfoldable pub event_asked : Call Matter → List ℕ → Event
event_asked heard pdu = told heard.number heard.matter (bytes_at pdu heard.block)

-- ---- what a PDU asks, and what a close by the host asks

abbrev pub nowhere : Extent
nowhere = record { at = 0; len = 0 }

abbrev pub hearing : ℕ → Matter → Extent → Call Matter
hearing n matter block = record { number = n; matter = matter; block = block }

unfoldable pub unread_heard : Refusal → Option ℕ → Call Matter
unread_heard why None = hearing 0 (Unread why false) nowhere
unread_heard why (Some n) = hearing n (Unread why true) nowhere

unfoldable pub heard_in : List ℕ → Pdu → Call Matter
heard_in pdu (CreateRequest n class name) = hearing 0 (Unread WrongTime false) nowhere
heard_in pdu (CreateResponse n status) = hearing n (Status status) nowhere
heard_in pdu (DataFirst n len block) = hearing n (Block (First len)) block
heard_in pdu (Data n block) = hearing n (Block More) block
heard_in pdu (Close n) = hearing n (End false) nowhere
heard_in pdu (CapsRequest version charges) = hearing 0 (Unread WrongTime false) nowhere
heard_in pdu (CapsResponse version) = hearing 0 (Caps version) nowhere
heard_in pdu (Refused why) = unread_heard why (carries pdu)

unfoldable pub closing_of : ℕ → Call Matter
closing_of n = hearing n (End true) nowhere
