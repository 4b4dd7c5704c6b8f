-- An event as a call of `step` asks it: with no bytes in it but the place of its block in the PDU. `event_asked` says which
-- event that is; the rest nobody need believe: proofs/Asking shows that what a PDU asks is its event.
use Rattle.std.specs.Prelude.{ℕ, true, false, cond, List, Option, None, Some}
use Rattle.paper.specs.declared.Refusal.{Refusal}
use Rattle.paper.specs.declared.Refusal.TheVariants.{WrongTime}
use Rattle.reading.specs.Said.{bytes_at}
use Rattle.reading.specs.Garbled.{carries}
use Rattle.reading.specs.declared.Extent.{Extent}
use Rattle.reading.specs.declared.Pdu.{Pdu}
use Rattle.reading.specs.declared.Pdu.TheVariants.{CreateRequest, CreateResponse, DataFirst, Data, Close}
use Rattle.reading.specs.declared.Pdu.TheVariants.{CapsRequest, CapsResponse, Refused}
use Rattle.listeners.specs.Listeners.{good_list, is_listed}
use Rattle.channel.specs.declared.Offer.TheVariants.{First, More}
use Rattle.channel.specs.declared.Ask.{Ask}
use Rattle.channel.specs.declared.Ask.TheVariants.{NoList, Name, Block, End}
use Rattle.channel.specs.Channel.{Garbled}
use Rattle.channel.specs.Turns.{act_of}
use Rattle.deciding.specs.declared.Matter.{Matter}
use Rattle.deciding.specs.declared.Matter.TheVariants.{Unread, Caps, Asks}
use Rattle.client.specs.declared.Asked.{Asked}
use Rattle.client.specs.Events.{Event, Unreadable, Capabilities, Of}

-- a matter of the channel with number n, with the bytes of its block
unfoldable pub told : ℕ → Matter → List ℕ → Event
told n (Unread why true) block = Of n (Garbled why)
told n (Unread why false) block = Unreadable why
told n (Caps version) block = Capabilities version
told n (Asks ask) block = Of n (act_of ask block)

-- what is asked, with the PDU that its block lies in
unfoldable pub event_asked : Asked Matter → List ℕ → Event
event_asked asked pdu = told asked.number asked.matter (bytes_at pdu asked.block)

-- ---- what a PDU asks, and what a close by the host asks

-- no block
abbrev pub nowhere : Extent
nowhere = record { at = 0; len = 0 }

abbrev pub asking : ℕ → Matter → Extent → Asked Matter
asking n matter block = record { number = n; matter = matter; block = block }

unfoldable pub create_ask : List ℕ → List ℕ → ℕ → Ask
create_ask list name pri = cond (good_list list) (Name (is_listed list name) pri) NoList

-- what a PDU asks that reading refuses, by the number that it carries
unfoldable pub unread_ask : Refusal → Option ℕ → Asked Matter
unread_ask why None = asking 0 (Unread why false) nowhere
unread_ask why (Some n) = asking n (Unread why true) nowhere

unfoldable pub heard_in : List ℕ → List ℕ → Pdu → Asked Matter
heard_in list pdu (CreateRequest n class name) = asking n (Asks (create_ask list (bytes_at pdu name) class)) nowhere
heard_in list pdu (CreateResponse n status) = asking 0 (Unread WrongTime false) nowhere
heard_in list pdu (DataFirst n len block) = asking n (Asks (Block (First len))) block
heard_in list pdu (Data n block) = asking n (Asks (Block More)) block
heard_in list pdu (Close n) = asking n (Asks (End false)) nowhere
heard_in list pdu (CapsRequest version charges) = asking 0 (Caps version) nowhere
heard_in list pdu (CapsResponse version) = asking 0 (Unread WrongTime false) nowhere
heard_in list pdu (Refused why) = unread_ask why (carries pdu)

unfoldable pub closing_of : ℕ → Asked Matter
closing_of n = asking n (Asks (End true)) nowhere
