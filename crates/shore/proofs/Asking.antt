-- What a PDU asks is its event.
-- Assumes nothing.
use Rattle.std.specs.Prelude.{Option, None, Some}
use mathlib.Core.Path.{◌≡◌, refl}
use mathlib.Core.List.{List}
use Prim.Native.Nat.{ℕ}
use Rattle.paper.specs.declared.Refusal.{Refusal}
use Rattle.reading.specs.Garbled.{carries}
use Rattle.reading.specs.declared.Pdu.{Pdu}
use Rattle.reading.specs.declared.Pdu.TheVariants.{CreateRequest, CreateResponse, DataFirst, Data, Close}
use Rattle.reading.specs.declared.Pdu.TheVariants.{CapsRequest, CapsResponse, Refused}
use Rattle.channel.specs.Channel.{LocalClose}
use Rattle.shore.specs.Rules.{Acts}
use Rattle.shore.specs.Events.{Of, unread, event_of}
use Rattle.shore.specs.Asking.{told, event_asked, unread_heard, heard_in, closing_of}

unread_heard_law : (pdu : List ℕ) (why : Refusal) (carried : Option ℕ) → event_asked (unread_heard why carried) pdu ≡ unread why carried
unfolding event_asked unread_heard told unread
unread_heard_law pdu why None = refl
unread_heard_law pdu why (Some n) = refl

pub event_heard : (pdu : List ℕ) (read : Pdu) → event_asked (heard_in pdu read) pdu ≡ event_of pdu read
unfolding event_asked heard_in told event_of
event_heard pdu (CreateRequest n class name) = refl
event_heard pdu (CreateResponse n status) = refl
event_heard pdu (DataFirst n len block) = refl
event_heard pdu (Data n block) = refl
event_heard pdu (Close n) = refl
event_heard pdu (CapsRequest version charges) = refl
event_heard pdu (CapsResponse version) = refl
event_heard pdu (Refused why) = unread_heard_law pdu why (carries pdu)

pub event_closing : (n : ℕ) (pdu : List ℕ) → event_asked (closing_of n) pdu ≡ Of n (Acts LocalClose)
unfolding event_asked closing_of told
event_closing n pdu = refl
