-- What a PDU asks is its event, and the block that a step takes is the bytes at its place.
-- Assumes nothing.
use Rattle.std.specs.Prelude.{Option, None, Some}
use mathlib.Core.Path.{◌≡◌, refl, sym, ap, ◌∙◌}
use mathlib.Core.Bool.{Bool, true, false, cond}
use mathlib.Core.List.{List}
use Prim.Native.Nat.{ℕ, ◌+◌, ◌-◌, min}
use lib.ListN.{length, take, drop, length-drop}
use Rattle.lists.proofs.Laid.{from_to, take_least}
use Rattle.lists.proofs.Lent.{drop_least}
use Rattle.paper.specs.declared.Refusal.{Refusal}
use Rattle.reading.specs.declared.Extent.{Extent}
use Rattle.reading.specs.declared.Pdu.{Pdu}
use Rattle.reading.specs.declared.Pdu.TheVariants.{CreateRequest, CreateResponse, DataFirst, Data, Close}
use Rattle.reading.specs.declared.Pdu.TheVariants.{CapsRequest, CapsResponse, Refused}
use Rattle.reading.specs.Said.{bytes_at}
use Rattle.reading.specs.Garbled.{carries}
use Rattle.listeners.specs.Listeners.{good_list, is_listed}
use Rattle.channel.specs.declared.Ask.TheVariants.{NoList, Name}
use Rattle.channel.specs.Channel.{BadCreate, Create, LocalClose}
use Rattle.channel.specs.Turns.{act_of}
use Rattle.client.specs.Events.{Of, create_act, unread, event_of}
use Rattle.client.specs.Asking.{told, event_asked, create_ask, unread_ask, heard_in, closing_of}

create_asks : (list name block : List ℕ) (pri : ℕ) → act_of (create_ask list name pri) block ≡ create_act list name pri
unfolding create_ask create_act act_of
create_asks list name block pri = go (good_list list)
  where
    go : (b : Bool) → act_of (cond b (Name (is_listed list name) pri) NoList) block ≡ cond b (Create (is_listed list name) pri) BadCreate
    go true = refl
    go false = refl

unread_asked : (pdu : List ℕ) (why : Refusal) (carried : Option ℕ) → event_asked (unread_ask why carried) pdu ≡ unread why carried
unfolding event_asked unread_ask told unread
unread_asked pdu why None = refl
unread_asked pdu why (Some n) = refl

pub event_asked_law : (list pdu : List ℕ) (read : Pdu) → event_asked (heard_in list pdu read) pdu ≡ event_of list pdu read
unfolding event_asked heard_in told event_of act_of
event_asked_law list pdu (CreateRequest n class name) = ap (Of n) (create_asks list (bytes_at pdu name) _ class)
event_asked_law list pdu (CreateResponse n status) = refl
event_asked_law list pdu (DataFirst n len block) = refl
event_asked_law list pdu (Data n block) = refl
event_asked_law list pdu (Close n) = refl
event_asked_law list pdu (CapsRequest version charges) = refl
event_asked_law list pdu (CapsResponse version) = refl
event_asked_law list pdu (Refused why) = unread_asked pdu why (carries pdu)

pub event_closing : (n : ℕ) (pdu : List ℕ) → event_asked (closing_of n) pdu ≡ Of n LocalClose
unfolding event_asked closing_of told act_of
event_closing n pdu = refl

-- ---- a place that may reach past the PDU

-- the bytes at a place, as far as there are any
pub clipped :
    (pdu : List ℕ) (place : Extent) (at n : ℕ) → at ≡ min place.at (length pdu) → n ≡ min place.len (length pdu - at)
    → take (at + n - at) (drop at pdu) ≡ bytes_at pdu place
unfolding bytes_at
clipped pdu place at n e f =
    from_to pdu at n
    ∙ ap (λ (k : ℕ). take k (drop at pdu)) (f ∙ ap (min place.len) (sym (length-drop at pdu)))
    ∙ take_least place.len (drop at pdu)
    ∙ ap (take place.len) (ap (λ (k : ℕ). drop k pdu) e ∙ drop_least place.at pdu)
