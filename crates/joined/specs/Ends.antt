-- A panel end and a shore end, joined in order and without loss: what each end's steps and the hosts' data put on the wire is
-- what the other receives. Any host moves at any time, on both sides.
use Rattle.std.specs.Prelude.{ℕ, ◌≤◌, ◌<◌, ◌≡◌, Bool, true, false, not, List, [], ◌∷◌, ◌++◌, length, take}
use Rattle.paper.specs.Sizes.{PDU_MAX, REPLY_MIN}
use Rattle.numbers.specs.Numbers.{NUMBERS}
use Rattle.reading.specs.declared.Charges.{Charges}
use Rattle.reading.specs.Grammar.{SmallCharges}
use Rattle.laying.specs.Laying.{data_first_bytes, data_bytes}
use Rattle.listeners.specs.Listeners.{good_list}
use Rattle.channel.specs.Channel.{View, Shut, Open}
use Rattle.connection.specs.States.{State, view}
use Rattle.demands.specs.Trace.{final}
use Rattle.demands.specs.Runs as panel
use Rattle.shore.specs.Shore.{Standing, standing, state_in}
use Rattle.shore_demands.specs.Runs as shore

-- the two ends, and the PDUs on their way to the panel and to the shore, the oldest first
pub record Ends : Type 0 where
  pub shore : Standing
  pub panel : State
  pub down : List (List ℕ)
  pub up : List (List ℕ)

-- what is sent goes behind all that is on its way; where nothing is sent, nothing goes
abbrev pub post : List (List ℕ) → List ℕ → List (List ℕ)
post queue [] = queue
post queue (b ∷ bytes) = queue ++ ((b ∷ bytes) ∷ [])

-- a call at the shore, by its contract, and what it sends
unfoldable pub at_shore : Ends → shore.Entry → List ℕ → Ends
at_shore j entry buffer =
    let g = shore.gives j.shore entry buffer in
    record {
      shore = standing g.shore g.store;
      panel = j.panel;
      down = post j.down (take g.sent g.buffer);
      up = j.up;
    }

-- a call at the panel, by its contract, and what it sends
unfoldable pub at_panel : Ends → panel.Entry → List ℕ → Ends
at_panel j entry buffer =
    let w = panel.gives j.panel entry buffer in
    record {
      shore = j.shore;
      panel = panel.leaves w;
      down = j.down;
      up = post j.up (take w.result.sent w.reply);
    }

-- ---- what can come about, each with the buffer that is lent

pub data Move : Type 0 where
  -- the shore's host
  ShoreRequests : ℕ → Charges → List ℕ → Move
  ShoreOpens : List ℕ → ℕ → List ℕ → Move
  ShoreCloses : ℕ → List ℕ → Move
  -- the panel's host
  PanelCloses : ℕ → List ℕ → Move
  -- a PDU of a host's data, to the panel and to the shore
  ShoreSends : List ℕ → Move
  PanelSends : List ℕ → Move
  -- the oldest PDU on its way is received: by the panel, with the list that its host lends; by the shore
  PanelTakes : List ℕ → List ℕ → Move
  ShoreTakes : List ℕ → Move

abbrev pub panel_takes : Ends → List (List ℕ) → List ℕ → List ℕ → Ends
panel_takes j [] list buffer = j
panel_takes j (pdu ∷ rest) list buffer =
    at_panel (record { shore = j.shore; panel = j.panel; down = rest; up = j.up }) (panel.receives list pdu) buffer

abbrev pub shore_takes : Ends → List (List ℕ) → List ℕ → Ends
shore_takes j [] buffer = j
shore_takes j (pdu ∷ rest) buffer =
    at_shore (record { shore = j.shore; panel = j.panel; down = j.down; up = rest }) (shore.receives pdu) buffer

unfoldable pub move : Ends → Move → Ends
move j (ShoreRequests version charges buffer) = at_shore j (shore.requests version charges) buffer
move j (ShoreOpens name class buffer) = at_shore j (shore.opens name class) buffer
move j (ShoreCloses n buffer) = at_shore j (shore.closes n) buffer
move j (PanelCloses n buffer) = at_panel j (panel.closes n) buffer
move j (ShoreSends pdu) = record { shore = j.shore; panel = j.panel; down = j.down ++ (pdu ∷ []); up = j.up }
move j (PanelSends pdu) = record { shore = j.shore; panel = j.panel; down = j.down; up = j.up ++ (pdu ∷ []) }
move j (PanelTakes list buffer) = panel_takes j j.down list buffer
move j (ShoreTakes buffer) = shore_takes j j.up buffer

-- ---- what is supposed of the hosts: proper buffers and lists, and data that is cut or written by us

-- a Data First or a Data as `laying` lays it, of at most 1,600 bytes: what the writers write where they don't refuse, and what
-- the cutter cuts
pub data HostData : List ℕ → Type 0 where
  data_first_law :
      (n len : ℕ) (block : List ℕ) → n < NUMBERS → len < NUMBERS → length (data_first_bytes n len block) ≤ PDU_MAX
      → HostData (data_first_bytes n len block)
  data_more : (n : ℕ) (block : List ℕ) → n < NUMBERS → length (data_bytes n block) ≤ PDU_MAX → HostData (data_bytes n block)

abbrev pub Proper : Move → Type 0
Proper (ShoreRequests version charges buffer) = SmallCharges charges × (PDU_MAX ≤ length buffer)
Proper (ShoreOpens name class buffer) = PDU_MAX ≤ length buffer
Proper (ShoreCloses n buffer) = (n < NUMBERS) × (REPLY_MIN ≤ length buffer)
Proper (PanelCloses n buffer) = (n < NUMBERS) × (REPLY_MIN ≤ length buffer)
Proper (ShoreSends pdu) = HostData pdu
Proper (PanelSends pdu) = HostData pdu
Proper (PanelTakes list buffer) = (good_list list ≡ true) × (REPLY_MIN ≤ length buffer)
Proper (ShoreTakes buffer) = REPLY_MIN ≤ length buffer

abbrev pub AllProper : List Move → Type 0
AllProper [] = Unit {0}
AllProper (m ∷ ms) = Proper m × AllProper ms

-- ---- from Start at both, each on a store of its own; "No second Start"

unfoldable pub both_started : List ℕ → List ℕ → Ends
both_started one two =
    record { shore = shore.started_on one; panel = panel.started_on two; down = []; up = [] }

unfoldable pub reached : List ℕ → List ℕ → List Move → Ends
reached one two ms = final move (both_started one two) ms

-- ---- open numbers

-- "An awaited number isn't open"
abbrev pub open_view : View → Bool
open_view Shut = false
open_view (Open r part) = not r.awaited

abbrev pub has_view : View → Bool
has_view Shut = false
has_view (Open r part) = true

unfoldable pub open_at_shore : ℕ → Ends → Bool
open_at_shore n j = open_view (view n (state_in j.shore))

unfoldable pub open_at_panel : ℕ → Ends → Bool
open_at_panel n j = has_view (view n j.panel)
