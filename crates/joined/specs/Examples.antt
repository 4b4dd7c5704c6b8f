-- The statement is not empty: runs over bytes, from Start at both on any stores, at whose end nothing is on its way.
use Rattle.std.specs.Prelude.{ℕ, ◌≡◌, Bool, true, false, List, [], ◌∷◌, length}
use Rattle.paper.specs.Sizes.{PDU_MAX, STORE}
use Rattle.lists.specs.Bytes.{zeros}
use Rattle.reading.specs.Grammar.{no_charges}
use Rattle.laying.specs.Laying.{data_bytes}
use Rattle.joined.specs.Ends.{Ends, Move, ShoreRequests, ShoreOpens, ShoreCloses, PanelCloses, ShoreSends, PanelSends, PanelTakes, ShoreTakes}
use Rattle.joined.specs.Ends.{AllProper, reached, open_at_shore, open_at_panel}

-- ---- the moves, each with a buffer of a PDU's size

unfoldable pub buffer : List ℕ
buffer = zeros PDU_MAX

-- "a", and a list of that name
unfoldable pub NAME : List ℕ
NAME = 97 ∷ []

unfoldable pub LIST : List ℕ
LIST = 97 ∷ 0 ∷ []

-- a message of one byte on number 1
unfoldable pub message : List ℕ
message = data_bytes 1 (7 ∷ [])

-- version 3 with no charges
abbrev pub requests : Move
requests = ShoreRequests 3 no_charges buffer

-- of class 1
abbrev pub opens : Move
opens = ShoreOpens NAME 1 buffer

abbrev pub panel_hears : Move
panel_hears = PanelTakes LIST buffer

abbrev pub shore_hears : Move
shore_hears = ShoreTakes buffer

abbrev pub shore_closes : Move
shore_closes = ShoreCloses 1 buffer

abbrev pub panel_closes : Move
panel_closes = PanelCloses 1 buffer

-- ---- the runs

-- the handshake
abbrev pub shaken : List Move → List Move
shaken ms = requests ∷ panel_hears ∷ shore_hears ∷ ms

-- and a local open, to which the panel says yes
abbrev pub opened : List Move → List Move
opened ms = shaken (opens ∷ panel_hears ∷ shore_hears ∷ ms)

-- or no: its host lends an empty list
abbrev pub declining : List Move
declining = opens ∷ PanelTakes [] buffer ∷ shore_hears ∷ []

-- data goes both ways
abbrev pub exchanging : List Move
exchanging = ShoreSends message ∷ PanelSends message ∷ panel_hears ∷ shore_hears ∷ []

-- both hosts close, and the shore's opens the number anew: the panel's Close comes to the awaited number, and the shore's to a
-- panel that has closed
abbrev pub crossing : List Move
crossing = panel_closes ∷ shore_closes ∷ opens ∷ shore_hears ∷ panel_hears ∷ panel_hears ∷ shore_hears ∷ []

-- the shore's host closes and opens the number anew: the reply to its Close comes to the awaited number
abbrev pub answering : List Move
answering = shore_closes ∷ opens ∷ panel_hears ∷ panel_hears ∷ shore_hears ∷ shore_hears ∷ []

-- ---- what they come to

-- what is on its way, and whether number 1 is open at each end
pub record Seen : Type 0 where
  pub down : List (List ℕ)
  pub up : List (List ℕ)
  pub at_shore_law : Bool
  pub at_panel_law : Bool

abbrev pub seen : Ends → Seen
seen j = record { down = j.down; up = j.up; at_shore_law = open_at_shore 1 j; at_panel_law = open_at_panel 1 j }

-- nothing is on its way, and number 1 is open at both or at neither
abbrev pub settled : Bool → Seen
settled is_open = record { down = []; up = []; at_shore_law = is_open; at_panel_law = is_open }

abbrev pub Comes : List Move → Bool → Type 0
Comes ms is_open =
    (one two : List ℕ) → length one ≡ STORE → length two ≡ STORE → AllProper ms × (seen (reached one two ms) ≡ settled is_open)

-- the five runs
pub record NotEmpty : Type 0 where
  pub opened_once : Comes (opened []) true
  pub declined : Comes (shaken declining) false
  pub with_data : Comes (opened exchanging) true
  pub closes_cross : Comes (opened crossing) true
  pub close_answered : Comes (opened answering) true
