-- The runs of specs/Examples, by computing: a run of calls is a run of steps, which touch no buffer and compute with both stores
-- kept shut.
-- Assumes nothing.
use mathlib.Core.Path.{◌≡◌, refl, ap, ◌∙◌}
use mathlib.Core.Bool.{Bool, true, false}
use mathlib.Core.List.{List, [], ◌∷◌, ◌++◌}
use Prim.Native.Nat.{ℕ, ◌≤◌, ◌<◌}
use native.Mathlib.Omega.{arith}
use lib.Dec.{lit<}
use lib.ListN.{length}
use Rattle.paper.specs.Sizes.{PDU_MAX, LIST_MAX, PARTS, REPLY_MIN}
use Rattle.lists.specs.Places.{place}
use Rattle.lists.proofs.Laid.{length_zeros}
use Rattle.paper.proofs.Sizes.{twelve_fit}
use Rattle.numbers.specs.Numbers.{NUMBERS, little, bytes_of, value_of, value_at, width_of, code_for, narrowest, narrow_bytes}
use Rattle.numbers.proofs.Widths.{narrowest_le}
use Rattle.numbers.specs.Status.{signed_of, unsigned_of, status_of, status_bytes}
use Rattle.reading.specs.Reading.{named_for, create_request, create_response, closing, after_number, bad_length_width, numbered}
use Rattle.reading.specs.Reading.{by_command, read_pdu}
use Rattle.reading.specs.Reading.{charged, bad_version, by_version, capabilities}
use Rattle.reading.specs.Said.{bytes_at}
use Rattle.reading.specs.Grammar.{SmallCharges, no_charges}
use Rattle.laying.specs.Laying.{head_of, create_request_bytes, create_response_bytes, close_bytes, data_bytes, caps_head}
use Rattle.laying.specs.Laying.{caps_request_bytes, caps_response_bytes}
use Rattle.laying.proofs.Lengths.{length_data}
use Rattle.writing.specs.Writing.{bad_request, all_zero, bad_capabilities}
use Rattle.listeners.specs.Listeners.{names, ended, none_empty, same_bytes, is_one_of, all_names, good_list, is_listed}
use Rattle.channel.specs.Stages.{took}
use Rattle.channel.specs.Channel.{class_at, opened_record, opening, stage_after, part_after, landed, act}
use Rattle.table.specs.Table.{empty_table, holds, is_free, number_place, free_place, record_at, placed, with_record}
use Rattle.connection.specs.States.{view_at, view, room_at, room_in, wrote, save}
use Rattle.client.specs.Events as client
use Rattle.client.specs.Client as panel-step
use Rattle.demands.specs.Trace.{final}
use Rattle.demands.specs.Runs as panel
use Rattle.shore.specs.Rules.{awaited_record, settled_record, common, deed}
use Rattle.shore.specs.Rules as rules
use Rattle.shore.specs.Numbers.{least_from, least_number}
use Rattle.shore.specs.Events.{event_of}
use Rattle.shore.specs.Shore.{asking, readied, responded, all_taken, awaiting, finished, done, stepped, started}
use Rattle.shore.specs.Shore as shore-step
use Rattle.shore_demands.specs.Runs as shore
use Rattle.joined.specs.Ends.{Ends, Move, ShoreRequests, ShoreOpens, ShoreCloses, PanelCloses, ShoreSends, PanelSends, PanelTakes}
use Rattle.joined.specs.Ends.{ShoreTakes, panel_takes, shore_takes, move, HostData, data_more, Proper, AllProper, both_started}
use Rattle.joined.specs.Ends.{reached, open_at_shore, open_at_panel}
use Rattle.joined.specs.Examples.{buffer, NAME, LIST, message, opens, panel_hears as hears-one, shore_hears as shore-one}
use Rattle.joined.specs.Examples.{shaken, opened}
use Rattle.joined.specs.Examples.{declining, exchanging, crossing, answering, seen, settled, Comes, NotEmpty}
use Rattle.joined.proofs.Bytes.{nine_fit}
use Rattle.joined.proofs.Meeting.{Tied, with_down, with_up, panel_steps, shore_steps, at_panel_law, at_shore_law, move_tied, start_tied}

-- ---- a run by steps

-- the panel takes the oldest
abbrev panel_hears : Ends → List (List ℕ) → List ℕ → Ends
panel_hears j [] list = j
panel_hears j (pdu ∷ rest) list = panel_steps (with_down j rest) (panel.event_in (panel.receives list pdu))

-- the shore takes the oldest
abbrev shore_hears : Ends → List (List ℕ) → Ends
shore_hears j [] = j
shore_hears j (pdu ∷ rest) = shore_steps (with_up j rest) (shore.event_in (shore.receives pdu))

-- a move with no buffers
unfoldable step : Ends → Move → Ends
step j (ShoreRequests version charges buffer) = shore_steps j (shore.event_in (shore.requests version charges))
step j (ShoreOpens name class buffer) = shore_steps j (shore.event_in (shore.opens name class))
step j (ShoreCloses n buffer) = shore_steps j (shore.event_in (shore.closes n))
step j (PanelCloses n buffer) = panel_steps j (panel.event_in (panel.closes n))
step j (ShoreSends pdu) = with_down j (j.down ++ (pdu ∷ []))
step j (PanelSends pdu) = with_up j (j.up ++ (pdu ∷ []))
step j (PanelTakes list buffer) = panel_hears j j.down list
step j (ShoreTakes buffer) = shore_hears j j.up

-- as the call does
panel_hears_law :
    (j : Ends) → Tied j → (queue : List (List ℕ)) (list buffer : List ℕ) → REPLY_MIN ≤ length buffer
    → panel_takes j queue list buffer ≡ panel_hears j queue list
panel_hears_law j t [] list buffer h = refl
panel_hears_law j t (pdu ∷ rest) list buffer h = at_panel_law (with_down j rest) t.panel_calm (panel.receives list pdu) buffer h

-- as the call does
shore_hears_law :
    (j : Ends) → Tied j → (queue : List (List ℕ)) (buffer : List ℕ) → REPLY_MIN ≤ length buffer → shore_takes j queue buffer ≡ shore_hears j queue
shore_hears_law j t [] buffer h = refl
shore_hears_law j t (pdu ∷ rest) buffer h = at_shore_law (with_up j rest) t.shore_calm (shore.receives pdu) buffer h

-- every proper move is its step
move_step : (j : Ends) → Tied j → (m : Move) → Proper m → move j m ≡ step j m
unfolding move step
move_step j t (ShoreRequests version charges buffer) z = at_shore_law j t.shore_calm (shore.requests version charges) buffer z.1
move_step j t (ShoreOpens name class buffer) z = at_shore_law j t.shore_calm (shore.opens name class) buffer z
move_step j t (ShoreCloses n buffer) z = at_shore_law j t.shore_calm (shore.closes n) buffer z.1
move_step j t (PanelCloses n buffer) z = at_panel_law j t.panel_calm (panel.closes n) buffer z.1
move_step j t (ShoreSends pdu) z = refl
move_step j t (PanelSends pdu) z = refl
move_step j t (PanelTakes list buffer) z = panel_hears_law j t j.down list buffer z.1
move_step j t (ShoreTakes buffer) z = shore_hears_law j t j.up buffer z

-- and a run is a run of steps
run_steps : (j : Ends) → Tied j → (ms : List Move) → AllProper ms → final move j ms ≡ final step j ms
run_steps j t [] z = refl
run_steps j t (m ∷ ms) z =
    run_steps (move j m) (move_tied j t m z.0) ms z.1 ∙ ap (λ (k : Ends). final step k ms) (move_step j t m z.0)

-- ---- every move of the runs is proper

-- a buffer of a PDU's size
roomy : PDU_MAX ≤ length buffer
unfolding buffer
roomy = omega (arith, length_zeros PDU_MAX)

-- holds a reply
enough : REPLY_MIN ≤ length buffer
enough = omega (arith, roomy, nine_fit)

-- a list within its rule
hears : (good_list LIST ≡ true) × (REPLY_MIN ≤ length buffer)
unfolding LIST good_list LIST_MAX all_names none_empty names same_bytes ended
hears = (refl, enough)

-- the empty list too
hears_none : (good_list [] ≡ true) × (REPLY_MIN ≤ length buffer)
unfolding good_list LIST_MAX all_names none_empty names same_bytes ended
hears_none = (refl, enough)

-- a number of four bytes
closes : (1 < NUMBERS) × (REPLY_MIN ≤ length buffer)
closes = (lit< tt, enough)

-- no charges
free : SmallCharges no_charges
free = record { small0 = lit< tt; small1 = lit< tt; small2 = lit< tt; small3 = lit< tt }

-- one Data
is_data_law : HostData message
unfolding message
is_data_law = data_more 1 (7 ∷ []) (lit< tt) (omega (arith, length_data 1 (7 ∷ []), narrowest_le 1, twelve_fit))

-- the handshake
shaken_proper : (ms : List Move) → AllProper ms → AllProper (shaken ms)
shaken_proper ms z = ((free, roomy), (hears, (enough, z)))

-- and a local open
opened_proper : (ms : List Move) → AllProper ms → AllProper (opened ms)
opened_proper ms z = shaken_proper (opens ∷ hears-one ∷ shore-one ∷ ms) (roomy, (hears, (enough, z)))

-- ---- by computing, with both stores kept shut

-- what a run comes to
abbrev Computes : List Move → Bool → Type 0
Computes ms is_open = (one two : List ℕ) → seen (final step (both_started one two) ms) ≡ settled is_open

-- all five
computed :
    Computes (opened []) true
    × (Computes (shaken declining) false × (Computes (opened exchanging) true × (Computes (opened crossing) true × Computes (opened answering) true)))
unfolding open_at_shore open_at_panel step both_started NAME LIST message
    panel.started_on panel.event_in client.event_of client.create_act panel-step.started panel-step.stepped panel-step.readied panel-step.acted panel-step.finished
    shore.started_on shore.event_in started stepped asking responded readied shore-step.opening all_taken awaiting done finished event_of least_number least_from
    deed common rules.settled settled_record awaited_record act opening opened_record landed took stage_after part_after class_at view view_at room_in room_at save wrote
    empty_table free_place number_place place is_free holds with_record placed record_at PARTS PDU_MAX
    head_of code_for narrow_bytes narrowest width_of bytes_of value_at value_of little status_bytes unsigned_of status_of signed_of
    caps_head caps_request_bytes caps_response_bytes create_request_bytes create_response_bytes close_bytes data_bytes bad_request bad_capabilities all_zero
    read_pdu by_command capabilities by_version bad_version charged numbered bad_length_width after_number create_request named_for create_response closing bytes_at
    good_list LIST_MAX all_names none_empty names same_bytes ended is_listed is_one_of
computed = (λ one two. refl, (λ one two. refl, (λ one two. refl, (λ one two. refl, λ one two. refl))))

-- so of the calls
by_steps : (ms : List Move) (is_open : Bool) → AllProper ms → Computes ms is_open → Comes ms is_open
unfolding reached
by_steps ms is_open z e one two h k = (z, ap seen (run_steps (both_started one two) (start_tied one two h k) ms z) ∙ e one two)

-- behind a local open
once_open : (ms : List Move) → AllProper ms → Computes (opened ms) true → Comes (opened ms) true
once_open ms z e = by_steps (opened ms) true (opened_proper ms z) e

-- each run
pub not_empty : NotEmpty
not_empty =
    record {
      opened_once = once_open [] tt computed.0;
      declined = by_steps (shaken declining) false (shaken_proper declining (roomy, (hears_none, (enough, tt)))) computed.1.0;
      with_data = once_open exchanging (is_data_law, (is_data_law, (hears, (enough, tt)))) computed.1.1.0;
      closes_cross = once_open crossing (closes, (closes, (roomy, (enough, (hears, (hears, (enough, tt))))))) computed.1.1.1.0;
      close_answered = once_open answering (closes, (roomy, (hears, (hears, (enough, (enough, tt)))))) computed.1.1.1.1;
    }
