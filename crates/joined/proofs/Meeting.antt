-- The joined ends: the invariant, which every proper move keeps from Start at both ends. Each number is tied; what is on its way
-- can be read; and the panel is ready before anything of a number is sent.
-- Assumes nothing.
use mathlib.Core.Path.{◌≡◌, refl, sym, ap, ◌∙◌, subst}
use mathlib.Core.Logic.{◌≢◌, ⊎_elim}
use mathlib.Core.Bool.{Bool, true, false, false≢true}
use mathlib.Core.List.{List, [], ◌∷◌, ◌++◌}
use Prim.Native.Nat.{ℕ, ◌≤◌}
use native.Mathlib.Omega.{arith}
use lib.ListN.{length}
use Rattle.paper.specs.Sizes.{STORE, REPLY_MIN}
use Rattle.lists.specs.Bytes.{zeros}
use Rattle.reading.specs.declared.Charges.{Charges}
use Rattle.reading.specs.Grammar.{Value}
use Rattle.channel.specs.Channel.{Shut, LocalClose}
use Rattle.table.specs.declared.Table.{Table}
use Rattle.table.specs.Table.{empty_table, number_place, record_at}
use Rattle.connection.specs.States.{State, state_of, view_at, view}
use Rattle.client.specs.Events as client
use Rattle.client.specs.Client as panel-step
use Rattle.steps.specs.States.{Calm, FineEvent}
use Rattle.steps.proofs.Calm.{sane_steady, calm_step}
use Rattle.steps.proofs.Channels as channels
use Rattle.steps.proofs.Widths.{event_of_value, encoded_event}
use Rattle.demands.specs.Trace.{final}
use Rattle.demands.specs.Runs as panel
use Rattle.demands.proofs.Machine as panel-call
use Rattle.demands.proofs.Orders as orders
use Rattle.shore.specs.Rules.{Acts}
use Rattle.shore.specs.Events.{Event, Asking, Response, Opening, Of}
use Rattle.shore.specs.Shore.{Standing, state_in, readied, stepped}
use Rattle.shore_demands.specs.Runs as shore
use Rattle.shore_demands.proofs.Frame as frame
use Rattle.shore_demands.proofs.Machine as shore-call
use Rattle.shore_demands.proofs.Ready as ready
use Rattle.joined.specs.Ends.{Ends, post, at_shore, at_panel, Move, ShoreRequests, ShoreOpens, ShoreCloses, PanelCloses}
use Rattle.joined.specs.Ends.{ShoreSends, PanelSends, PanelTakes}
use Rattle.joined.specs.Ends.{ShoreTakes, panel_takes, shore_takes, move, HostData, Proper, AllProper, both_started, reached, has_view}
use Rattle.joined.proofs.Ties.{Down, Up, tie}
use Rattle.shore_demands.proofs.Values.{event_of_value as said_by}
use Rattle.joined.proofs.Queues.{Sent, AllSent, sent_app, marks, marks_head, posted, sent_post, post_silent, down_of, up_of, response_in}
use Rattle.joined.proofs.Queues.{response_of, downs, ups, responses}
use Rattle.joined.proofs.Bytes.{data_sent, data_silent, sent_within, shore_event}
use Rattle.joined.proofs.Panel as at-the-panel
use Rattle.joined.proofs.Shore as at-the-shore
use Rattle.joined.proofs.Shore.{stand_of}

-- ---- the invariant

-- until the panel is ready the shore isn't, no response is on its way, and nothing of any number
pub record Early (j : Ends) : Type 0 where
  pub shore_unready : j.shore.shore.table.ready ≡ false
  pub no_response : responses j.up ≡ []
  pub no_number : (n : ℕ) → downs n j.down ≡ []

pub record Tied (j : Ends) : Type 0 where
  pub shore_calm : Calm (state_in j.shore)
  pub panel_calm : Calm j.panel
  pub down_sent : AllSent true j.down
  pub up_sent : AllSent false j.up
  pub early : j.panel.table.ready ≡ false → Early j
  pub still : j.shore.shore.table.ready ≡ false → (n : ℕ) → view n (state_in j.shore) ≡ Shut
  pub ties : (n : ℕ) → tie (stand_of (view n (state_in j.shore))) (has_view (view n j.panel)) (downs n j.down) (ups n j.up) ≡ true

-- ---- calls are steps

-- another queue to the panel
abbrev pub with_down : Ends → List (List ℕ) → Ends
with_down j queue = record { shore = j.shore; panel = j.panel; down = queue; up = j.up }

-- another queue to the shore
abbrev pub with_up : Ends → List (List ℕ) → Ends
with_up j queue = record { shore = j.shore; panel = j.panel; down = j.down; up = queue }

-- a step at the panel
abbrev pub panel_steps : Ends → client.Event → Ends
panel_steps j e =
    let s = panel-step.stepped j.panel e in
    record { shore = j.shore; panel = s.state; down = j.down; up = post j.up s.reply }

-- a step at the shore
abbrev pub shore_steps : Ends → Event → Ends
shore_steps j e =
    let s = stepped j.shore e in
    record { shore = s.state; panel = j.panel; down = post j.down s.sent; up = j.up }

-- ends that are alike
same_ends :
    {s t : Standing} {p o : State} {d c u v : List (List ℕ)} → s ≡ t → p ≡ o → d ≡ c → u ≡ v
    → ◌≡◌ {A = Ends} (record { shore = s; panel = p; down = d; up = u }) (record { shore = t; panel = o; down = c; up = v })
same_ends a b c d = cc

-- a proper call at the panel
pub at_panel_law :
    (j : Ends) → Calm j.panel → (entry : panel.Entry) (buffer : List ℕ) → REPLY_MIN ≤ length buffer
    → at_panel j entry buffer ≡ panel_steps j (panel.event_in entry)
unfolding at_panel panel.after
at_panel_law j g entry buffer enough =
    let c : panel.Call = record { asked = entry; reply = buffer; enough = enough } in
    same_ends refl (panel-call.call_state j.panel c g.sane) refl (ap (post j.up) (at-the-panel.call_reply j.panel c g))

-- a proper call at the shore
pub at_shore_law :
    (j : Ends) → Calm (state_in j.shore) → (entry : shore.Entry) (buffer : List ℕ) → shore.room_for entry ≤ length buffer
    → at_shore j entry buffer ≡ shore_steps j (shore.event_in entry)
unfolding at_shore shore.after shore.told
at_shore_law j g entry buffer enough =
    let c : shore.Call = record { asked = entry; buffer = buffer; enough = enough } in
    same_ends (shore-call.call_state j.shore c g.sane) refl
    (ap (λ (t : shore.Told). post j.down t.sent) (shore-call.call_told j.shore c g.sane)) refl

-- nothing on its way has nothing behind its front
rest_none : {A : Type 0} (x y : List A) → x ++ y ≡ [] → (x ≡ []) × (y ≡ [])
rest_none [] y e = (refl, e)
rest_none (a ∷ x) y e = let z : ◌≡◌ {A = ℕ} 0 1 = cc in absurd (omega arith)

-- a response that is taken makes ready
made_ready : (table : Table) (level : ℕ) → (readied table level).ready ≡ true
unfolding readied
made_ready table level = refl

-- a PDU that says nothing so, behind the others
silent : {A : Type 0} {dir : Bool} {pdu : List ℕ} (of : Value → List A) (queue : List (List ℕ)) (s : Sent dir pdu) → of s.value ≡ []
    → marks dir of (queue ++ (pdu ∷ [])) ≡ marks dir of queue
silent {A} {dir} of queue s e = ap (marks dir of) (sym (posted s.encodes queue)) ∙ post_silent of queue s e

-- what says no response is none
not_response : (e : Event) → response_in e ≡ [] → (version : ℕ) → e ≢ Response version
not_response e h version is = let r = sym h ∙ ap response_in is in let z : ◌≡◌ {A = ℕ} 0 1 = cc in omega arith

-- what is received, as an event
pub panel_event : (list : List ℕ) {pdu : List ℕ} (s : Sent true pdu) → panel.event_in (panel.receives list pdu) ≡ event_of_value list s.value
unfolding panel.event_in
panel_event list {pdu} s = encoded_event s.value pdu s.encodes s.short_enough list

-- at the shore
pub shore_event_in : {pdu : List ℕ} (s : Sent false pdu) → shore.event_in (shore.receives pdu) ≡ said_by s.value
unfolding shore.event_in
shore_event_in s = shore_event s

module _ (j : Ends) (t : Tied j) where
  -- ---- an event at the panel, which takes x of what is on its way

  module _
      (e : client.Event) (fine : FineEvent e) (small : at-the-panel.Small e)
      (rest : List (List ℕ)) (sent : AllSent true rest) (x : ℕ → List Down) (front : (n : ℕ) → downs n j.down ≡ x n ++ downs n rest)
      (keeps : at-the-panel.Keeps j.panel t.panel_calm e x) where
    -- a panel that is still not ready
    panel_early : (panel-step.stepped j.panel e).state.table.ready ≡ false → Early (panel_steps (with_down j rest) e)
    panel_early h = go j.panel.table.ready refl
      where
        go : (b : Bool) → j.panel.table.ready ≡ b → Early (panel_steps (with_down j rest) e)
        go true r = absurd (false≢true (sym h ∙ (channels.step_steady j.panel (sane_steady j.panel t.panel_calm.sane r) e fine).ready))
        go false r =
            let a = t.early r in
            let quiet = at-the-panel.step_unready j.panel e r h in
            record {
              shore_unready = a.shore_unready;
              no_response = rw quiet a.no_response;
              no_number = λ n. (rest_none (x n) (downs n rest) (sym (front n) ∙ a.no_number n)).1;
            }

    -- the invariant then
    panel_moves : Tied (panel_steps (with_down j rest) e)
    panel_moves =
        record {
          shore_calm = t.shore_calm;
          panel_calm = calm_step j.panel t.panel_calm e fine;
          down_sent = sent;
          up_sent = sent_post false j.up (panel-step.stepped j.panel e).reply t.up_sent (at-the-panel.step_sent j.panel e small);
          early = panel_early;
          still = t.still;
          ties =
              λ n. keeps n (λ r. (rest_none (x n) (downs n rest) (sym (front n) ∙ (t.early r).no_number n)).0) (stand_of (view n (state_in j.shore)))
              (downs n rest) j.up (rw (front n) at (t.ties n));
        }

  -- ---- an event at the shore, which takes y of what is on its way

  module _
      (e : Event) (fine : at-the-shore.Fine e) (rest : List (List ℕ)) (sent : AllSent false rest) (y : ℕ → List Up)
      (front : (n : ℕ) → ups n j.up ≡ y n ++ ups n rest) (keeps : at-the-shore.Keeps j.shore t.shore_calm e y)
      (before : responses j.up ≡ [] → (response_in e ≡ []) × (responses rest ≡ [])) where
    -- a panel that is not ready
    shore_early : j.panel.table.ready ≡ false → Early (shore_steps (with_up j rest) e)
    shore_early h =
        let a = t.early h in
        let b = before a.no_response in
        record {
          shore_unready =
              ⊎_elim (λ s. ap (λ (x : State). x.table.ready) s ∙ a.shore_unready) (λ s. absurd (not_response e b.0 s.version s.event))
              (frame.early_state j.shore a.shore_unready e);
          no_response = b.1;
          no_number = λ n. at-the-shore.step_unready j.shore e fine a.shore_unready n j.down ∙ a.no_number n;
        }

    -- a shore that is still not ready
    shore_still : (stepped j.shore e).state.shore.table.ready ≡ false → (n : ℕ) → view n (state_in (stepped j.shore e).state) ≡ Shut
    shore_still h n = go j.shore.shore.table.ready refl
      where
        go : (b : Bool) → j.shore.shore.table.ready ≡ b → view n (state_in (stepped j.shore e).state) ≡ Shut
        go true r = absurd (false≢true (sym h ∙ (frame.step_steady j.shore (sane_steady (state_in j.shore) t.shore_calm.sane r) e).ready))
        go false r =
            ⊎_elim (λ s. ap (view n) s ∙ t.still r n)
            (λ s. absurd (false≢true (sym h ∙ ap (λ (x : State). x.table.ready) s.state ∙ made_ready j.shore.shore.table _)))
            (frame.early_state j.shore r e)

    -- the invariant then
    shore_moves : Tied (shore_steps (with_up j rest) e)
    shore_moves =
        record {
          shore_calm = frame.calm_step j.shore t.shore_calm e (at-the-shore.fine_event e fine);
          panel_calm = t.panel_calm;
          down_sent = sent_post true j.down (stepped j.shore e).sent t.down_sent (at-the-shore.step_sends j.shore e fine);
          up_sent = sent;
          early = shore_early;
          still = shore_still;
          ties = λ n. keeps n (λ r. t.still r n) (has_view (view n j.panel)) j.down (ups n rest) (rw (front n) at (t.ties n));
        }

  -- ---- each move

  -- the panel's host closes
  panel_closes_law : (n : ℕ) (buffer : List ℕ) → Proper (PanelCloses n buffer) → Tied (move j (PanelCloses n buffer))
  unfolding move panel.event_in
  panel_closes_law n buffer z =
      subst Tied (sym (at_panel_law j t.panel_calm (panel.closes n) buffer z.1))
      (panel_moves (client.Of n LocalClose) tt z.0 j.down t.down_sent (λ m. []) (λ m. refl) (at-the-panel.closes j.panel t.panel_calm n z.0))

  -- the panel takes a PDU
  panel_takes_law :
      (list buffer : List ℕ) → Proper (PanelTakes list buffer) → (queue : List (List ℕ)) → j.down ≡ queue → Tied (panel_takes j queue list buffer)
  panel_takes_law list buffer z [] e = t
  panel_takes_law list buffer z (pdu ∷ rest) e =
      let a : AllSent true (pdu ∷ rest) = rw e at t.down_sent in
      let s = a.0 in
      let event = panel_event list s in
      let fine : FineEvent (event_of_value list s.value) = subst FineEvent event (panel-call.fine_call (panel.receives list pdu)) in
      subst Tied (sym (at_panel_law (with_down j rest) t.panel_calm (panel.receives list pdu) buffer z.1 ∙ ap (panel_steps (with_down j rest)) event))
      (panel_moves (event_of_value list s.value) fine (at-the-panel.taken_small list s.value (sent_within s)) rest a.1 (λ n. down_of n s.value)
      (λ n. ap (downs n) e ∙ marks_head (down_of n) s rest) (at-the-panel.takes j.panel t.panel_calm list z.0 s.value (sent_within s) fine))

  -- the shore takes a PDU
  shore_takes_law : (buffer : List ℕ) → Proper (ShoreTakes buffer) → (queue : List (List ℕ)) → j.up ≡ queue → Tied (shore_takes j queue buffer)
  shore_takes_law buffer z [] e = t
  shore_takes_law buffer z (pdu ∷ rest) e =
      let a : AllSent false (pdu ∷ rest) = rw e at t.up_sent in
      let s = a.0 in
      subst Tied (sym (at_shore_law (with_up j rest) t.shore_calm (shore.receives pdu) buffer z ∙ ap (shore_steps (with_up j rest)) (shore_event_in s)))
      (shore_moves (said_by s.value) (at-the-shore.taken_fine s.value (sent_within s)) rest a.1 (λ n. up_of n s.value)
      (λ n. ap (ups n) e ∙ marks_head (up_of n) s rest) (at-the-shore.takes j.shore t.shore_calm s.value (sent_within s))
      (λ h. rest_none (response_of s.value) (responses rest) (sym (marks_head response_of s rest) ∙ ap responses (sym e) ∙ h)))

  -- the shore's host: what it asks takes nothing
  shore_calls :
      (entry : shore.Entry) (buffer : List ℕ) → shore.room_for entry ≤ length buffer → (e : Event) → shore.event_in entry ≡ e → at-the-shore.Fine e
      → at-the-shore.Keeps j.shore t.shore_calm e (λ n. []) → response_in e ≡ [] → Tied (at_shore j entry buffer)
  shore_calls entry buffer enough e is fine keeps other =
      subst Tied (sym (at_shore_law j t.shore_calm entry buffer enough ∙ ap (shore_steps j) is))
      (shore_moves e fine j.up t.up_sent (λ n. []) (λ n. refl) keeps (λ h. (other, h)))

  -- the request
  shore_requests :
      (version : ℕ) (charges : Charges) (buffer : List ℕ) → Proper (ShoreRequests version charges buffer)
      → Tied (at_shore j (shore.requests version charges) buffer)
  unfolding shore.event_in
  shore_requests version charges buffer z =
      shore_calls (shore.requests version charges) buffer z.1 (Asking version charges) refl z.0
      (at-the-shore.asks j.shore t.shore_calm version charges z.0) refl

  -- a local open
  shore_opens : (name : List ℕ) (class : ℕ) (buffer : List ℕ) → Proper (ShoreOpens name class buffer) → Tied (at_shore j (shore.opens name class) buffer)
  unfolding shore.event_in
  shore_opens name class buffer z =
      shore_calls (shore.opens name class) buffer z (Opening name class) refl tt
      (at-the-shore.opens j.shore t.shore_calm name class) refl

  -- a local close
  shore_closes_law : (n : ℕ) (buffer : List ℕ) → Proper (ShoreCloses n buffer) → Tied (at_shore j (shore.closes n) buffer)
  unfolding shore.event_in
  shore_closes_law n buffer z =
      shore_calls (shore.closes n) buffer z.1 (Of n (Acts LocalClose)) refl z.0
      (at-the-shore.closes j.shore t.shore_calm n z.0) refl

  -- the hosts' data
  shore_sends : (pdu : List ℕ) → HostData pdu → Tied (with_down j (j.down ++ (pdu ∷ [])))
  shore_sends pdu h =
      let s = data_sent true h in
      let same : (n : ℕ) → downs n (j.down ++ (pdu ∷ [])) ≡ downs n j.down = λ n. silent (down_of n) j.down s (data_silent true h n).0 in
      record {
        shore_calm = t.shore_calm;
        panel_calm = t.panel_calm;
        down_sent = sent_app true j.down (pdu ∷ []) t.down_sent (s, tt);
        up_sent = t.up_sent;
        early =
            λ r. let a = t.early r in
            record { shore_unready = a.shore_unready; no_response = a.no_response; no_number = λ n. same n ∙ a.no_number n };
        still = t.still;
        ties = λ n. rw (same n) (t.ties n);
      }

  -- to the shore
  panel_sends : (pdu : List ℕ) → HostData pdu → Tied (with_up j (j.up ++ (pdu ∷ [])))
  panel_sends pdu h =
      let s = data_sent false h in
      let same : (n : ℕ) → ups n (j.up ++ (pdu ∷ [])) ≡ ups n j.up = λ n. silent (up_of n) j.up s (data_silent false h n).1.0 in
      record {
        shore_calm = t.shore_calm;
        panel_calm = t.panel_calm;
        down_sent = t.down_sent;
        up_sent = sent_app false j.up (pdu ∷ []) t.up_sent (s, tt);
        early =
            λ r. let a = t.early r in
            record {
              shore_unready = a.shore_unready;
              no_response = silent response_of j.up s (data_silent false h 0).1.1 ∙ a.no_response;
              no_number = a.no_number;
            };
        still = t.still;
        ties = λ n. rw (same n) (t.ties n);
      }

  -- every proper move
  pub move_tied : (m : Move) → Proper m → Tied (move j m)
  unfolding move
  move_tied (ShoreRequests version charges buffer) z = shore_requests version charges buffer z
  move_tied (ShoreOpens name class buffer) z = shore_opens name class buffer z
  move_tied (ShoreCloses n buffer) z = shore_closes_law n buffer z
  move_tied (PanelCloses n buffer) z = panel_closes_law n buffer z
  move_tied (ShoreSends pdu) z = shore_sends pdu z
  move_tied (PanelSends pdu) z = panel_sends pdu z
  move_tied (PanelTakes list buffer) z = panel_takes_law list buffer z j.down refl
  move_tied (ShoreTakes buffer) z = shore_takes_law buffer z j.up refl

-- ---- from Start at both ends

-- the empty table has no number
empty_shut : (n : ℕ) (store : List ℕ) → view n (state_of empty_table store) ≡ Shut
unfolding view view_at number_place record_at
empty_shut n store = orders.empty_shut n 0 store

-- the invariant holds there
pub start_tied : (one two : List ℕ) → length one ≡ STORE → length two ≡ STORE → Tied (both_started one two)
unfolding both_started
start_tied one two h k =
    let a = ap state_in (ready.started_is one h) in
    let unready : (state_in (shore.started_on one)).table.ready ≡ false = ap (λ (s : State). s.table.ready) a ∙ orders.empty_unready in
    let shut : (n : ℕ) → view n (state_in (shore.started_on one)) ≡ Shut = λ n. ap (view n) a ∙ empty_shut n (zeros STORE) in
    let panel_shut : (n : ℕ) → view n (panel.started_on two) ≡ Shut = λ n. ap (view n) (orders.started_is two k) ∙ empty_shut n (zeros STORE) in
    record {
      shore_calm = ready.calm_started one h;
      panel_calm = orders.calm_started two k;
      down_sent = tt;
      up_sent = tt;
      early = λ r. record { shore_unready = unready; no_response = refl; no_number = λ n. refl };
      still = λ r. shut;
      ties = λ n. rw (shut n, panel_shut n);
    }

-- and on
run_tied : (j : Ends) (ms : List Move) → Tied j → AllProper ms → Tied (final move j ms)
run_tied j [] t z = t
run_tied j (m ∷ ms) t z = run_tied (move j m) ms (move_tied j t m z.0) z.1

-- so whatever came about
pub reached_tied : (one two : List ℕ) → length one ≡ STORE → length two ≡ STORE → (ms : List Move) → AllProper ms → Tied (reached one two ms)
unfolding reached
reached_tied one two h k ms z = run_tied (both_started one two) ms (start_tied one two h k) z
