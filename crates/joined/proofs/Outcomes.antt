-- What the invariant says: at any time, and once every sent PDU has been received.
-- Assumes nothing.
use Rattle.std.specs.Prelude.{Option}
use mathlib.Core.Path.{◌≡◌, refl, sym, ap, ◌∙◌}
use mathlib.Core.Logic.{◌≢◌}
use mathlib.Core.Bool.{Bool, true, false, not, true≢false}
use mathlib.Core.List.{List, [], ◌∷◌}
use Prim.Native.Nat.{ℕ, ◌≤◌}
use lib.ListN.{length}
use Rattle.paper.specs.Sizes.{REPLY_MIN}
use Rattle.paper.specs.declared.Refusal.TheVariants.{AlreadyOpen, NotAwaited}
use Rattle.listeners.specs.Listeners.{good_list}
use Rattle.channel.specs.declared.Record.{Record}
use Rattle.channel.specs.declared.Answer.TheVariants as answer
use Rattle.channel.specs.Channel.{View, Shut, Open}
use Rattle.connection.specs.States.{view}
use Rattle.client.specs.Events as client
use Rattle.client.specs.Client.{Whole, whole_of}
use Rattle.client.specs.Client as panel-step
use Rattle.steps.proofs.Widths.{event_of_value}
use Rattle.demands.specs.Runs as panel
use Rattle.demands.proofs.Machine as panel-call
use Rattle.shore.specs.declared.Said.TheVariants as said
use Rattle.shore.specs.Events.{Event}
use Rattle.shore.specs.Shore.{state_in, stepped}
use Rattle.shore_demands.specs.Runs as shore
use Rattle.shore_demands.proofs.Machine as shore-call
use Rattle.joined.specs.Ends.{Ends, open_view, has_view, open_at_shore, open_at_panel}
use Rattle.joined.proofs.Ties.{tie, stands, drained}
use Rattle.shore_demands.proofs.Values.{event_of_value as said_by}
use Rattle.joined.proofs.Queues.{AllSent, marks_head, down_of, up_of, downs, ups}
use Rattle.joined.proofs.Panel as at-the-panel
use Rattle.joined.proofs.Panel.{fair}
use Rattle.joined.proofs.Shore as at-the-shore
use Rattle.joined.proofs.Shore.{stand_if, stand_of, fair_said}
use Rattle.joined.proofs.Meeting.{Tied, panel_event, shore_event_in}

-- an awaited number isn't open
stand_open : (v : View) → stands (stand_of v) ≡ open_view v
stand_open Shut = refl
stand_open (Open r part) = go r.awaited
  where
    go : (t : Bool) → stands (stand_if t) ≡ not t
    go true = refl
    go false = refl

module _ (j : Ends) (t : Tied j) where
  -- ---- once all is received

  module _ (d : j.down ≡ []) (u : j.up ≡ []) (n : ℕ) where
    -- a number is tied with nothing on its way
    tied_so : tie (stand_of (view n (state_in j.shore))) (has_view (view n j.panel)) [] [] ≡ true
    tied_so = rw (d, u) at (t.ties n)

    -- both have it open or neither has
    pub same_open : open_at_shore n j ≡ open_at_panel n j
    unfolding open_at_shore open_at_panel
    same_open = sym (stand_open (view n (state_in j.shore))) ∙ (drained (stand_of (view n (state_in j.shore))) (has_view (view n j.panel)) tied_so).0

    -- and it isn't awaited
    pub not_awaited : (r : Record) (bytes : List ℕ) → view n (state_in j.shore) ≡ Open r bytes → r.awaited ≡ false
    not_awaited r bytes v = go r.awaited refl
      where
        go : (b : Bool) → r.awaited ≡ b → b ≡ false
        go true e = sym ((drained (stand_of (view n (state_in j.shore))) (has_view (view n j.panel)) tied_so).1 (ap stand_of v ∙ rw e))
        go false e = refl

  -- ---- at any time

  -- the oldest PDU on its way to the panel isn't refused with 9
  pub not_9 :
      (pdu : List ℕ) (rest : List (List ℕ)) → j.down ≡ (pdu ∷ rest) → (list buffer : List ℕ) → good_list list ≡ true → REPLY_MIN ≤ length buffer
      → (concern : Option ℕ) → (panel.gives j.panel (panel.receives list pdu) buffer).result.answer ≢ answer.Refused AlreadyOpen concern
  unfolding whole_of
  not_9 pdu rest e list buffer good enough concern f =
      let a : AllSent true (pdu ∷ rest) = rw e at t.down_sent in
      let s = a.0 in
      let c : panel.Call = record { asked = panel.receives list pdu; reply = buffer; enough = enough } in
      let event = event_of_value list s.value in
      let answered : (panel.gives j.panel (panel.receives list pdu) buffer).result.answer ≡ (panel-step.stepped j.panel event).answer =
      ap (λ (w : Whole). w.result.answer) (panel-call.call_step j.panel c t.panel_calm.sane)
      ∙ ap (λ (x : client.Event). (panel-step.stepped j.panel x).answer) (panel_event list s) in
      let is_fair_law =
      at-the-panel.takes_fair j.panel t.panel_calm list good (λ n. stand_of (view n (state_in j.shore))) (λ n. downs n rest)
      (λ n. ups n j.up) s.value (λ n. rw (e, marks_head (down_of n) s rest) at (t.ties n)) in
      true≢false (sym is_fair_law ∙ ap fair (sym answered ∙ f))

  -- and to the shore with 16
  pub not_16 :
      (pdu : List ℕ) (rest : List (List ℕ)) → j.up ≡ (pdu ∷ rest) → (buffer : List ℕ) → REPLY_MIN ≤ length buffer → (concern : Option ℕ)
      → (shore.gives j.shore (shore.receives pdu) buffer).said ≢ said.Refused NotAwaited concern
  not_16 pdu rest e buffer enough concern f =
      let a : AllSent false (pdu ∷ rest) = rw e at t.up_sent in
      let s = a.0 in
      let c : shore.Call = record { asked = shore.receives pdu; buffer = buffer; enough = enough } in
      let answered : (shore.gives j.shore (shore.receives pdu) buffer).said ≡ (stepped j.shore (said_by s.value)).said =
      ap (λ (g : shore.Gave). g.said) (shore-call.call_step j.shore c t.shore_calm.sane)
      ∙ ap (λ (x : Event). (stepped j.shore x).said) (shore_event_in s) in
      let is_fair_law =
      at-the-shore.takes_fair j.shore t.shore_calm (λ n. has_view (view n j.panel)) (λ n. downs n j.down)
      (λ n. ups n rest) s.value (λ n. rw (e, marks_head (up_of n) s rest) at (t.ties n)) in
      true≢false (sym is_fair_law ∙ ap fair_said (sym answered ∙ f))
