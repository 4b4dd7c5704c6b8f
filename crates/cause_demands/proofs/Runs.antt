-- The run, step by step: every state of it is calm, and a channel that a record holds is open, with the record's stage.
-- Assumes nothing.
use mathlib.Core.Path.{◌≡◌, sym, ap, ◌∙◌}
use mathlib.Core.Bool.{true, false}
use mathlib.Core.List.{List}
use Prim.Native.Nat.{ℕ, zero, suc, ◌<◌}
use native.Mathlib.Omega.{arith}
use borrow.Author.Tests.{lt-ltb}
use lib.ListN.{length}
use Rattle.paper.specs.Sizes.{PARTS, REPLY_MIN}
use Rattle.lists.specs.Bytes.{zeros}
use Rattle.lists.proofs.Laid.{length_zeros}
use Rattle.reading.specs.Reading.{read_pdu}
use Rattle.channel.specs.declared.Answer.TheVariants.{Opened}
use Rattle.table.specs.Table.{number_place, record_at}
use Rattle.table.proofs.Soundness.{number_only}
use Rattle.table.proofs.Twice.{holds_own}
use Rattle.connection.specs.States.{State}
use Rattle.client.specs.Events.{event_of}
use Rattle.client.specs.Client.{Whole, whole_of, stepped, bad_call}
use Rattle.steps.specs.Rows.{is_open, stage_of, is_spoiled}
use Rattle.steps.specs.States.{Sane, Calm, FineEvent}
use Rattle.steps.proofs.Calm.{calm_start, calm_step, fine_pdu}
use Rattle.steps.proofs.Leaves.{Mild, mild_pdu}
use Rattle.demands.specs.Runs.{receives, Call, gives, event_in, leaves}
use Rattle.demands.proofs.Machine.{not_bad, call_step}
use Rattle.cause_demands.specs.Why.{pdu_at, heard_in, before, event_at, answer_at, open_before, spoiled_before}
use Rattle.cause_demands.proofs.Moves.{Moves, step_moves, opens_shut}

call_of : List ℕ → List ℕ → Call
call_of list pdu = record { asked = receives list pdu; reply = zeros REPLY_MIN; enough = rw (length_zeros REPLY_MIN) (omega arith) }

-- refusal 1 is not met
pub never_bad :
    (list : List ℕ) (st : State) → Sane st → (pdu : List ℕ) → bad_call st.table (length st.store) (length (zeros REPLY_MIN)) ≡ false
unfolding call_of
never_bad list st s pdu = not_bad st (call_of list pdu) s

pub heard_step :
    (list : List ℕ) (st : State) → Sane st → (pdu : List ℕ)
    → heard_in list st pdu ≡ whole_of (zeros REPLY_MIN) (stepped st (event_of list pdu (read_pdu true pdu)))
unfolding gives event_in call_of
heard_step list st s pdu = call_step st (call_of list pdu) s

module _ (list : List ℕ) (pdus : List (List ℕ)) where
  pub calm : (i : ℕ) → Calm (before list pdus i)
  unfolding before whole_of
  calm zero = calm_start
  calm (suc i) =
      rw (heard_step list (before list pdus i) (calm i).sane (pdu_at pdus i))
      (calm_step (before list pdus i) (calm i) (event_of list (pdu_at pdus i) (read_pdu true (pdu_at pdus i))) (fine_pdu list (pdu_at pdus i)))

  -- what a PDU does is a step
  pub state_next : (i : ℕ) → before list pdus (suc i) ≡ (stepped (before list pdus i) (event_at list pdus i)).state
  unfolding before whole_of event_at
  state_next i = ap leaves (heard_step list (before list pdus i) (calm i).sane (pdu_at pdus i))

  pub answer_is : (i : ℕ) → answer_at list pdus i ≡ (stepped (before list pdus i) (event_at list pdus i)).answer
  unfolding answer_at whole_of event_at
  answer_is i = ap (λ (w : Whole). w.result.answer) (heard_step list (before list pdus i) (calm i).sane (pdu_at pdus i))

  fine : (i : ℕ) → FineEvent (event_at list pdus i)
  unfolding event_at
  fine i = fine_pdu list (pdu_at pdus i)

  pub mild : (i : ℕ) → Mild (event_at list pdus i)
  unfolding event_at
  mild i = mild_pdu list (pdu_at pdus i)

  pub moves : (i k : ℕ)
      → Moves (event_at list pdus i) (answer_at list pdus i) (record_at (before list pdus i).table k) (record_at (before list pdus (suc i)).table k)
  moves i k =
      rw (answer_is i, state_next i) (step_moves (before list pdus i) (calm i).sane (event_at list pdus i) (fine i) (mild i) k)

  module _ (n i k : ℕ) (inside : k < PARTS) (taken : (record_at (before list pdus i).table k).taken ≡ true)
      (number : (record_at (before list pdus i).table k).number ≡ n) where
    place_is : number_place n (before list pdus i).table ≡ k
    place_is = number_only (before list pdus i).table k n (calm i).sane.sound (holds_own n (record_at (before list pdus i).table k) taken number)

    pub is_open_law : open_before list pdus n i ≡ true
    unfolding open_before is_open
    is_open_law = lt-ltb (number_place n (before list pdus i).table) PARTS (rw place_is inside)

    pub is_spoiled_law : spoiled_before list pdus n i ≡ is_spoiled (record_at (before list pdus i).table k).stage
    unfolding spoiled_before stage_of
    is_spoiled_law = ap (λ (x : ℕ). is_spoiled (record_at (before list pdus i).table x).stage) place_is

    -- it isn't opened again
    pub not_opened : answer_at list pdus i ≡ Opened n → ⊥
    not_opened h =
        let past = opens_shut (before list pdus i) (calm i).sane (event_at list pdus i) (mild i) n (sym (answer_is i) ∙ h) in
        omega (arith, place_is)
