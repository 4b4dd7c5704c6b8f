-- What a refusal leaves of what is lent: the library's refusal, in bytes.
-- Assumes nothing.
use Rattle.std.specs.Prelude.{Option}
use mathlib.Core.Path.{◌≡◌, refl, sym, ap, ◌∙◌}
use mathlib.Core.Bool.{Bool, true, false, cond, ◌&&◌}
use mathlib.Core.List.{List}
use Prim.Native.Nat.{ℕ, ◌<◌}
use borrow.Author.Tests.{ltb-true}
use lib.Dec.{ltb}
use Rattle.paper.specs.Sizes.{PARTS}
use Rattle.paper.specs.declared.Refusal.{Refusal}
use Rattle.lists.proofs.Cases.{both}
use Rattle.numbers.specs.Numbers.{Bytes, NUMBERS}
use Rattle.reading.specs.Reading.{read_pdu}
use Rattle.channel.specs.declared.Stage.TheVariants.{Spoiled}
use Rattle.channel.specs.declared.Answer.TheVariants.{Refused}
use Rattle.channel.specs.Channel.{LocalClose, restaged}
use Rattle.table.specs.declared.Table.{Table}
use Rattle.table.specs.Table.{number_place, record_at, with_record}
use Rattle.client.specs.Events.{Event, Unreadable, Capabilities, Of, event_of}
use Rattle.client.specs.Client.{Whole, received, locally_closed}
use Rattle.saved.specs.Saved.{CLIENT, saved, table_in, is_state}
use Rattle.saved.proofs.Searching.{length_told}
use Rattle.packing.specs.Unpacking.{answer_in}
use Rattle.client_face.specs.Face.{no_state, faced, dvc_received, dvc_closed}
use Rattle.steps.specs.Rows.{is_open}
use Rattle.steps.specs.Refused.{spoils, left_by, RefusedCall}
use Rattle.demands.proofs.Main.{a_refusal_leaves_all}
use Rattle.face_demands.specs.Face.{GotBack}
use Rattle.face_demands.specs.Refused.{spoiled_at, left_in, RefusedFace}
use Rattle.face_demands.proofs.Saving.{client_says, client_again}
use Rattle.face_demands.proofs.Packing.{received_back, closed_back}
use Rattle.face_demands.proofs.Spoiled.{spoiled_over}

-- ---- the client

module _ (state : List ℕ) (h : Bytes state) (g : is_state CLIENT false state ≡ true) where
  -- the table that is left, in bytes
  left_saved : (why : Refusal) (e : Event) → saved CLIENT 0 (left_by why e (table_in state)) ≡ left_in why e state
  unfolding left_by left_in is_open
  left_saved why (Unreadable w) = client_again state h g
  left_saved why (Capabilities version) = client_again state h g
  left_saved why (Of n a) = go (spoils why a && ltb (number_place n t) PARTS) refl
    where
      t : Table
      t = table_in state

      k : ℕ
      k = number_place n t

      go :
          (b : Bool) → (spoils why a && ltb k PARTS) ≡ b
          → saved CLIENT 0 (cond b (with_record t k (restaged (record_at t k) Spoiled)) t) ≡ cond b (spoiled_at state k) state
      go true e =
          let s = client_says state g in
          ap (λ (asked : ℕ). saved CLIENT asked (with_record t k (restaged (record_at t k) Spoiled))) (sym s.unasked_for)
          ∙ spoiled_over CLIENT state h s.saved_bytes k (ltb-true k PARTS (both (spoils why a) (ltb k PARTS) e).1)
      go false e = client_again state h g

  -- a call that the library refuses
  module _ (store reply : List ℕ) (e : Event) (w : Whole) (why : Refusal) (concern : Option ℕ) where
    refused_face :
        GotBack w.result → answer_in (faced state store reply w).answer ≡ Refused why concern
        → (w.result.answer ≡ Refused why concern → RefusedCall (table_in state) store reply e w why concern)
        → RefusedFace state store reply e (faced state store reply w) why concern
    unfolding faced
    refused_face back said law =
        let r = law (sym back.answer ∙ (rw g at said)) in
        rw g (record {
          stored = r.stored;
          replied = r.replied;
          none_sent = back.sent ∙ r.none_sent;
          concerns = r.concerns;
          left = ap (saved CLIENT 0) r.left ∙ left_saved why e;
        })

pub received_refused :
    (state store list pdu reply : List ℕ) (why : Refusal) (concern : Option ℕ) → Bytes state → Bytes pdu
    → is_state CLIENT false state ≡ true → answer_in (dvc_received state store list pdu reply).answer ≡ Refused why concern
    → RefusedFace state store reply (event_of list pdu (read_pdu true pdu)) (dvc_received state store list pdu reply) why concern
unfolding dvc_received
received_refused state store list pdu reply why concern h b g said =
    let t = table_in state in
    refused_face state h g store reply (event_of list pdu (read_pdu true pdu)) (received t store list pdu reply) why concern
    (received_back t store list pdu reply (length_told state) b) said
    (a_refusal_leaves_all.receive t store list pdu reply why concern (length_told state))

pub closed_refused :
    (state store : List ℕ) (n : ℕ) (reply : List ℕ) (why : Refusal) (concern : Option ℕ) → Bytes state → n < NUMBERS
    → is_state CLIENT false state ≡ true → answer_in (dvc_closed state store n reply).answer ≡ Refused why concern
    → RefusedFace state store reply (Of n LocalClose) (dvc_closed state store n reply) why concern
unfolding dvc_closed
closed_refused state store n reply why concern h b g said =
    let t = table_in state in
    refused_face state h g store reply (Of n LocalClose) (locally_closed t store n reply) why concern
    (closed_back t store n reply (length_told state) b) said
    (a_refusal_leaves_all.local_close t store n reply why concern (length_told state))

-- bytes that are no state
module _ (state store : List ℕ) where
  pub received_no_state :
      (list pdu reply : List ℕ) → is_state CLIENT false state ≡ false
      → dvc_received state store list pdu reply ≡ record { answer = no_state; state = state; store = store; reply = reply }
  unfolding dvc_received faced
  received_no_state list pdu reply g = rw g

  pub closed_no_state :
      (n : ℕ) (reply : List ℕ) → is_state CLIENT false state ≡ false
      → dvc_closed state store n reply ≡ record { answer = no_state; state = state; store = store; reply = reply }
  unfolding dvc_closed faced
  closed_no_state n reply g = rw g
