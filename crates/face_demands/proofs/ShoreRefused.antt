-- What a refusal at the shore leaves of what is lent: the library's refusal, in bytes.
-- Assumes nothing.
use Rattle.std.specs.Prelude.{Option}
use mathlib.Core.Path.{◌≡◌, refl, sym, ap, ◌∙◌}
use mathlib.Core.Bool.{Bool, true, false, cond, not, ◌&&◌}
use mathlib.Core.List.{List}
use Prim.Native.Nat.{ℕ, ◌<◌}
use borrow.Author.Tests.{ltb-true}
use lib.Dec.{ltb}
use lib.ListN.{length}
use Rattle.paper.specs.Sizes.{PARTS}
use Rattle.paper.specs.declared.Refusal.{Refusal}
use Rattle.lists.proofs.Cases.{both}
use Rattle.numbers.specs.Numbers.{Bytes, NUMBERS}
use Rattle.reading.specs.Reading.{read_pdu}
use Rattle.reading.specs.declared.Charges.{Charges}
use Rattle.channel.specs.declared.Stage.TheVariants.{Spoiled}
use Rattle.channel.specs.Channel.{LocalClose, restaged}
use Rattle.table.specs.declared.Table.{Table}
use Rattle.table.specs.Table.{number_place, record_at, with_record}
use Rattle.shore.specs.declared.Said.TheVariants.{Refused}
use Rattle.shore.specs.Rules.{Answered, Acts}
use Rattle.shore.specs.Events.{Event, Unreadable, Asking, Response, Opening, Of, event_of}
use Rattle.shore.specs.Shore.{Whole, Sends, received, locally_closed, requested, locally_opened}
use Rattle.saved.specs.Saved.{SHORE, saved, asked_in, table_in, is_state}
use Rattle.saved.proofs.Searching.{length_told}
use Rattle.packing.specs.Unpacking.{said_in}
use Rattle.client_face.specs.Face.{no_state}
use Rattle.shore_face.specs.Face.{shore_in, saved_shore, faced, wrote, dvc_shore_received, dvc_shore_closed, dvc_shore_requested, dvc_shore_opened}
use Rattle.steps.specs.Refused.{spoils}
use Rattle.shore_demands.specs.Rows.{is_open_at}
use Rattle.shore_demands.specs.Refused.{left_by, RefusedCall, RefusedSending}
use Rattle.shore_demands.proofs.Main.{a_refusal_leaves_all}
use Rattle.face_demands.specs.ShoreFace.{GivenBack, SendingBack}
use Rattle.face_demands.specs.Refused.{spoiled_at, left_ashore, RefusedShoreFace, RefusedWriting}
use Rattle.face_demands.proofs.Saving.{shore_says, shore_again}
use Rattle.face_demands.proofs.Packing.{shore_received_back, shore_closed_back, requested_back, opened_back}
use Rattle.face_demands.proofs.Spoiled.{spoiled_over}

-- sixteen records are told, whatever the bytes
rows_told : (state : List ℕ) → length (shore_in state).table.records ≡ PARTS
unfolding shore_in
rows_told state = length_told state

module _ (state : List ℕ) (h : Bytes state) (g : is_state SHORE true state ≡ true) where
  -- what is left, in bytes
  left_saved :
      (why : Refusal) (e : Event)
      → saved_shore (record { table = left_by why e (shore_in state).table; asked = (shore_in state).asked }) ≡ left_ashore why e state
  unfolding saved_shore shore_in left_by left_ashore is_open_at
  left_saved why (Unreadable w) = shore_again state h g
  left_saved why (Asking version charges) = shore_again state h g
  left_saved why (Response version) = shore_again state h g
  left_saved why (Opening name class) = shore_again state h g
  left_saved why (Of n (Answered status)) = shore_again state h g
  left_saved why (Of n (Acts a)) = go (spoils why a && (ltb k PARTS && not (record_at t k).awaited)) refl
    where
      t : Table
      t = table_in state

      k : ℕ
      k = number_place n t

      go :
          (b : Bool) → (spoils why a && (ltb k PARTS && not (record_at t k).awaited)) ≡ b
          → saved SHORE (asked_in state) (cond b (with_record t k (restaged (record_at t k) Spoiled)) t) ≡ cond b (spoiled_at state k) state
      go true e =
          let within = (both (ltb k PARTS) (not (record_at t k).awaited) (both (spoils why a) (ltb k PARTS && not (record_at t k).awaited) e).1).0 in
          spoiled_over SHORE state h (shore_says state g) k (ltb-true k PARTS within)
      go false e = shore_again state h g

  -- a call that the library refuses
  module _ (why : Refusal) (concern : Option ℕ) where
    refused_face :
        (store reply : List ℕ) (e : Event) (w : Whole) → GivenBack w.result
        → said_in (faced state store reply w).answer ≡ Refused why concern
        → (w.result.said ≡ Refused why concern → RefusedCall (shore_in state) store reply e w why concern)
        → RefusedShoreFace state store reply e (faced state store reply w) why concern
    unfolding faced
    refused_face store reply e w back answered law =
        let r = law (sym back.said ∙ (rw g at answered)) in
        rw g (record {
          stored = r.stored;
          replied = r.replied;
          none_sent = back.sent ∙ r.none_sent;
          concerns = r.concerns;
          left = ap saved_shore r.left ∙ left_saved why e;
        })

    refused_writing :
        (out : List ℕ) (w : Sends) → SendingBack w.result → said_in (wrote state out w).answer ≡ Refused why concern
        → (w.result.said ≡ Refused why concern → RefusedSending (shore_in state) out w concern)
        → RefusedWriting state out (wrote state out w) concern
    unfolding wrote
    refused_writing out w back answered law =
        let r = law (sym back.said ∙ (rw g at answered)) in
        rw g (record {
          kept = ap saved_shore r.kept ∙ shore_again state h g;
          unwritten = r.unwritten;
          none_sent = back.sent ∙ r.none_sent;
          concerns = r.concerns;
        })

pub received_refused :
    (state store pdu reply : List ℕ) (why : Refusal) (concern : Option ℕ) → Bytes state → Bytes pdu
    → is_state SHORE true state ≡ true → said_in (dvc_shore_received state store pdu reply).answer ≡ Refused why concern
    → RefusedShoreFace state store reply (event_of pdu (read_pdu false pdu)) (dvc_shore_received state store pdu reply) why concern
unfolding dvc_shore_received
received_refused state store pdu reply why concern h b g answered =
    let s = shore_in state in
    refused_face state h g why concern store reply (event_of pdu (read_pdu false pdu)) (received s store pdu reply)
    (shore_received_back s store pdu reply (rows_told state) b) answered
    (a_refusal_leaves_all.receive s store pdu reply why concern (rows_told state))

pub closed_refused :
    (state store : List ℕ) (n : ℕ) (reply : List ℕ) (why : Refusal) (concern : Option ℕ) → Bytes state → n < NUMBERS
    → is_state SHORE true state ≡ true → said_in (dvc_shore_closed state store n reply).answer ≡ Refused why concern
    → RefusedShoreFace state store reply (Of n (Acts LocalClose)) (dvc_shore_closed state store n reply) why concern
unfolding dvc_shore_closed
closed_refused state store n reply why concern h b g answered =
    let s = shore_in state in
    refused_face state h g why concern store reply (Of n (Acts LocalClose)) (locally_closed s store n reply)
    (shore_closed_back s store n reply (rows_told state) b) answered
    (a_refusal_leaves_all.local_close s store n reply why concern (rows_told state))

pub requested_refused :
    (state : List ℕ) (version : ℕ) (charges : Charges) (out : List ℕ) (why : Refusal) (concern : Option ℕ) → Bytes state
    → is_state SHORE true state ≡ true → said_in (dvc_shore_requested state version charges out).answer ≡ Refused why concern
    → RefusedWriting state out (dvc_shore_requested state version charges out) concern
unfolding dvc_shore_requested
requested_refused state version charges out why concern h g answered =
    let s = shore_in state in
    refused_writing state h g why concern out (requested s version charges out) (requested_back s version charges out) answered
    (a_refusal_leaves_all.request s version charges out why concern)

pub opened_refused :
    (state name : List ℕ) (class : ℕ) (out : List ℕ) (why : Refusal) (concern : Option ℕ) → Bytes state
    → is_state SHORE true state ≡ true → said_in (dvc_shore_opened state name class out).answer ≡ Refused why concern
    → RefusedWriting state out (dvc_shore_opened state name class out) concern
unfolding dvc_shore_opened
opened_refused state name class out why concern h g answered =
    let s = shore_in state in
    refused_writing state h g why concern out (locally_opened s name class out) (opened_back s name class out) answered
    (a_refusal_leaves_all.local_open s name class out why concern)

-- bytes that are no state
module _ (state : List ℕ) where
  pub received_no_state :
      (store pdu reply : List ℕ) → is_state SHORE true state ≡ false
      → dvc_shore_received state store pdu reply ≡ record { answer = no_state; state = state; store = store; reply = reply }
  unfolding dvc_shore_received faced
  received_no_state store pdu reply g = rw g

  pub closed_no_state :
      (store : List ℕ) (n : ℕ) (reply : List ℕ) → is_state SHORE true state ≡ false
      → dvc_shore_closed state store n reply ≡ record { answer = no_state; state = state; store = store; reply = reply }
  unfolding dvc_shore_closed faced
  closed_no_state store n reply g = rw g

  pub requested_no_state :
      (version : ℕ) (charges : Charges) (out : List ℕ) → is_state SHORE true state ≡ false
      → dvc_shore_requested state version charges out ≡ record { answer = no_state; state = state; out = out }
  unfolding dvc_shore_requested wrote
  requested_no_state version charges out g = rw g

  pub opened_no_state :
      (name : List ℕ) (class : ℕ) (out : List ℕ) → is_state SHORE true state ≡ false
      → dvc_shore_opened state name class out ≡ record { answer = no_state; state = state; out = out }
  unfolding dvc_shore_opened wrote
  opened_no_state name class out g = rw g
