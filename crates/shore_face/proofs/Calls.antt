-- Refusal 1 in front of a call on a state's bytes: what it leaves, and what stands behind it.
-- Assumes nothing.
use Rattle.std.specs.Prelude.{None, Result, Err, Ok}
use mathlib.Core.Path.{◌≡◌, refl, sym, ◌∙◌}
use mathlib.Core.Bool.{Bool, true, false, not, ◌||◌}
use mathlib.Core.List.{List}
use Prim.Native.Nat.{ℕ}
use native.Mathlib.Omega.{arith}
use borrow.Author.Tests.{eq-eqb, ne_eqb, eqb-true, not-false}
use lib.Dec.{eqb, ltb}
use lib.ListN.{length}
use Rattle.paper.specs.Sizes.{PARTS, STORE, REPLY_MIN, PDU_MAX}
use Rattle.paper.specs.declared.Refusal.{Refusal}
use Rattle.paper.specs.declared.Refusal.TheVariants.{BadCall}
use Rattle.lists.specs.Bytes.{laid}
use Rattle.lists.proofs.Cases.{both, neither}
use Rattle.numbers.specs.Numbers.{Bytes}
use Rattle.reading.specs.Reading.{read_pdu}
use Rattle.channel.specs.Answers.{concern_of, number_of}
use Rattle.table.specs.Sound.{sound_table}
use Rattle.client.specs.Client.{bad_call, place_for, store_started}
use Rattle.shore.specs.declared.Sending.{Sending}
use Rattle.shore.specs.declared.Said.TheVariants.{Refused}
use Rattle.shore.specs.Saying.{concern_said, number_said}
use Rattle.shore.specs.Events.{Event}
use Rattle.shore.specs.Asking.{event_asked, heard_in, closing_of}
use Rattle.shore.specs.Shore.{standing, storeless, Stepped, refused, stepped, whole_of, received, locally_closed, started, Sends, sends_of, bad_out, sending}
use Rattle.shore.proofs.Asking.{event_heard, event_closing}
use Rattle.shore.proofs.Calls.{refuses, passes, out_refuses, unsent}
use Rattle.saved.specs.Saved.{STATE, SHORE, is_saved, unasked, is_state, is_good, table_in, begin_over}
use Rattle.saved.proofs.Back.{told_saved}
use Rattle.saved.proofs.Putting.{begin_over_law}
use Rattle.packing.specs.Packing.{answer_word, said_word, answer_place, said_place, packed_answer, packed_said}
use Rattle.client_face.specs.Face.{no_state, begins, bad_face}
use Rattle.shore_face.specs.Face.{shore_in, saved_shore, faced, wrote, bad_out_face, Gives, faces}
use Rattle.shore_face.specs.Face.{dvc_shore_received, dvc_shore_closed, dvc_shore_started}

-- both ends say refusal 1 alike
pub no_state_law : packed_said (Refused BadCall None) PARTS 0 ≡ no_state
unfolding no_state packed_said packed_answer said_word answer_word concern_said concern_of number_said number_of said_place answer_place
no_state_law = refl

-- ---- a state of the shore

pub is_state_law : (l : List ℕ) → is_good SHORE true l ≡ true → is_state SHORE true l ≡ true
unfolding is_good
is_state_law l g = (both (is_state SHORE true l) (sound_table (table_in l)) g).0

-- its bytes are those of what they tell
pub as_told : (l : List ℕ) → Bytes l → is_state SHORE true l ≡ true → l ≡ saved_shore (shore_in l)
unfolding saved_shore shore_in is_state
as_told l bytes s = sym (told_saved SHORE l bytes (both (is_saved SHORE l) (true || unasked l) s).0)

-- of such bytes refusal 1 is the library's
same_bad : (l : List ℕ) (a b : ℕ) → is_state SHORE true l ≡ true → bad_face SHORE true l a b ≡ bad_call (shore_in l).table a b
unfolding bad_face bad_call is_good shore_in
same_bad l a b s = rw s

same_bad_out : (l : List ℕ) (a : ℕ) → is_state SHORE true l ≡ true → bad_out_face l a ≡ bad_out (shore_in l).table a
unfolding bad_out_face bad_out is_good shore_in
same_bad_out l a s = rw s

-- ---- a call that is lent the store and the reply

-- one that refusal 1 doesn't meet
pub fair : (l : List ℕ) (a b : ℕ) → bad_face SHORE true l a b ≡ false → (a ≡ STORE) × (is_good SHORE true l ≡ true)
unfolding bad_face
fair l a b e =
    let first = neither (not (eqb a STORE)) (ltb b REPLY_MIN || not (is_good SHORE true l)) e in
    let second = neither (ltb b REPLY_MIN) (not (is_good SHORE true l)) first.1 in
    (eqb-true a STORE (not-false (eqb a STORE) first.0), not-false (is_good SHORE true l) second.1)

module _ (l store reply : List ℕ) (event : Event) where
  -- it is the step's
  pub face_gives_law :
      (r : ℕ) (stateAfter storeAfter replyAfter : List ℕ) → bad_face SHORE true l (length store) (length reply) ≡ false
      → Gives (stepped (standing (shore_in l) store) event) reply r stateAfter storeAfter replyAfter
      → (r ≡ (faces l store event reply).answer)
      × ((stateAfter ≡ (faces l store event reply).state)
      × ((storeAfter ≡ (faces l store event reply).store) × (replyAfter ≡ (faces l store event reply).reply)))
  unfolding faces faced whole_of
  face_gives_law r stateAfter storeAfter replyAfter e g =
      let s = is_state_law l (fair l (length store) (length reply) e).1 in
      let p = passes (shore_in l) store reply (stepped (standing (shore_in l) store) event) (sym (same_bad l (length store) (length reply) s) ∙ e) in
      rw (s, p) (g.result, (g.stated, (g.stored, g.replied)))

  -- where refusal 1 meets it every byte stays
  pub face_refuses :
      (r : ℕ) → Bytes l → bad_face SHORE true l (length store) (length reply) ≡ true → r ≡ no_state
      → (r ≡ (faces l store event reply).answer)
      × ((l ≡ (faces l store event reply).state) × ((store ≡ (faces l store event reply).store) × (reply ≡ (faces l store event reply).reply)))
  unfolding faces faced whole_of laid place_for concern_said
  face_refuses r bytes e h = go (is_state SHORE true l) refl
    where
      go :
          (b : Bool) → is_state SHORE true l ≡ b
          → (r ≡ (faces l store event reply).answer)
          × ((l ≡ (faces l store event reply).state) × ((store ≡ (faces l store event reply).store) × (reply ≡ (faces l store event reply).reply)))
      go false s = rw s (h, (refl, (refl, refl)))
      go true s =
          let p = refuses (shore_in l) store reply (stepped (standing (shore_in l) store) event) (sym (same_bad l (length store) (length reply) s) ∙ e) in
          rw (s, p) (h ∙ sym no_state_law, (as_told l bytes s, (refl, refl)))

-- a PDU, and a close by the host
pub receives : (l store pdu reply : List ℕ) → dvc_shore_received l store pdu reply ≡ faces l store (event_asked (heard_in pdu (read_pdu false pdu)) pdu) reply
unfolding dvc_shore_received received faces
receives l store pdu reply = rw (event_heard pdu (read_pdu false pdu))

pub closes :
    (l store pdu : List ℕ) (n : ℕ) (reply : List ℕ)
    → dvc_shore_closed l store n reply ≡ faces l store (event_asked (closing_of n) pdu) reply
unfolding dvc_shore_closed locally_closed faces
closes l store pdu n reply = rw (event_closing n pdu)

-- ---- a call that is lent the buffer of a written PDU

-- one that refusal 1 doesn't meet
pub fair_out : (l : List ℕ) (a : ℕ) → bad_out_face l a ≡ false → (is_good SHORE true l ≡ true) × (bad_out (shore_in l).table a ≡ false)
unfolding bad_out_face
fair_out l a e =
    let g = not-false (is_good SHORE true l) (neither (ltb a PDU_MAX) (not (is_good SHORE true l)) e).1 in
    (g, sym (same_bad_out l a (is_state_law l g)) ∙ e)

-- what such a call is to give
abbrev pub Wrote : List ℕ → List ℕ → Sends → ℕ → List ℕ → List ℕ → Type 0
Wrote l out w r stateAfter outAfter =
    (r ≡ (wrote l out w).answer) × ((stateAfter ≡ (wrote l out w).state) × (outAfter ≡ (wrote l out w).out))

module _ (l out : List ℕ) where
  pub out_gives :
      (w : Sends) (x : Sending) (r : ℕ) (stateAfter outAfter : List ℕ) → is_good SHORE true l ≡ true
      → r ≡ packed_said x.said PARTS x.sent → stateAfter ≡ saved_shore x.shore → (x ≡ w.result) × (outAfter ≡ w.out)
      → Wrote l out w r stateAfter outAfter
  unfolding wrote
  out_gives w x r stateAfter outAfter g e f p = rw (is_state_law l g, ← p.0) (e, (f, p.1))

  -- a refusal behind refusal 1
  pub out_unsent :
      (w : Sends) (why : Refusal) (r : ℕ) → Bytes l → is_good SHORE true l ≡ true → w ≡ sends_of out (refused (storeless (shore_in l)) why)
      → r ≡ packed_said (Refused why None) PARTS 0 → Wrote l out w r l out
  out_unsent w why r bytes g e h =
      out_gives w (record { shore = shore_in l; said = Refused why None; sent = 0 }) r l out g h (as_told l bytes (is_state_law l g))
      (unsent (shore_in l) why out w _ e refl)

  -- refusal 1: every byte stays
  pub out_bad :
      (step : Stepped) (r : ℕ) → Bytes l → bad_out_face l (length out) ≡ true → r ≡ no_state
      → Wrote l out (sending (shore_in l) out step) r l out
  unfolding wrote sends_of laid
  out_bad step r bytes e h = go (is_state SHORE true l) refl
    where
      go : (b : Bool) → is_state SHORE true l ≡ b → Wrote l out (sending (shore_in l) out step) r l out
      go false s = rw s (h, (refl, refl))
      go true s =
          let p = out_refuses (shore_in l) out step (sym (same_bad_out l (length out) s) ∙ e) in
          rw (s, p) (h ∙ sym no_state_law, (as_told l bytes s, refl))

-- ---- Start

abbrev pub Starts : List ℕ → List ℕ → ℕ → List ℕ → List ℕ → Type 0
Starts l store r stateAfter storeAfter =
    (r ≡ (dvc_shore_started l store).answer)
    × ((stateAfter ≡ (dvc_shore_started l store).state) × (storeAfter ≡ (dvc_shore_started l store).store))

module _ (l store : List ℕ) where
  pub start_short : (length l ≡ STATE → ⊥) → Starts l store 1 l store
  unfolding dvc_shore_started begins
  start_short h = rw (ne_eqb (length l) STATE h) (refl, (refl, refl))

  module _ (size : length l ≡ STATE) (begun : Result (Unit {0}) Refusal) (b : begun ≡ (started store).begun) (after : List ℕ) (e : after ≡ store_started store) where
    pub start_done : (stateAfter : List ℕ) → begun ≡ Ok tt → stateAfter ≡ begin_over l SHORE → Starts l store 0 stateAfter after
    unfolding dvc_shore_started begins started
    start_done stateAfter d f = go (eqb (length store) STORE) refl
      where
        go : (c : Bool) → eqb (length store) STORE ≡ c → Starts l store 0 stateAfter after
        go true s = rw (eq-eqb (length l) STATE size, s) (refl, (f ∙ begin_over_law SHORE l size, e))
        go false s =
            let n : begun ≡ Err BadCall = rw s at b in
            let z : ◌≡◌ {A = ℕ} 0 1 = cc in
            absurd (omega arith)

    pub start_not : (why : Refusal) → begun ≡ Err why → Starts l store 1 l after
    unfolding dvc_shore_started begins started store_started
    start_not why d = go (eqb (length store) STORE) refl
      where
        go : (c : Bool) → eqb (length store) STORE ≡ c → Starts l store 1 l after
        go false s = rw (eq-eqb (length l) STATE size, s) (refl, (refl, rw s at e))
        go true s =
            let n : begun ≡ Ok tt = rw s at b in
            let z : ◌≡◌ {A = ℕ} 0 1 = cc in
            absurd (omega arith)
