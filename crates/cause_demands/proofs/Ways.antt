-- The search on its way: before the place it has the run's table, store and notes and says nothing; at the place it says what the PDU
-- there got; and from there on that.
-- Assumes nothing.
use Rattle.std.proofs.Common.{Option, None, Some}
use mathlib.Core.Path.{◌≡◌, refl, sym, ap, ◌∙◌}
use mathlib.Core.List.{List, [], ◌∷◌}
use Prim.Native.Nat.{ℕ, zero, suc, ◌+◌, ◌%◌, ◌≤◌, ◌<◌}
use native.Mathlib.Omega.{arith}
use borrow.Author.Tests.{eq-eqb, ne_eqb}
use lib.ListN.{length, take, drop, take-append-drop}
use lib.Seq.{take-suc, take_all}
use Rattle.channel.specs.declared.Answer.{Answer}
use Rattle.records.specs.Records.{PLACES}
use Rattle.records.specs.Items.{after_items}
use Rattle.records.proofs.Items.{over_both}
use Rattle.cause.specs.declared.Cause.{Cause}
use Rattle.cause.specs.Cause.{cause_of, Way, said_by, course_on, way_after, start_course, start_way}
use Rattle.cause_demands.specs.Why.{pdu_at, heard_in, before, answer_at, sent_at}
use Rattle.cause_demands.proofs.Stories.{notes_at}

-- ---- one PDU more

module _ {S : Type 0} (step : S → List ℕ → S) where
  pub one_more : (s : S) (pdus : List (List ℕ)) (i : ℕ) → i < length pdus
      → after_items step s (take (suc i) pdus) ≡ step (after_items step s (take i pdus)) (pdu_at pdus i)
  unfolding after_items
  one_more s pdus i h = ap (after_items step s) (take-suc pdus i [] h) ∙ over_both step s (take i pdus) (pdu_at pdus i ∷ [])

  pub and_the_rest : (s : S) (pdus : List (List ℕ)) (i : ℕ) → after_items step s pdus ≡ after_items step (after_items step s (take i pdus)) (drop i pdus)
  and_the_rest s pdus i = ap (after_items step s) (sym (take-append-drop i pdus)) ∙ over_both step s (take i pdus) (drop i pdus)

-- ---- what is said stays

stays_said :
    (sought : ℕ) (list : List ℕ) (w : Way) (pdus : List (List ℕ)) (answer : Answer) (sent : ℕ) (cause : Option Cause)
    → w.course.said ≡ Some (record { answer = answer; sent = sent; cause = cause }) → (after_items (way_after sought list) w pdus).course.said ≡ Some (record { answer = answer; sent = sent; cause = cause })
unfolding after_items way_after course_on said_by
stays_said sought list w [] answer sent cause h = h
stays_said sought list w (pdu ∷ pdus) answer sent cause h =
    stays_said sought list (way_after sought list w pdu) pdus answer sent cause (rw h refl)

module _ (sought : ℕ) (list : List ℕ) (pdus : List (List ℕ)) (counted : sought < PLACES) where
  abbrev after : ℕ → Way
  after i = after_items (way_after sought list) start_way (take i pdus)

  -- where the search should be before the PDU at place i
  abbrev stood : ℕ → Way
  stood i =
      record {
        course = record { table = (before list pdus i).table; notes = notes_at list pdus i; place = i; said = None };
        store = (before list pdus i).store;
      }

  -- the cause at a place
  abbrev pub cause_at : ℕ → Option Cause
  cause_at i = cause_of (notes_at list pdus i) (before list pdus i).table list (pdu_at pdus i) (heard_in list (before list pdus i) (pdu_at pdus i)).result

  one_on : (i : ℕ) → suc i ≤ sought → way_after sought list (stood i) (pdu_at pdus i) ≡ stood (suc i)
  unfolding way_after course_on said_by before notes_at answer_at
  one_on i h =
      let other = ne_eqb i sought (λ e. omega arith) in
      let next : (i + 1) % PLACES ≡ suc i = omega arith in
      rw (other, next) refl

  is_there : (i : ℕ) → i ≤ length pdus → i ≤ sought → after i ≡ stood i
  unfolding after_items start_course before notes_at
  is_there zero h k = refl
  is_there (suc i) h k =
      one_more (way_after sought list) start_way pdus i h
      ∙ ap (λ (w : Way). way_after sought list w (pdu_at pdus i)) (is_there i (omega arith) (omega arith)) ∙ one_on i k

  said_at : (way_after sought list (stood sought) (pdu_at pdus sought)).course.said ≡ Some (record { answer = answer_at list pdus sought; sent = sent_at list pdus sought; cause = cause_at sought })
  unfolding way_after course_on said_by answer_at sent_at
  said_at = rw (eq-eqb sought sought refl) refl

  pub says : sought < length pdus
      → (after_items (way_after sought list) start_way pdus).course.said ≡ Some (record { answer = answer_at list pdus sought; sent = sent_at list pdus sought; cause = cause_at sought })
  says h =
      ap (λ (w : Way). w.course.said) (and_the_rest (way_after sought list) start_way pdus (suc sought))
      ∙ stays_said sought list (after (suc sought)) (drop (suc sought) pdus) _ _ _
      (ap (λ (w : Way). w.course.said)
      (one_more (way_after sought list) start_way pdus sought h
      ∙ ap (λ (w : Way). way_after sought list w (pdu_at pdus sought)) (is_there sought (omega arith) (omega arith))) ∙ said_at)

  pub says_nothing : length pdus ≤ sought → (after_items (way_after sought list) start_way pdus).course.said ≡ None
  says_nothing h =
      ap (λ (w : Way). w.course.said)
      (ap (after_items (way_after sought list) start_way) (sym (take_all (length pdus) pdus (omega arith)))
      ∙ is_there (length pdus) (omega arith) h)
