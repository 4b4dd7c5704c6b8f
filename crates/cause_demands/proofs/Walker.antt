-- The walker on the same input: before the record at a place it has the run's table and store, so what it writes for the record is the
-- place and then the fields of the answer there.
-- Assumes nothing.
use mathlib.Core.Path.{◌≡◌, refl, sym, ap, ◌∙◌}
use mathlib.Core.Bool.{false}
use mathlib.Core.List.{List, [], ◌∷◌, ◌++◌, map}
use Prim.Native.Nat.{ℕ, zero, suc, ◌+◌, ◌%◌, ◌≤◌, ◌<◌}
use native.Mathlib.Omega.{arith}
use lib.ListN.{length, take, get_or, length-map, get_or-map}
use lib.Seq.{take-suc}
use Rattle.lines.specs.Decimal.{field}
use Rattle.lines.specs.Lines.{SPACE, LF, answer_fields, line_of}
use Rattle.records.specs.Records.{PLACES, pdu_in, whole_of}
use Rattle.records.specs.Walks.{Program, records_of, after_all}
use Rattle.records.specs.Items.{items_in}
use Rattle.records.specs.Pdus.{pdus_in}
use Rattle.walking.specs.declared.Job.TheVariants.{Client}
use Rattle.walking.specs.declared.Told.TheVariants.{Lines}
use Rattle.walking.specs.Walking.{Walk, new_shore, has_closes, is_close, answered, after_step, text_for, after_record, text_of, store_for, program, start_walk}
use Rattle.cause_demands.specs.Why.{pdu_at, before, answer_at, sent_at}

module _ {S : Type 0} (p : Program S) where
  after_both : (s : S) (xs ys : List (List ℕ)) → after_all p s (xs ++ ys) ≡ after_all p (after_all p s xs) ys
  unfolding after_all
  after_both s [] ys = refl
  after_both s (x ∷ xs) ys = after_both (p.after s x) xs ys

  after_next : (s : S) (records : List (List ℕ)) (i : ℕ) → i < length records
      → after_all p s (take (suc i) records) ≡ p.after (after_all p s (take i records)) (get_or records i [])
  unfolding after_all
  after_next s records i h = ap (after_all p s) (take-suc records i [] h) ∙ after_both s (take i records) (get_or records i [] ∷ [])

module _ (list : List ℕ) (records : List (List ℕ)) where
  abbrev pdus : List (List ℕ)
  pdus = map pdu_in records

  pdu_of : (i : ℕ) → pdu_in (get_or records i []) ≡ pdu_at pdus i
  unfolding pdu_in
  pdu_of i = sym (get_or-map pdu_in records i [])

  -- where the walker should be before the record at place i
  abbrev stood : ℕ → Walk
  stood i = record { table = (before list pdus i).table; shore = new_shore; store = (before list pdus i).store; ended = false; place = i }

  one_on : (i : ℕ) → suc i < PLACES → after_record (Client Lines) list (stood i) (get_or records i []) ≡ stood (suc i)
  unfolding after_record after_step answered is_close has_closes before
  one_on i h = let next : (i + 1) % PLACES ≡ suc i = omega arith in rw (pdu_of i, next) refl

  is_there : (i : ℕ) → i ≤ length records → i < PLACES
      → after_all (program (Client Lines) list) (start_walk (Client Lines)) (take i records) ≡ stood i
  unfolding after_all start_walk store_for before program
  is_there zero h k = refl
  is_there (suc i) h k =
      after_next (program (Client Lines) list) (start_walk (Client Lines)) records i h
      ∙ ap (λ (w : Walk). after_record (Client Lines) list w (get_or records i [])) (is_there i (omega arith) (omega arith)) ∙ one_on i k

  line_at : (i : ℕ)
      → text_of (Client Lines) list (stood i) (get_or records i []) ≡ field i SPACE ++ answer_fields (answer_at list pdus i) (sent_at list pdus i) LF
  unfolding text_of text_for answered is_close has_closes line_of answer_at sent_at
  line_at i = rw (pdu_of i) refl

pub the_walkers : (list input : List ℕ) (place : ℕ) → place < length (pdus_in input) → place < PLACES
    → text_of (Client Lines) list
    (after_all (program (Client Lines) list) (start_walk (Client Lines)) (take place (records_of whole_of input)))
    (get_or (records_of whole_of input) place [])
    ≡ field place SPACE ++ answer_fields (answer_at list (pdus_in input) place) (sent_at list (pdus_in input) place) LF
unfolding items_in
the_walkers list input place h k =
    let records = records_of whole_of input in
    let inside : place ≤ length records = omega (arith, length-map records pdu_in) in
    ap (λ (w : Walk). text_of (Client Lines) list w (get_or records place [])) (is_there list records place inside k) ∙ line_at list records place
