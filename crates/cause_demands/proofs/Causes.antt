-- Why the PDU at a place got its answer: a 13 has the note of its channel's record, which is the one event; any other refusal has the
-- first rule that held.
-- Assumes nothing.
use Rattle.std.proofs.Common.{Option, None, Some}
use mathlib.Core.Path.{◌≡◌, refl, sym, ap, ◌∙◌}
use mathlib.Core.Logic.{◌≢◌}
use mathlib.Core.Bool.{true, false}
use mathlib.Core.List.{List}
use Prim.Native.Nat.{ℕ}
use native.Mathlib.Omega.{arith}
use lib.Dec.{eqb}
use Rattle.paper.specs.Sizes.{REPLY_MIN}
use Rattle.paper.specs.Refusals.{refusal_number}
use Rattle.paper.specs.Rows.{fine, refused_with, first_held}
use Rattle.paper.specs.declared.Refusal.{Refusal}
use Rattle.paper.specs.declared.Refusal.TheVariants.{IsSpoiled}
use Rattle.lists.specs.Bytes.{zeros}
use Rattle.reading.specs.Reading.{read_pdu}
use Rattle.channel.specs.declared.Answer.TheVariants.{Refused}
use Rattle.channel.specs.Answers.{concern_of}
use Rattle.table.specs.declared.Table.{Table}
use Rattle.table.specs.Table.{number_place}
use Rattle.channel.specs.Channel.{Act, BadCreate, Create, Bring, Garbled, Closing, LocalClose}
use Rattle.client.specs.Events.{Event, Unreadable, Capabilities, Of, event_of}
use Rattle.client.specs.Client.{Stepped, Whole, whole_of, place_for}
use Rattle.steps.specs.Rows.{verdict_of, receive_rows}
use Rattle.steps.specs.Refused.{left_by, spoils, is_of_three, is_of_reading}
use Rattle.steps.proofs.Refusals.{receive_refusals}
use Rattle.steps.proofs.Leaves.{receive_refused}
use Rattle.rules.specs.declared.Rule.{Rule}
use Rattle.rules.specs.declared.Rule.TheVariants.{Empty, Long, Command, CbId, LengthWidth, Ended, Pad, Version, LeftOver}
use Rattle.rules.specs.declared.Rule.TheVariants.{ReadyAlready, NotReady, List as BadNames, OpenAlready, NotOpen, Spoiled}
use Rattle.rules.specs.declared.Rule.TheVariants.{Joining, OverLimit, PastLength}
use Rattle.rules.specs.Rules.{refusal_of, the_rules, first_of, verdict_by}
use Rattle.rules.proofs.Rules.{verdict_of_rules}
use Rattle.cause.specs.declared.Note.{Note}
use Rattle.cause.specs.declared.Cause.{Cause}
use Rattle.cause.specs.declared.Cause.TheVariants.{ByRule}
use Rattle.cause.specs.Notes.{note_at}
use Rattle.cause.specs.Cause.{cause_named, cause_by, cause_of}
use Rattle.cause_demands.specs.Why.{pdu_at, heard_in, before, event_at, answer_at, IsTheEvent, IsTheFirstRule}
use Rattle.cause_demands.proofs.Runs.{calm, mild, never_bad, heard_step, answer_is}
use Rattle.cause_demands.proofs.Stories.{verdict_is, notes_at, the_event}
use Rattle.cause_demands.proofs.Thirteens.{Stray, stray, step_dead}

-- ---- a rule by its refusal

-- none has refusal 1, and one has 13
plain :
    (rule : Rule) → refusal_of rule ≢ IsSpoiled
    → (eqb (refusal_number (refusal_of rule)) 1 ≡ false) × (eqb (refusal_number (refusal_of rule)) 13 ≡ false)
unfolding refusal_of
plain Empty d = (refl, refl)
plain Long d = (refl, refl)
plain Command d = (refl, refl)
plain CbId d = (refl, refl)
plain LengthWidth d = (refl, refl)
plain Ended d = (refl, refl)
plain Pad d = (refl, refl)
plain Version d = (refl, refl)
plain LeftOver d = (refl, refl)
plain ReadyAlready d = (refl, refl)
plain NotReady d = (refl, refl)
plain BadNames d = (refl, refl)
plain OpenAlready d = (refl, refl)
plain NotOpen d = (refl, refl)
plain Spoiled d = absurd (d refl)
plain Joining d = (refl, refl)
plain OverLimit d = (refl, refl)
plain PastLength d = (refl, refl)

record Named (why : Refusal) (broken : Option Rule) (cause : Option Cause) : Type 0 where
  pub rule : Rule
  pub named : cause ≡ Some (ByRule rule)
  pub first : broken ≡ Some rule
  pub refusal : refusal_of rule ≡ why

by_rule :
    (note : Note) (broken : Option Rule) (why : Refusal) → why ≢ IsSpoiled → refused_with why ≡ verdict_by broken
    → Named why broken (cause_by note broken (refused_with why))
unfolding verdict_by cause_by cause_named
by_rule note None why d e = let z : ◌≡◌ {A = ℕ} 0 1 = cc in absurd (omega arith)
by_rule note (Some rule) why d e =
    let is : refusal_of rule ≡ why = cc in
    let p = plain rule (λ f. d (sym is ∙ f)) in
    record { rule = rule; named = rw (← is, p.0, p.1) refl; first = refl; refusal = is }

-- a 13 spoils nothing
thirteen_spoils_none : (a : Act) → spoils IsSpoiled a ≡ false
unfolding spoils is_of_three is_of_reading
thirteen_spoils_none BadCreate = refl
thirteen_spoils_none (Create listed pri) = refl
thirteen_spoils_none (Bring offer bytes) = refl
thirteen_spoils_none (Garbled why) = refl
thirteen_spoils_none Closing = refl
thirteen_spoils_none LocalClose = refl

-- the place that comes with an answer
place_of : {w : Whole} (reply : List ℕ) (s : Stepped) → w ≡ whole_of reply s → w.result.place ≡ place_for w.result.table (concern_of w.result.answer)
unfolding whole_of
place_of reply s e = rw e refl

stray_at : (list : List ℕ) (pdus : List (List ℕ)) (i : ℕ) → Stray (event_at list pdus i)
unfolding event_at
stray_at list pdus i = stray list (pdu_at pdus i)

module _ (list : List ℕ) (pdus : List (List ℕ)) (i : ℕ) where
  abbrev table : Table
  table = (before list pdus i).table

  abbrev pdu : List ℕ
  pdu = pdu_at pdus i

  -- the cause at the place
  abbrev pub cause : Option Cause
  cause = cause_of (notes_at list pdus i) table list pdu (heard_in list (before list pdus i) pdu).result

  verdict_at : verdict_of (answer_at list pdus i) ≡ verdict_by (first_of (the_rules table list pdu))
  unfolding answer_at receive_rows first_held
  verdict_at =
      receive_refusals table (before list pdus i).store list pdu (zeros REPLY_MIN)
      ∙ rw (never_bad list (before list pdus i) (calm list pdus i).sane pdu) (verdict_of_rules table list pdu)

  -- ---- any refusal but 13

  pub names_the_rule :
      (why : Refusal) (concern : Option ℕ) → answer_at list pdus i ≡ Refused why concern → why ≢ IsSpoiled → IsTheFirstRule list pdus i why cause
  unfolding cause_of answer_at
  names_the_rule why concern e d =
      let v = verdict_is (answer_at list pdus i) why concern e in
      let n = by_rule (note_at (notes_at list pdus i) (heard_in list (before list pdus i) pdu).result.place) (first_of (the_rules table list pdu)) why d (sym v ∙ verdict_at) in
      record { rule = n.rule; named = ap (cause_by _ _) v ∙ n.named; first = n.first; refusal = n.refusal }

  -- ---- no refusal

  pub names_none : verdict_of (answer_at list pdus i) ≡ fine → cause ≡ None
  unfolding cause_of answer_at cause_by
  names_none e = rw e refl

  -- ---- a 13

  -- it leaves the table
  table_stays : (e : Event) → left_by IsSpoiled e table ≡ table
  unfolding left_by
  table_stays (Unreadable why) = refl
  table_stays (Capabilities version) = refl
  table_stays (Of n a) = rw (thirteen_spoils_none a) refl

  -- so the place that comes with it is that of the channel's record
  place_is : (n : ℕ) → answer_at list pdus i ≡ Refused IsSpoiled (Some n) → (heard_in list (before list pdus i) pdu).result.place ≡ number_place n table
  unfolding answer_at place_for concern_of
  place_is n e =
      let st = before list pdus i in
      let left = (receive_refused table st.store list pdu (zeros REPLY_MIN) IsSpoiled (Some n) (calm list pdus i).sane.rows e).left in
      place_of (zeros REPLY_MIN) _ (heard_step list st (calm list pdus i).sane pdu)
      ∙ rw (e, left, table_stays (event_of list pdu (read_pdu true pdu))) refl

  pub names_the_event : (concern : Option ℕ) → answer_at list pdus i ≡ Refused IsSpoiled concern → IsTheEvent list pdus i concern cause
  unfolding cause_of answer_at cause_by
  names_the_event concern e =
      let dead = step_dead (before list pdus i) (calm list pdus i).sane (event_at list pdus i) (mild list pdus i) (stray_at list pdus i) concern (sym (answer_is list pdus i) ∙ e) in
      let n = dead.channel in
      let k = number_place n table in
      let at = place_is n (e ∙ ap (Refused IsSpoiled) dead.concerned) in
      record {
        channel = n;
        concerned = dead.concerned;
        at = (note_at (notes_at list pdus i) k).place;
        why = (note_at (notes_at list pdus i) k).why;
        named = rw (verdict_is (answer_at list pdus i) IsSpoiled concern e, at) refl;
        event = the_event list pdus n i k dead.inside dead.taken dead.number dead.spoiled;
      }
