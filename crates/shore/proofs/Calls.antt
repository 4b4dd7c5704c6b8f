-- Refusal 1 in front of a step: what a call gives, guarded.
-- Assumes nothing.
use Rattle.std.specs.Prelude.{None, Result, Err, Ok}
use mathlib.Core.Path.{◌≡◌, refl, sym, ◌∙◌}
use mathlib.Core.Logic.{◌≢◌}
use mathlib.Core.Bool.{Bool, true, false, cond, not}
use mathlib.Core.List.{List}
use native.Mathlib.Omega.{arith}
use borrow.Author.Tests.{eq-eqb, ne_eqb, lt-ltb, le-ltb}
use lib.Dec.{eqb, ltb}
use Prim.Native.Nat.{ℕ, ◌≤◌, ◌<◌}
use lib.ListN.{length}
use Rattle.paper.specs.Sizes.{PARTS, PDU_MAX}
use Rattle.paper.specs.Rows.{refuse}
use Rattle.paper.specs.declared.Refusal.{Refusal}
use Rattle.paper.specs.declared.Refusal.TheVariants.{BadCall, BadField, OverLimit, WrongTime, AllTaken}
use Rattle.lists.specs.Bytes.{laid}
use Rattle.lists.proofs.Cases.{choice, neither}
use Rattle.reading.specs.declared.Charges.{Charges}
use Rattle.laying.specs.Laying.{buffer_after, create_request_bytes, caps_request_bytes}
use Rattle.laying.proofs.Lengths.{length_caps_request}
use Rattle.writing.specs.Writing.{judged, written, outcome, bad_request, bad_capabilities}
use Rattle.table.specs.declared.Table.{Table}
use Rattle.table.specs.Table.{free_place, record_at, put_back}
use Rattle.table.specs.Sound.{sound_table}
use Rattle.table.proofs.Records.{free_at}
use Rattle.table.proofs.Recount.{opens_none, awaits_none}
use Rattle.channel.specs.declared.Change.TheVariants.{Becomes}
use Rattle.channel.specs.Channel.{blank, class_at}
use Rattle.connection.proofs.Putting.{put_becomes}
use Rattle.client.specs.Client.{bad_call, place_for}
use Rattle.shore.specs.declared.Shore.{Shore}
use Rattle.shore.specs.declared.Given.{Given}
use Rattle.shore.specs.declared.Sending.{Sending}
use Rattle.shore.specs.declared.Said.{Said}
use Rattle.shore.specs.declared.Said.TheVariants.{Asked, Awaited, Refused}
use Rattle.shore.specs.Saying.{concern_said}
use Rattle.shore.specs.Rules.{awaited_record}
use Rattle.shore.specs.Numbers.{least_number}
use Rattle.shore.specs.Shore.{Standing, standing, storeless, Stepped, step_to, refused, asking, requested, all_taken, awaiting, opening, locally_opened, Whole, whole_of, Gives, guarded, Sends, sends_of, bad_out, sending}

pub refuses :
    (s : Shore) (store reply : List ℕ) (step : Stepped) → bad_call s.table (length store) (length reply) ≡ true
    → guarded s store reply step ≡ whole_of reply (refused (standing s store) BadCall)
unfolding guarded
refuses s store reply step e = rw e

pub passes :
    (s : Shore) (store reply : List ℕ) (step : Stepped) → bad_call s.table (length store) (length reply) ≡ false
    → guarded s store reply step ≡ whole_of reply step
unfolding guarded
passes s store reply step e = rw e

-- what gives the step gives the whole
pub gives_whole :
    (w : Whole) (s : Stepped) (reply storeAfter replyAfter : List ℕ) (r : Given) → w ≡ whole_of reply s
    → Gives s reply r storeAfter replyAfter → (r ≡ w.result) × ((storeAfter ≡ w.store) × (replyAfter ≡ w.reply))
unfolding whole_of
gives_whole w s reply storeAfter replyAfter r e g = rw e (g.result, (g.stored, g.replied))

-- a refusal that concerns no channel: nothing but the answer
pub gives_refused :
    (st : Standing) (why : Refusal) (reply : List ℕ) (r : Given)
    → r ≡ record { shore = st.shore; said = Refused why None; sent = 0; place = PARTS }
    → Gives (refused st why) reply r st.store reply
unfolding laid place_for concern_said
gives_refused st why reply r f = record { result = f; stored = refl; replied = refl }

-- ---- the request and a local open

pub out_refuses :
    (s : Shore) (out : List ℕ) (step : Stepped) → bad_out s.table (length out) ≡ true
    → sending s out step ≡ sends_of out (refused (storeless s) BadCall)
unfolding sending
out_refuses s out step e = rw e

pub out_passes :
    (s : Shore) (out : List ℕ) (step : Stepped) → bad_out s.table (length out) ≡ false → sending s out step ≡ sends_of out step
unfolding sending
out_passes s out step e = rw e

-- a refusal sends nothing, and writes nothing
pub unsent :
    (s : Shore) (why : Refusal) (out : List ℕ) (w : Sends) (r : Sending) → w ≡ sends_of out (refused (storeless s) why)
    → r ≡ record { shore = s; said = Refused why None; sent = 0 } → (r ≡ w.result) × (out ≡ w.out)
unfolding sends_of laid
unsent s why out w r e f = rw e (f, refl)

-- ---- what is written: in front of it 5 and 11, as writing judges them

-- such a step: a refusal, or a PDU that is sent
abbrev pub writes : Shore → Bool → List ℕ → Stepped → Stepped
writes s bad pdu step =
    refuse (refused (storeless s) BadField) bad (refuse (refused (storeless s) OverLimit) (ltb PDU_MAX (length pdu)) step)

-- of values that are good or bad, and lengths that fit or don't
abbrev judged_by : Bool → Bool → ℕ → Result ℕ Refusal
judged_by bad over len = cond bad (Err BadField) (cond over (Err OverLimit) (Ok len))

judged_so : (bad : Bool) (pdu out : List ℕ) → ltb (length out) PDU_MAX ≡ false → written bad pdu out ≡ judged_by bad (ltb PDU_MAX (length pdu)) (length pdu)
unfolding written judged
judged_so bad pdu out e = rw e

module _ (s : Shore) (next : Shore) (said : Said) (bad : Bool) (pdu out : List ℕ) (w : Result ℕ Refusal) (after : List ℕ) (fits : ltb (length out) PDU_MAX ≡ false)
    (e : w ≡ written bad pdu out) (f : after ≡ buffer_after (outcome w) pdu out) where
  abbrev step : Stepped
  step = writes s bad pdu (step_to (storeless next) said pdu)

  abbrev Sent : Sending → Type 0
  Sent r = (r ≡ (sends_of out step).result) × (after ≡ (sends_of out step).out)

  by : w ≡ judged_by bad (ltb PDU_MAX (length pdu)) (length pdu)
  by = e ∙ judged_so bad pdu out fits

  -- what writing refuses
  pub write_refused : (why : Refusal) (r : Sending) → w ≡ Err why → r ≡ record { shore = s; said = Refused why None; sent = 0 } → Sent r
  unfolding sends_of buffer_after outcome laid
  write_refused why r g h = go bad (ltb PDU_MAX (length pdu)) (sym g ∙ by)
    where
      left : after ≡ out
      left = f ∙ rw g refl

      go :
          (b over : Bool) → Err why ≡ judged_by b over (length pdu)
          → (r ≡ (sends_of out (cond b (refused (storeless s) BadField) (cond over (refused (storeless s) OverLimit) (step_to (storeless next) said pdu)))).result)
          × (after ≡ (sends_of out (cond b (refused (storeless s) BadField) (cond over (refused (storeless s) OverLimit) (step_to (storeless next) said pdu)))).out)
      go true over k = let same : why ≡ BadField = cc in (h ∙ rw same refl, left)
      go false true k = let same : why ≡ OverLimit = cc in (h ∙ rw same refl, left)
      go false false k = let z : ◌≡◌ {A = ℕ} 0 1 = cc in absurd (omega arith)

  -- what it writes
  pub write_sent : (n : ℕ) (r : Sending) → w ≡ Ok n → r ≡ record { shore = next; said = said; sent = n } → Sent r
  unfolding sends_of buffer_after outcome
  write_sent n r g h = go bad (ltb PDU_MAX (length pdu)) (sym g ∙ by)
    where
      left : after ≡ laid out 0 pdu
      left = f ∙ rw g refl

      go :
          (b over : Bool) → Ok n ≡ judged_by b over (length pdu)
          → (r ≡ (sends_of out (cond b (refused (storeless s) BadField) (cond over (refused (storeless s) OverLimit) (step_to (storeless next) said pdu)))).result)
          × (after ≡ (sends_of out (cond b (refused (storeless s) BadField) (cond over (refused (storeless s) OverLimit) (step_to (storeless next) said pdu)))).out)
      go true over k = let z : ◌≡◌ {A = ℕ} 0 1 = cc in absurd (omega arith)
      go false true k = let z : ◌≡◌ {A = ℕ} 0 1 = cc in absurd (omega arith)
      go false false k = let same : n ≡ length pdu = cc in (h ∙ rw same refl, left)

-- a buffer that refusal 1 doesn't meet has its size
pub roomy : (s : Shore) (out : List ℕ) → bad_out s.table (length out) ≡ false → ltb (length out) PDU_MAX ≡ false
unfolding bad_out
roomy s out e = (neither (ltb (length out) PDU_MAX) (not (sound_table s.table)) e).0

-- what gives the step gives the whole
pub gives_sent :
    (w : Sends) (v : Sends) → w ≡ v → {r : Sending} {after : List ℕ} → (r ≡ v.result) × (after ≡ v.out) → (r ≡ w.result) × (after ≡ w.out)
gives_sent w v e g = rw e g

-- ---- the request

pub request_refuses :
    (s : Shore) (version : ℕ) (charges : Charges) (out : List ℕ) → bad_out s.table (length out) ≡ true
    → requested s version charges out ≡ sends_of out (refused (storeless s) BadCall)
unfolding requested
request_refuses s version charges out e = out_refuses s out _ e

short : (version : ℕ) (charges : Charges) → ltb PDU_MAX (length (caps_request_bytes version charges)) ≡ false
unfolding PDU_MAX
short version charges =
    rw (length_caps_request version charges) (choice (λ (n : ℕ). ltb PDU_MAX n ≡ false) (eqb version 1) (λ e. refl) (λ e. refl))

pub requests :
    (s : Shore) (version : ℕ) (charges : Charges) (out : List ℕ) → bad_out s.table (length out) ≡ false → s.asked ≡ 0
    → requested s version charges out
    ≡ sends_of out (writes s (bad_capabilities version charges) (caps_request_bytes version charges)
    (step_to (storeless (record { table = s.table; asked = version })) (Asked version) (caps_request_bytes version charges)))
unfolding requested asking
requests s version charges out e f = out_passes s out _ e ∙ rw (short version charges, eq-eqb s.asked 0 f) refl

pub second :
    (s : Shore) (version : ℕ) (charges : Charges) (out : List ℕ) → bad_out s.table (length out) ≡ false → s.asked ≢ 0
    → requested s version charges out ≡ sends_of out (refused (storeless s) WrongTime)
unfolding requested asking
second s version charges out e f = out_passes s out _ e ∙ rw (ne_eqb s.asked 0 f) refl

-- ---- a local open

module _ (s : Shore) (name : List ℕ) (class : ℕ) (out : List ℕ) where
  abbrev n : ℕ
  n = least_number s.table

  abbrev pub pdu_for : List ℕ
  pdu_for = create_request_bytes n (class_at s.table.level class) name

  pub open_refuses : bad_out s.table (length out) ≡ true → locally_opened s name class out ≡ sends_of out (refused (storeless s) BadCall)
  unfolding locally_opened
  open_refuses e = out_refuses s out _ e

  module _ (e : bad_out s.table (length out) ≡ false) where
    pub open_early : s.table.ready ≡ false → locally_opened s name class out ≡ sends_of out (refused (storeless s) WrongTime)
    unfolding locally_opened opening
    open_early f = out_passes s out _ e ∙ rw f refl

    pub open_full :
        s.table.ready ≡ true → PARTS ≤ free_place s.table → locally_opened s name class out ≡ sends_of out (refused (storeless s) AllTaken)
    unfolding locally_opened opening all_taken
    open_full f g = out_passes s out _ e ∙ rw (le-ltb (free_place s.table) PARTS g, f) refl

    pub opens :
        s.table.ready ≡ true → free_place s.table < PARTS
        → locally_opened s name class out
        ≡ sends_of out (writes s (bad_request (class_at s.table.level class) name) pdu_for
        (step_to (storeless (record { table = awaiting s.table n class; asked = s.asked })) (Awaited n) pdu_for))
    unfolding locally_opened opening all_taken
    opens f g = out_passes s out _ e ∙ rw (lt-ltb (free_place s.table) PARTS g, f) refl

-- the record is put at the free place, where one stood that adds as much as a blank one
pub put_awaited :
    (t : Table) (number class : ℕ) → length t.records ≡ PARTS → free_place t < PARTS
    → put_back t t.ready t.level (free_place t) blank (Becomes (awaited_record t.level number class)) ≡ awaiting t number class
unfolding awaiting
put_awaited t number class long l =
    let within : free_place t < length t.records = rw long l in
    let free = free_at t within in
    put_becomes t (free_place t) blank within (opens_none blank refl ∙ sym (opens_none (record_at t (free_place t)) free))
    (awaits_none blank refl ∙ sym (awaits_none (record_at t (free_place t)) free)) (awaited_record t.level number class)
