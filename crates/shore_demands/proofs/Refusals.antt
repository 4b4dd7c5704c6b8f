-- Each refusal number is given exactly when its row of the paper's table holds and no earlier one in its order does. What both
-- ends have in common says so by the client's laws, which see an awaited number as not open.
-- Assumes nothing.
use Rattle.std.specs.Prelude.{Option, None, Some}
use mathlib.Core.Path.{◌≡◌, refl, ap, ◌∙◌}
use mathlib.Core.Bool.{Bool, true, false, cond, not, ◌&&◌, ◌||◌}
use mathlib.Core.List.{List, [], ◌∷◌, ◌++◌}
use Prim.Native.Nat.{ℕ}
use lib.Dec.{eqb, ltb}
use lib.IntN.{ℤ}
use lib.ListN.{length}
use Rattle.paper.specs.Sizes.{PARTS, PDU_MAX}
use Rattle.paper.specs.Rows.{Verdict, fine, refused_with, Row, row, first_held, comes_to}
use Rattle.paper.specs.declared.Refusal.{Refusal}
use Rattle.paper.specs.declared.Refusal.TheVariants.{BadCall, BadField, WrongTime, NotOpen, OverLimit, AllTaken, NotAwaited}
use Rattle.lists.proofs.Cases.{choice, each}
use Rattle.reading.specs.Reading.{read_pdu}
use Rattle.reading.specs.Said.{bytes_at, verdict_on}
use Rattle.reading.specs.Garbled.{carries}
use Rattle.reading.specs.Layouts.{reading_rows}
use Rattle.reading.specs.declared.Charges.{Charges}
use Rattle.reading.specs.declared.Pdu.{Pdu}
use Rattle.reading.specs.declared.Pdu.TheVariants.{CreateRequest, CreateResponse, DataFirst, Data, Close}
use Rattle.reading.specs.declared.Pdu.TheVariants.{CapsRequest, CapsResponse, Refused as Unread}
use Rattle.reading.proofs.Placed.{Placed, placed}
use Rattle.reading.proofs.Layouts.{reading_refusals}
use Rattle.laying.specs.Laying.{create_request_bytes}
use Rattle.writing.specs.Writing.{bad_request, bad_capabilities}
use Rattle.channel.specs.declared.Record.{Record}
use Rattle.channel.specs.declared.Offer.TheVariants.{First, More}
use Rattle.channel.specs.declared.Answer.{Answer}
use Rattle.channel.specs.declared.Answer.TheVariants as client
use Rattle.channel.specs.Channel.{Act, Bring, Garbled, Closing, LocalClose, View, Shut, Open, NoRoom, class_at, act}
use Rattle.deciding.specs.Deciding.{too_soon}
use Rattle.table.specs.Table.{number_place, record_at}
use Rattle.table.specs.Sound.{sound_table}
use Rattle.table.proofs.Soundness.{sound_says}
use Rattle.store.specs.Parts.{part}
use Rattle.connection.specs.States.{view_at, view}
use Rattle.client.specs.Client.{bad_call, started as startedClient}
use Rattle.client.proofs.Calls.{proper}
use Rattle.steps.specs.Rows.{verdict_of, stage_of, start_rows, start_outcome}
use Rattle.steps.proofs.Refusals.{says_first, says_data, says_garbled, says_close, says_local, place_long, not_read, first_of, start_refusals}
use Rattle.shore.specs.declared.Shore.{Shore}
use Rattle.shore.specs.declared.Said.{Said}
use Rattle.shore.specs.declared.Said.TheVariants.{Asked, Ready, Awaited, Opened, Declined, Held, Message, Closed, Ignored, Refused}
use Rattle.shore.specs.Saying.{said_as}
use Rattle.shore.specs.Rules.{Deed, Answered, Acts, Does, settled, is_below_zero, unawaited, as_open, common, deed}
use Rattle.shore.specs.Numbers.{least_number}
use Rattle.shore.specs.Events.{Unreadable, Response, Of, unread, event_of}
use Rattle.shore.specs.Shore.{Standing, standing, Stepped, refused, asking, responded, opening, finished, done, too_soon_for, stepped}
use Rattle.shore.specs.Shore.{whole_of, guarded, received, locally_closed, sends_of, bad_out, storeless, sending, requested, locally_opened}
use Rattle.shore.specs.Shore.{all_taken, started}
use Rattle.shore_demands.specs.Rows.{outcome_said, is_open_at, is_awaited_at, rows_of, receive_rows, request_rows, open_rows, close_rows}

-- what an answer says of it
abbrev verdict_said : Said → Verdict
verdict_said (Asked version) = fine
verdict_said (Ready level) = fine
verdict_said (Awaited n) = fine
verdict_said (Opened n) = fine
verdict_said (Declined n) = fine
verdict_said (Held n left) = fine
verdict_said (Message n len) = fine
verdict_said (Closed n) = fine
verdict_said (Ignored n) = fine
verdict_said (Refused why concern) = refused_with why

abbrev verdict : Stepped → Verdict
verdict s = verdict_said s.said

-- what the common rules answer has one verdict at both ends
said_alike : (a : Answer) → verdict_said (said_as a) ≡ verdict_of a
unfolding said_as verdict_of
said_alike (client.Ready level) = refl
said_alike (client.Opened n) = refl
said_alike (client.Declined n why) = refl
said_alike (client.Held n left) = refl
said_alike (client.Message n len) = refl
said_alike (client.Closed n) = refl
said_alike (client.Ignored n) = refl
said_alike (client.Refused why concern) = refl

-- ---- one number, with a record or without

module _ (level n : ℕ) (r : Record) (part : List ℕ) where
  -- a Create response: 16 unless awaited
  response_says :
      (has : Bool) (status : ℤ)
      → verdict_said (deed level n (cond has (Open r part) Shut) (Answered status)).said
      ≡ first_held (row NotAwaited (not (has && r.awaited)) ∷ [])
  unfolding deed settled first_held
  response_says false status = refl
  response_says true status = go r.awaited
    where
      go :
          (t : Bool)
          → verdict_said (cond t (settled n r part status) (unawaited n (Open r part))).said
          ≡ cond (not t) (refused_with NotAwaited) fine
      go true = choice (λ (d : Does). verdict_said d.said ≡ fine) (is_below_zero status) (λ e. refl) (λ e. refl)
      go false = refl

-- what the common rules see of it
pub seen_as :
    (r : Record) (part : List ℕ) (has : Bool)
    → as_open (cond has (Open r part) Shut) ≡ cond (has && not r.awaited) (Open r part) Shut
seen_as r part false = refl
seen_as r part true = go r.awaited
  where
    go : (t : Bool) → cond t Shut (Open r part) ≡ cond (not t) (Open r part) Shut
    go true = refl
    go false = refl

-- ---- a step

-- what comes when not ready stands in front of an event of a number
of_verdict :
    (st : Standing) (n : ℕ) (d : Deed)
    → verdict (stepped st (Of n d)) ≡ cond (not st.shore.table.ready) (refused_with (too_soon_for d)) (verdict (done n st d))
unfolding stepped
of_verdict st n d = go st.shore.table.ready
  where
    go :
        (t : Bool) → verdict (cond t (done n st d) (refused st (too_soon_for d))) ≡ cond (not t) (refused_with (too_soon_for d)) (verdict (done n st d))
    go true = refl
    go false = refl

module _ (s : Shore) (store : List ℕ) where
  -- the record of a number, and its part
  abbrev row_of : ℕ → Record
  row_of n = record_at s.table (number_place n s.table)

  abbrev part_of : ℕ → List ℕ
  part_of n = part store (number_place n s.table)

  -- what its rules say of it
  abbrev ruled : ℕ → Deed → Verdict
  ruled n d = verdict (done n (standing s store) d)

  -- what the common rules answer of a number that is open unless it is awaited
  abbrev answered : ℕ → Act → Verdict
  answered n a = verdict_of (act s.table.level n NoRoom (cond (is_open_at s.table n) (Open (row_of n) (part_of n)) Shut) a).answer

  common_verdict : (n : ℕ) (a : Act) → ruled n (Acts a) ≡ answered n a
  unfolding done finished deed common view view_at is_open_at
  common_verdict n a =
      said_alike (act s.table.level n NoRoom (as_open (cond (ltb (number_place n s.table) PARTS) (Open (row_of n) (part_of n)) Shut)) a).answer
      ∙ ap (λ (v : View). verdict_of (act s.table.level n NoRoom v a).answer)
      (seen_as (row_of n) (part_of n) (ltb (number_place n s.table) PARTS))

  response_verdict : (n : ℕ) (status : ℤ) → ruled n (Answered status) ≡ first_held (row NotAwaited (not (is_awaited_at s.table n)) ∷ [])
  unfolding done finished view view_at is_awaited_at
  response_verdict n status = response_says s.table.level n (row_of n) (part_of n) (ltb (number_place n s.table) PARTS) status

  -- 7 in front of the rows of a number
  timed :
      (n : ℕ) (d : Deed) (rows : List Row) → too_soon_for d ≡ WrongTime → ruled n d ≡ first_held rows
      → verdict (stepped (standing s store) (Of n d)) ≡ first_held (row WrongTime (not s.table.ready) ∷ rows)
  unfolding first_held
  timed n d rows soon e = rw (← soon, ← e) (of_verdict (standing s store) n d)

  timed_act :
      (n : ℕ) (a : Act) (rows : List Row) → too_soon a ≡ WrongTime → answered n a ≡ first_held rows
      → verdict (stepped (standing s store) (Of n (Acts a))) ≡ first_held (row WrongTime (not s.table.ready) ∷ rows)
  unfolding too_soon_for
  timed_act n a rows soon e = timed n (Acts a) rows soon (common_verdict n a ∙ e)

  -- a garbled block gets its refusal, ready or not, open or not
  unread_says : (why : Refusal) (carried : Option ℕ) → verdict (stepped (standing s store) (unread why carried)) ≡ refused_with why
  unfolding unread stepped too_soon_for too_soon
  unread_says why None = refl
  unread_says why (Some n) =
      of_verdict (standing s store) n (Acts (Garbled why))
      ∙ choice (λ (v : Verdict). v ≡ refused_with why) (not s.table.ready) (λ e. refl)
      (λ e. common_verdict n (Garbled why) ∙ says_garbled s.table.level n NoRoom (row_of n) (part_of n) (is_open_at s.table n) why)

  -- a PDU that comes from no client
  never_read : verdict (stepped (standing s store) (Unreadable WrongTime)) ≡ first_held (row WrongTime true ∷ [])
  unfolding stepped first_held
  never_read = refl

  -- an unasked Capabilities response, and one when ready
  caps_says : (version : ℕ) → verdict (stepped (standing s store) (Response version)) ≡ first_held (row WrongTime (s.table.ready || eqb s.asked 0) ∷ [])
  unfolding stepped responded first_held
  caps_says version = each verdict (λ v. v) (s.table.ready || eqb s.asked 0) refl refl

  local_verdict :
      (n : ℕ)
      → verdict (stepped (standing s store) (Of n (Acts LocalClose)))
      ≡ first_held (row WrongTime (not s.table.ready) ∷ row NotOpen (not (is_open_at s.table n)) ∷ [])
  unfolding too_soon
  local_verdict n = timed_act n LocalClose _ refl (says_local s.table.level n NoRoom (row_of n) (part_of n) (is_open_at s.table n))

  module _ (pdu : List ℕ) (sound : sound_table s.table ≡ true) where
    -- what reading accepts gets the rows of its kind
    step_verdict :
        (p : Pdu) → Placed pdu p → verdict_on p ≡ fine → verdict (stepped (standing s store) (event_of pdu p)) ≡ first_held (rows_of s p)
    unfolding event_of rows_of too_soon_for too_soon stage_of
    step_verdict (CapsResponse version) h f = caps_says version
    step_verdict (CreateResponse n status) h f = timed n (Answered status) _ refl (response_verdict n status)
    step_verdict (DataFirst n len block) h f =
        timed_act n (Bring (First len) (bytes_at pdu block)) _ refl
        (rw (place_long pdu block h) at (says_first s.table.level n NoRoom (row_of n) (part_of n) (is_open_at s.table n) len (bytes_at pdu block)))
    step_verdict (Data n block) h f =
        let good = (sound_says s.table sound).stage (number_place n s.table) in
        timed_act n (Bring More (bytes_at pdu block)) _ refl
        (rw (place_long pdu block h) at (says_data s.table.level n NoRoom (row_of n) (part_of n) (is_open_at s.table n) (bytes_at pdu block) good))
    step_verdict (Close n) h f =
        timed_act n Closing _ refl (says_close s.table.level n NoRoom (row_of n) (part_of n) (is_open_at s.table n))
    step_verdict (CreateRequest n class name) h f = never_read
    step_verdict (CapsRequest version charges) h f = never_read
    step_verdict (Unread why) h f = cc

    -- reading's rows first
    read_verdict :
        verdict (stepped (standing s store) (event_of pdu (read_pdu false pdu))) ≡ first_held (reading_rows false pdu ++ rows_of s (read_pdu false pdu))
    unfolding event_of
    read_verdict =
        first_of (reading_rows false pdu) (rows_of s (read_pdu false pdu)) (reading_refusals false pdu) (step_verdict (read_pdu false pdu) (placed pdu false))
        (λ why f. rw (not_read (read_pdu false pdu) why f) (unread_says why (carries pdu)))

-- ---- the calls

-- refusal 1 in front, in the rows as in the call
guarded_verdict :
    (s : Shore) (store reply : List ℕ) (x : Stepped) (rows : List Row) → (sound_table s.table ≡ true → verdict x ≡ first_held rows)
    → verdict_said (guarded s store reply x).result.said ≡ first_held (row BadCall (bad_call s.table (length store) (length reply)) ∷ rows)
unfolding guarded whole_of first_held
guarded_verdict s store reply x rows f = go (bad_call s.table (length store) (length reply)) refl
  where
    go :
        (b : Bool) → bad_call s.table (length store) (length reply) ≡ b
        → verdict (cond b (refused (standing s store) BadCall) x) ≡ cond b (refused_with BadCall) (first_held rows)
    go true e = refl
    go false e = f (proper s.table (length store) (length reply) e).sound

sending_verdict :
    (s : Shore) (out : List ℕ) (x : Stepped) (rows : List Row) → verdict x ≡ first_held rows
    → verdict_said (sending s out x).result.said ≡ first_held (row BadCall (bad_out s.table (length out)) ∷ rows)
unfolding sending sends_of first_held
sending_verdict s out x rows e = each verdict (λ v. v) (bad_out s.table (length out)) refl e

-- "(1, 7, 5)"
asking_verdict :
    (s : Shore) (version : ℕ) (charges : Charges)
    → verdict (asking (storeless s) version charges)
    ≡ first_held (row WrongTime (not (eqb s.asked 0)) ∷ row BadField (bad_capabilities version charges) ∷ [])
unfolding asking first_held
asking_verdict s version charges =
    each verdict (λ v. v) (not (eqb s.asked 0)) refl (each verdict (λ v. v) (bad_capabilities version charges) refl refl)

-- "(local open: 1, 7, 15, 5, 11)"
opening_verdict :
    (s : Shore) (name : List ℕ) (class : ℕ)
    → verdict (opening (storeless s) name class)
    ≡ first_held
    (row WrongTime (not s.table.ready) ∷ row AllTaken (all_taken s.table) ∷ row BadField (bad_request (class_at s.table.level class) name)
    ∷ row OverLimit (ltb PDU_MAX (length (create_request_bytes (least_number s.table) (class_at s.table.level class) name))) ∷ [])
unfolding opening first_held
opening_verdict s name class =
    each verdict (λ v. v) (not s.table.ready) refl
    (each verdict (λ v. v) (all_taken s.table) refl
    (each verdict (λ v. v) (bad_request (class_at s.table.level class) name) refl
    (each verdict (λ v. v) (ltb PDU_MAX (length (create_request_bytes (least_number s.table) (class_at s.table.level class) name))) refl refl)))

-- ---- in the paper's terms

outcome_is : (said : Said) → outcome_said said ≡ comes_to said (verdict_said said)
unfolding outcome_said comes_to
outcome_is (Asked version) = refl
outcome_is (Ready level) = refl
outcome_is (Awaited n) = refl
outcome_is (Opened n) = refl
outcome_is (Declined n) = refl
outcome_is (Held n left) = refl
outcome_is (Message n len) = refl
outcome_is (Closed n) = refl
outcome_is (Ignored n) = refl
outcome_is (Refused why concern) = refl

-- an answer whose verdict is known
so_comes : (said : Said) {v : Verdict} → verdict_said said ≡ v → outcome_said said ≡ comes_to said v
so_comes said e = outcome_is said ∙ ap (comes_to said) e

pub receive_outcome :
    (s : Shore) (store pdu reply : List ℕ)
    → outcome_said (received s store pdu reply).result.said
    ≡ comes_to (received s store pdu reply).result.said (first_held (receive_rows s store pdu reply))
unfolding received receive_rows
receive_outcome s store pdu reply =
    so_comes (received s store pdu reply).result.said (guarded_verdict s store reply _ _ (read_verdict s store pdu))

pub local_close_outcome :
    (s : Shore) (store : List ℕ) (n : ℕ) (reply : List ℕ)
    → outcome_said (locally_closed s store n reply).result.said
    ≡ comes_to (locally_closed s store n reply).result.said (first_held (close_rows s store n reply))
unfolding locally_closed close_rows
local_close_outcome s store n reply =
    so_comes (locally_closed s store n reply).result.said (guarded_verdict s store reply _ _ (λ g. local_verdict s store n))

pub request_outcome :
    (s : Shore) (version : ℕ) (charges : Charges) (out : List ℕ)
    → outcome_said (requested s version charges out).result.said
    ≡ comes_to (requested s version charges out).result.said (first_held (request_rows s version charges out))
unfolding requested request_rows
request_outcome s version charges out =
    so_comes (requested s version charges out).result.said (sending_verdict s out _ _ (asking_verdict s version charges))

pub local_open_outcome :
    (s : Shore) (name : List ℕ) (class : ℕ) (out : List ℕ)
    → outcome_said (locally_opened s name class out).result.said
    ≡ comes_to (locally_opened s name class out).result.said (first_held (open_rows s name class out))
unfolding locally_opened open_rows
local_open_outcome s name class out =
    so_comes (locally_opened s name class out).result.said (sending_verdict s out _ _ (opening_verdict s name class))

-- Start is the client's
pub start_outcome_law : (store : List ℕ) → start_outcome (started store).begun ≡ comes_to tt (first_held (start_rows store))
unfolding started startedClient
start_outcome_law store = start_refusals store
