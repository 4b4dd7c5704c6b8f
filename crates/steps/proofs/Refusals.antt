-- Each refusal number is given exactly when its row of the paper's table holds and no earlier one in the paper's order does.
-- Assumes nothing.
use Rattle.std.specs.Prelude.{Option, None, Some, Err, Ok}
use mathlib.Core.Path.{◌≡◌, refl, sym, ap, ◌∙◌}
use mathlib.Core.Bool.{Bool, true, false, cond, not}
use mathlib.Core.List.{List, [], ◌∷◌, ◌++◌}
use Prim.Native.Nat.{ℕ, ◌+◌, ◌-◌, ◌≤◌}
use native.Mathlib.Nat.{zero-add}
use native.Mathlib.Omega.{arith}
use borrow.Author.Tests.{lt-ltb, le-ltb, ltb-true, ltb-false}
use lib.Dec.{ltb, eqb}
use lib.ListN.{length, length-take, length-drop}
use Rattle.paper.specs.Sizes.{PARTS, STORE, MESSAGE_MAX}
use Rattle.paper.specs.declared.Refusal.{Refusal}
use Rattle.paper.specs.declared.Refusal.TheVariants.{BadCall, BadList, WrongTime, NotOpen, AlreadyOpen, StillJoining, OverLimit, PastLength, IsSpoiled}
use Rattle.lists.proofs.Cases.{choice, each}
use Rattle.reading.specs.Garbled.{carries}
use Rattle.reading.specs.Reading.{read_pdu}
use Rattle.reading.specs.Said.{bytes_at}
use Rattle.reading.specs.declared.Extent.{Extent}
use Rattle.reading.specs.declared.Pdu.{Pdu}
use Rattle.reading.specs.declared.Pdu.TheVariants.{CreateRequest, CreateResponse, DataFirst, Data, Close, CapsRequest, CapsResponse, Refused}
use Rattle.reading.specs.Said.{verdict_on}
use Rattle.reading.specs.Layouts.{reading_rows}
use Rattle.reading.proofs.Placed.{Placed, placed}
use Rattle.reading.proofs.Layouts.{reading_refusals}
use Rattle.listeners.specs.Listeners.{good_list, is_listed}
use Rattle.channel.specs.declared.Stage.{Stage}
use Rattle.channel.specs.declared.Stage.TheVariants.{Idle, Joining, Spoiled}
use Rattle.channel.specs.declared.Record.{Record}
use Rattle.channel.specs.declared.Offer.TheVariants.{First, More}
use Rattle.channel.specs.declared.Answer.{Answer}
use Rattle.channel.specs.declared.Answer.TheVariants.{Ready, Opened, Declined, Held, Message, Closed, Ignored, Refused as Refuses}
use Rattle.paper.specs.Rows.{Verdict, fine, refused_with, Row, row, first_held, comes_to}
use Rattle.paper.proofs.Rows.{held_before, held_behind}
use Rattle.channel.specs.declared.Took.{Took}
use Rattle.channel.specs.declared.Took.TheVariants.{Bars, Spoils, Holds, Finishes}
use Rattle.channel.specs.Stages.{added, took_first, took}
use Rattle.channel.specs.Channel.{Act, BadCreate, Create, Bring, Garbled, Closing, LocalClose, View, Shut, Open, Room, NoRoom, Spare, opening, answer_to, landed, act}
use Rattle.deciding.specs.Deciding.{too_soon}
use Rattle.table.specs.declared.Table.{Table}
use Rattle.table.specs.Table.{number_place, record_at}
use Rattle.table.specs.Sound.{good_stage, sound_table}
use Rattle.table.proofs.Soundness.{sound_says, joining_bounds}
use Rattle.connection.specs.States.{State, state_of, view_at, view, room_in}
use Rattle.store.specs.Parts.{part}
use Rattle.client.specs.Events.{Unreadable, Capabilities, Of, create_act, unread, event_of}
use Rattle.client.specs.Client.{Stepped, refused, finished, acted, readied, stepped, bad_call, Whole, whole_of, guarded, received, locally_closed, started}
use Rattle.client.proofs.Steps.{too_late, made_ready}
use Rattle.client.proofs.Calls.{proper, refuses, passes as passes-by}
use Rattle.steps.specs.Rows.{verdict_of, outcome_of, is_open, stage_of, is_spoiled, is_joining, passes, first_rows, data_rows, rows_of, receive_rows, close_rows, start_rows, start_outcome}

-- a step's verdict
abbrev verdict : Stepped → Verdict
verdict s = verdict_of s.answer

-- ---- what data comes to

abbrev took_verdict : Took → Verdict
took_verdict (Bars why) = refused_with why
took_verdict (Spoils why) = refused_with why
took_verdict (Holds wanted at held) = fine
took_verdict (Finishes at len) = fine

landed_verdict : (n : ℕ) (r : Record) (part bytes : List ℕ) (t : Took) → verdict_of (landed n r part bytes t).answer ≡ took_verdict t
unfolding landed answer_to verdict_of
landed_verdict n r part bytes (Bars why) = refl
landed_verdict n r part bytes (Spoils why) = refl
landed_verdict n r part bytes (Holds wanted at held) = refl
landed_verdict n r part bytes (Finishes at len) = refl

added_verdict : (wanted held m : ℕ) → took_verdict (added wanted held m) ≡ cond (ltb wanted (held + m)) (refused_with PastLength) fine
unfolding added
added_verdict wanted held m =
    each took_verdict (λ v. v) (ltb wanted (held + m)) refl
    (choice (λ (t : Took). took_verdict t ≡ fine) (eqb (held + m) wanted) (λ e. refl) (λ e. refl))

-- "longer than what is still to come"
to_come_law : (wanted held m : ℕ) → held ≤ wanted → ltb wanted (held + m) ≡ ltb (wanted - held) m
to_come_law wanted held m h = go (ltb (wanted - held) m) refl
  where
    go : (t : Bool) → ltb (wanted - held) m ≡ t → ltb wanted (held + m) ≡ t
    go true e = let k = ltb-true (wanted - held) m e in lt-ltb wanted (held + m) (omega arith)
    go false e = let k = ltb-false (wanted - held) m e in le-ltb wanted (held + m) (omega arith)

first_verdict :
    (s : Stage) (len m : ℕ)
    → took_verdict (took s (First len) m) ≡ first_held (row IsSpoiled (is_spoiled s) ∷ row StillJoining (is_joining s) ∷ row OverLimit (ltb MESSAGE_MAX len) ∷ row PastLength (ltb len m) ∷ [])
unfolding took took_first first_held is_spoiled is_joining
first_verdict Spoiled len m = refl
first_verdict (Joining wanted held) len m = refl
first_verdict Idle len m = each took_verdict (λ v. v) (ltb MESSAGE_MAX len) refl (rw zero-add at (added_verdict len 0 m))

data_verdict :
    (s : Stage) (m : ℕ) → good_stage s ≡ true
    → took_verdict (took s More m) ≡ first_held (row IsSpoiled (is_spoiled s) ∷ row PastLength (passes s m) ∷ [])
unfolding took first_held is_spoiled passes
data_verdict Spoiled m g = refl
data_verdict Idle m g = refl
data_verdict (Joining wanted held) m g =
    let b = joining_bounds (Joining wanted held) wanted held refl g in
    rw (← to_come_law wanted held m (omega arith)) (added_verdict wanted held m)

-- ---- what a channel answers, open or not

refuses_so : (why : Refusal) (concern : Option ℕ) → verdict_of (Refuses why concern) ≡ refused_with why
unfolding verdict_of
refuses_so why concern = refl

module _ (level n : ℕ) (room : Room) (r : Record) (part : List ℕ) where
  abbrev seen : Bool → View
  seen t = cond t (Open r part) Shut

  abbrev says : Bool → Act → Verdict
  says t a = verdict_of (act level n room (seen t) a).answer

  says_create :
      (t good listed : Bool) (pri : ℕ)
      → says t (cond good (Create listed pri) BadCreate) ≡ first_held (row BadList (not good) ∷ row AlreadyOpen t ∷ [])
  unfolding act opening verdict_of first_held
  says_create true true listed pri = refl
  says_create false true true pri = says_open room
    where
      says_open : (room : Room) → verdict_of (opening level n pri room).answer ≡ fine
      says_open NoRoom = refl
      says_open (Spare p) = refl
  says_create false true false pri = refl
  says_create true false listed pri = refl
  says_create false false listed pri = refl

  pub says_first :
      (t : Bool) (len : ℕ) (bytes : List ℕ)
      → says t (Bring (First len) bytes) ≡ first_held (row NotOpen (not t) ∷ row IsSpoiled (is_spoiled r.stage) ∷ row StillJoining (is_joining r.stage) ∷ row OverLimit (ltb MESSAGE_MAX len) ∷ row PastLength (ltb len (length bytes)) ∷ [])
  unfolding act first_held
  says_first true len bytes = landed_verdict n r part bytes (took r.stage (First len) (length bytes)) ∙ first_verdict r.stage len (length bytes)
  says_first false len bytes = refuses_so NotOpen (Some n)

  pub says_data :
      (t : Bool) (bytes : List ℕ) → good_stage r.stage ≡ true
      → says t (Bring More bytes) ≡ first_held (row NotOpen (not t) ∷ row IsSpoiled (is_spoiled r.stage) ∷ row PastLength (passes r.stage (length bytes)) ∷ [])
  unfolding act first_held
  says_data true bytes g = landed_verdict n r part bytes (took r.stage More (length bytes)) ∙ data_verdict r.stage (length bytes) g
  says_data false bytes g = refuses_so NotOpen (Some n)

  pub says_garbled : (t : Bool) (why : Refusal) → says t (Garbled why) ≡ refused_with why
  unfolding act verdict_of
  says_garbled true why = refl
  says_garbled false why = refl

  pub says_close : (t : Bool) → says t Closing ≡ first_held []
  unfolding act verdict_of first_held
  says_close true = refl
  says_close false = refl

  pub says_local : (t : Bool) → says t LocalClose ≡ first_held (row NotOpen (not t) ∷ [])
  unfolding act verdict_of first_held
  says_local true = refl
  says_local false = refl

-- ---- a step

-- what comes when not ready stands in front of an event of a channel
soon_verdict :
    (st : State) (n : ℕ) (a : Act)
    → verdict (stepped st (Of n a)) ≡ cond (not st.table.ready) (refused_with (too_soon a)) (verdict_of (act st.table.level n (room_in st) (view n st) a).answer)
unfolding stepped acted finished
soon_verdict st n a = go st.table.ready
  where
    go :
        (t : Bool)
        → verdict (cond t (finished n st (view n st) (act st.table.level n (room_in st) (view n st) a)) (refused st (too_soon a))) ≡ cond (not t) (refused_with (too_soon a)) (verdict_of (act st.table.level n (room_in st) (view n st) a).answer)
    go true = refl
    go false = refuses_so (too_soon a) None

-- it is refusal 7, but for a garbled block
of_verdict :
    (st : State) (n : ℕ) (a : Act) → too_soon a ≡ WrongTime
    → verdict (stepped st (Of n a)) ≡ cond (not st.table.ready) (refused_with WrongTime) (verdict_of (act st.table.level n (room_in st) (view n st) a).answer)
of_verdict st n a e =
    soon_verdict st n a
    ∙ ap (λ (why : Refusal). cond (not st.table.ready) (refused_with why) (verdict_of (act st.table.level n (room_in st) (view n st) a).answer)) e

-- a place within the PDU is as long as it says
pub place_long : (pdu : List ℕ) (p : Extent) → p.at + p.len ≡ length pdu → length (bytes_at pdu p) ≡ p.len
unfolding bytes_at
place_long pdu p h = simp (length-take, length-drop) (omega arith)

-- only what reading refuses has a refusal on it
pub not_read : (p : Pdu) (why : Refusal) → verdict_on p ≡ refused_with why → p ≡ Refused why
not_read (CapsRequest version charges) why f = cc
not_read (CreateRequest n class name) why f = cc
not_read (DataFirst n len block) why f = cc
not_read (Data n block) why f = cc
not_read (Close n) why f = cc
not_read (CreateResponse n status) why f = cc
not_read (CapsResponse version) why f = cc
not_read (Refused x) why f = cc

-- rows and further rows: what the first rows come to, where they refuse, and else what the further ones do
pub first_of :
    {v w : Verdict} (rows more : List Row) → v ≡ first_held rows → (v ≡ fine → w ≡ first_held more)
    → ((why : Refusal) → v ≡ refused_with why → w ≡ refused_with why) → w ≡ first_held (rows ++ more)
first_of {v = fine} rows more e f g = f refl ∙ sym (held_behind rows more (sym e))
first_of {v = refused_with why} rows more e f g = g why refl ∙ sym (held_before rows more why (sym e))

module _ (t : Table) (store list pdu : List ℕ) (sound : sound_table t ≡ true) where
  -- the channel with number n, as the searches find it
  abbrev found : ℕ → Act → Verdict
  found n a = verdict_of (act t.level n (room_in (state_of t store)) (view n (state_of t store)) a).answer

  create_says :
      (n pri : ℕ) (name : List ℕ)
      → found n (create_act list name pri) ≡ first_held (row BadList (not (good_list list)) ∷ row AlreadyOpen (is_open t n) ∷ [])
  unfolding view view_at create_act is_open
  create_says n pri name = says_create t.level n (room_in (state_of t store)) (record_at t (number_place n t)) (part store (number_place n t)) (ltb (number_place n t) PARTS) (good_list list) (is_listed list name) pri

  first_says :
      (n len : ℕ) (bytes : List ℕ)
      → found n (Bring (First len) bytes) ≡ first_held (row NotOpen (not (is_open t n)) ∷ row IsSpoiled (is_spoiled (stage_of t n)) ∷ row StillJoining (is_joining (stage_of t n)) ∷ row OverLimit (ltb MESSAGE_MAX len) ∷ row PastLength (ltb len (length bytes)) ∷ [])
  unfolding view view_at is_open stage_of
  first_says n len bytes = says_first t.level n (room_in (state_of t store)) (record_at t (number_place n t)) (part store (number_place n t)) (ltb (number_place n t) PARTS) len bytes

  data_says :
      (n : ℕ) (bytes : List ℕ)
      → found n (Bring More bytes) ≡ first_held (row NotOpen (not (is_open t n)) ∷ row IsSpoiled (is_spoiled (stage_of t n)) ∷ row PastLength (passes (stage_of t n) (length bytes)) ∷ [])
  unfolding view view_at is_open stage_of
  data_says n bytes = says_data t.level n (room_in (state_of t store)) (record_at t (number_place n t)) (part store (number_place n t)) (ltb (number_place n t) PARTS) bytes ((sound_says t sound).stage (number_place n t))

  close_says : (n : ℕ) → found n Closing ≡ first_held []
  unfolding view view_at
  close_says n = says_close t.level n (room_in (state_of t store)) (record_at t (number_place n t)) (part store (number_place n t)) (ltb (number_place n t) PARTS)

  local_says : (n : ℕ) → found n LocalClose ≡ first_held (row NotOpen (not (is_open t n)) ∷ [])
  unfolding view view_at is_open
  local_says n = says_local t.level n (room_in (state_of t store)) (record_at t (number_place n t)) (part store (number_place n t)) (ltb (number_place n t) PARTS)

  unreadable : (why : Refusal) → verdict (stepped (state_of t store) (Unreadable why)) ≡ refused_with why
  unfolding stepped
  unreadable why = refuses_so why None

  -- a garbled block gets its refusal, ready or not, open or not
  garbled_says : (n : ℕ) (why : Refusal) → found n (Garbled why) ≡ refused_with why
  unfolding view view_at
  garbled_says n why = says_garbled t.level n (room_in (state_of t store)) (record_at t (number_place n t)) (part store (number_place n t)) (ltb (number_place n t) PARTS) why

  garbled_verdict : (n : ℕ) (why : Refusal) → verdict (stepped (state_of t store) (Of n (Garbled why))) ≡ refused_with why
  unfolding too_soon
  garbled_verdict n why =
      soon_verdict (state_of t store) n (Garbled why)
      ∙ choice (λ (v : Verdict). v ≡ refused_with why) (not t.ready) (λ e. refl) (λ e. garbled_says n why)

  unread_says : (why : Refusal) (carried : Option ℕ) → verdict (stepped (state_of t store) (unread why carried)) ≡ refused_with why
  unfolding unread
  unread_says why None = unreadable why
  unread_says why (Some n) = garbled_verdict n why

  caps_says :
      (version : ℕ) (b : Bool) → t.ready ≡ b
      → verdict (stepped (state_of t store) (Capabilities version)) ≡ cond b (refused_with WrongTime) fine
  unfolding readied verdict_of
  caps_says version true e = ap verdict (too_late (state_of t store) version e)
  caps_says version false e = ap verdict (made_ready (state_of t store) version e)

  create_soon : (name : List ℕ) (pri : ℕ) → too_soon (create_act list name pri) ≡ WrongTime
  unfolding create_act too_soon
  create_soon name pri = choice (λ (a : Act). too_soon a ≡ WrongTime) (good_list list) (λ e. refl) (λ e. refl)

  -- what reading accepts gets the rows of its kind
  step_verdict :
      (p : Pdu) → Placed pdu p → verdict_on p ≡ fine
      → verdict (stepped (state_of t store) (event_of list pdu p)) ≡ first_held (rows_of t list p)
  unfolding event_of rows_of first_held too_soon
  step_verdict (CapsRequest version charges) h f = caps_says version t.ready refl
  step_verdict (CreateRequest n class name) h f =
      of_verdict (state_of t store) n (create_act list (bytes_at pdu name) class) (create_soon (bytes_at pdu name) class)
      ∙ ap (cond (not t.ready) (refused_with WrongTime)) (create_says n class (bytes_at pdu name))
  step_verdict (DataFirst n len block) h f =
      of_verdict (state_of t store) n (Bring (First len) (bytes_at pdu block)) refl
      ∙ ap (cond (not t.ready) (refused_with WrongTime)) (first_says n len (bytes_at pdu block))
      ∙ ap (λ (m : ℕ). first_held (first_rows t n len m)) (place_long pdu block h)
  step_verdict (Data n block) h f =
      of_verdict (state_of t store) n (Bring More (bytes_at pdu block)) refl
      ∙ ap (cond (not t.ready) (refused_with WrongTime)) (data_says n (bytes_at pdu block))
      ∙ ap (λ (m : ℕ). first_held (data_rows t n m)) (place_long pdu block h)
  step_verdict (Close n) h f = of_verdict (state_of t store) n Closing refl ∙ ap (cond (not t.ready) (refused_with WrongTime)) (close_says n)
  step_verdict (CreateResponse n status) h f = unreadable WrongTime
  step_verdict (CapsResponse version) h f = unreadable WrongTime
  step_verdict (Refused why) h f = let z : ◌≡◌ {A = ℕ} 0 1 = cc in absurd (omega arith)

  -- reading's rows first: what reading refuses gets that refusal
  read_verdict :
      (p : Pdu) (rows : List Row) → Placed pdu p → verdict_on p ≡ first_held rows
      → verdict (stepped (state_of t store) (event_of list pdu p)) ≡ first_held (rows ++ rows_of t list p)
  unfolding event_of
  read_verdict p rows h e =
      first_of rows (rows_of t list p) e (step_verdict p h)
      (λ why f. rw (not_read p why f) (unread_says why (carries pdu)))

  pub local_verdict :
      (n : ℕ)
      → verdict (stepped (state_of t store) (Of n LocalClose)) ≡ first_held (row WrongTime (not t.ready) ∷ row NotOpen (not (is_open t n)) ∷ [])
  unfolding first_held too_soon
  local_verdict n = of_verdict (state_of t store) n LocalClose refl ∙ ap (cond (not t.ready) (refused_with WrongTime)) (local_says n)

-- ---- the calls

whole_verdict : {w : Whole} (reply : List ℕ) (s : Stepped) → w ≡ whole_of reply s → verdict_of w.result.answer ≡ verdict s
unfolding whole_of
whole_verdict reply s e = rw e

-- refusal 1 in front, in the rows as in the call
guarded_verdict :
    (t : Table) (store reply : List ℕ) (s : Stepped) (rows : List Row) → (sound_table t ≡ true → verdict s ≡ first_held rows)
    → verdict_of (guarded t store reply s).result.answer ≡ first_held (row BadCall (bad_call t (length store) (length reply)) ∷ rows)
unfolding first_held
guarded_verdict t store reply s rows f = go (bad_call t (length store) (length reply)) refl
  where
    go :
        (b : Bool) → bad_call t (length store) (length reply) ≡ b
        → verdict_of (guarded t store reply s).result.answer ≡ cond b (refused_with BadCall) (first_held rows)
    go true e = whole_verdict reply (refused (state_of t store) BadCall) (refuses t store reply s e) ∙ refuses_so BadCall None
    go false e = whole_verdict reply s (passes-by t store reply s e) ∙ f (proper t (length store) (length reply) e).sound

-- receive refuses with the first row that holds, and with none if none does
pub receive_refusals :
    (t : Table) (store list pdu reply : List ℕ)
    → verdict_of (received t store list pdu reply).result.answer ≡ first_held (receive_rows t store list pdu reply)
unfolding received receive_rows
receive_refusals t store list pdu reply =
    guarded_verdict t store reply (stepped (state_of t store) (event_of list pdu (read_pdu true pdu))) (reading_rows true pdu ++ rows_of t list (read_pdu true pdu))
    (λ s. read_verdict t store list pdu s (read_pdu true pdu) (reading_rows true pdu) (placed pdu true) (reading_refusals true pdu))

-- so does the local close
pub local_close_refusals :
    (t : Table) (store : List ℕ) (n : ℕ) (reply : List ℕ)
    → verdict_of (locally_closed t store n reply).result.answer ≡ first_held (close_rows t store n reply)
unfolding locally_closed close_rows
local_close_refusals t store n reply = guarded_verdict t store reply (stepped (state_of t store) (Of n LocalClose)) (row WrongTime (not t.ready) ∷ row NotOpen (not (is_open t n)) ∷ []) (λ s. local_verdict t store [] [] s n)

-- ---- in the paper's terms

outcome_is : (answer : Answer) → outcome_of answer ≡ comes_to answer (verdict_of answer)
unfolding outcome_of verdict_of comes_to
outcome_is (Ready level) = refl
outcome_is (Opened n) = refl
outcome_is (Declined n why) = refl
outcome_is (Held n left) = refl
outcome_is (Message n len) = refl
outcome_is (Closed n) = refl
outcome_is (Ignored n) = refl
outcome_is (Refuses why concern) = refl

module _ (t : Table) (store reply : List ℕ) where
  pub receive_outcome :
      (list pdu : List ℕ)
      → outcome_of (received t store list pdu reply).result.answer
      ≡ comes_to (received t store list pdu reply).result.answer (first_held (receive_rows t store list pdu reply))
  receive_outcome list pdu =
      outcome_is (received t store list pdu reply).result.answer
      ∙ ap (comes_to (received t store list pdu reply).result.answer) (receive_refusals t store list pdu reply)

  pub local_close_outcome :
      (n : ℕ)
      → outcome_of (locally_closed t store n reply).result.answer
      ≡ comes_to (locally_closed t store n reply).result.answer (first_held (close_rows t store n reply))
  local_close_outcome n =
      outcome_is (locally_closed t store n reply).result.answer
      ∙ ap (comes_to (locally_closed t store n reply).result.answer) (local_close_refusals t store n reply)

-- ---- Start

pub start_refusals : (store : List ℕ) → start_outcome (started store).begun ≡ comes_to tt (first_held (start_rows store))
unfolding started start_outcome comes_to start_rows first_held
start_refusals store = go (eqb (length store) STORE)
  where
    go : (a : Bool) → start_outcome (cond a (Ok tt) (Err BadCall)) ≡ comes_to tt (cond (not a) (refused_with BadCall) fine)
    go true = refl
    go false = refl
