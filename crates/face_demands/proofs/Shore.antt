-- A run of C calls at the shore is a run of the library: on the bytes of what it holds a call does what the library does, and what it
-- leaves are the bytes of what it holds then.
-- Assumes nothing.
use Rattle.std.specs.Prelude.{Option, None, Some}
use mathlib.Core.Path.{◌≡◌, refl, sym, ap, ◌∙◌, subst}
use mathlib.Core.Bool.{Bool, true, false, cond, not, ◌||◌}
use mathlib.Core.List.{List}
use Prim.Native.Nat.{ℕ, ◌+◌, ◌*◌, ◌≤◌, ◌<◌}
use native.Mathlib.Omega.{arith}
use borrow.Author.Tests.{eqb-true, eq-eqb}
use lib.Dec.{eqb, ltb, lit<}
use lib.IntN.{ℤ}
use lib.ListN.{length, take, drop}
use lib.Seq.{take-take}
use Rattle.paper.specs.Sizes.{PARTS, PART, STORE, REPLY_MIN, PDU_MAX}
use Rattle.paper.specs.declared.Refusal.{Refusal}
use Rattle.lists.specs.Bytes.{zeros}
use Rattle.lists.proofs.Cases.{choice, true_not_false}
use Rattle.lists.proofs.Laid.{length_zeros}
use Rattle.numbers.specs.Numbers.{Bytes, NUMBERS}
use Rattle.reading.specs.Reading.{read_pdu, bad_version}
use Rattle.reading.specs.Garbled.{carries}
use Rattle.reading.specs.declared.Charges.{Charges}
use Rattle.reading.specs.declared.Pdu.{Pdu}
use Rattle.reading.specs.declared.Pdu.TheVariants.{CreateRequest, CreateResponse, DataFirst, Data, Close}
use Rattle.reading.specs.declared.Pdu.TheVariants.{CapsRequest, CapsResponse, Refused as NotRead}
use Rattle.reading.proofs.Placed.{good_version}
use Rattle.laying.specs.Laying.{create_request_bytes}
use Rattle.writing.specs.Writing.{all_zero, bad_request, bad_capabilities}
use Rattle.channel.specs.declared.Record.{Record}
use Rattle.channel.specs.declared.Answer.{Answer}
use Rattle.channel.specs.declared.Answer.TheVariants as client
use Rattle.channel.specs.Channel.{View, Shut, Open, NoRoom, act}
use Rattle.table.specs.declared.Table.{Table}
use Rattle.table.specs.Table.{empty_table, record_at, with_record, free_place}
use Rattle.store.specs.Parts.{part}
use Rattle.connection.specs.States.{view}
use Rattle.connection.proofs.Views.{view_open}
use Rattle.client.specs.Client.{place_for, bad_call}
use Rattle.steps.specs.States.{Sane}
use Rattle.shore.specs.declared.Shore.{Shore}
use Rattle.shore.specs.declared.Said.{Said}
use Rattle.shore.specs.declared.Said.TheVariants.{Asked, Ready, Awaited, Opened, Declined, Held, Message, Closed, Ignored, Refused}
use Rattle.shore.specs.Saying.{concern_said, said_as}
use Rattle.shore.specs.Rules.{Deed, Answered, Acts, Does, is_below_zero, awaited_record, settled_record, settled, as_open, unless_awaited, common, deed}
use Rattle.shore.specs.Events.{Event, Unreadable, Asking, Response, Opening, Of, unread, event_of}
use Rattle.shore.specs.Shore.{Standing, standing, state_in, Stepped, asking, readied, responded, number_next, class_in, all_taken, awaiting}
use Rattle.shore.specs.Shore.{opening, finished, done, stepped, whole_of, guarded, received, locally_closed, started, bad_out}
use Rattle.saved.specs.Saved.{STATE, SHORE, is_good}
use Rattle.saved.proofs.Back.{kept_empty}
use Rattle.packing.specs.Packing.{said_place, packed_said}
use Rattle.packing.specs.Unpacking.{place_in}
use Rattle.packing.proofs.Brought.{Brings, CarriesSmall, carried_small, read_brings}
use Rattle.packing.proofs.ShoreSmall.{Fits, fits_back, received_fits, closed_fits, next_small}
use Rattle.client_face.specs.Face.{Faced, begins}
use Rattle.shore_face.specs.Face.{shore_in, saved_shore, faced, wrote, dvc_shore_received, dvc_shore_closed, dvc_shore_requested, dvc_shore_opened}
use Rattle.shore_face.specs.Face.{dvc_shore_started}
use Rattle.demands.specs.Runs.{first_of}
use Rattle.demands.proofs.Joined.{SoundView, sane_view}
use Rattle.shore_demands.specs.Runs.{Entry, requests, receives, opens, closes, Call, Gave, gives, after, handed_up, Told, told, event_in, is_event_of}
use Rattle.shore_demands.specs.Runs.{told_to, ends, started_on, JustReady}
use Rattle.shore_demands.specs.Orders.{TwoOrders}
use Rattle.shore_demands.proofs.Frame.{sane_step}
use Rattle.shore_demands.proofs.Machine.{call_step, call_state, fine_call}
use Rattle.shore_demands.proofs.Ready.{started_is}
use Rattle.shore_demands.proofs.Orders as orders
use Rattle.shore_demands.proofs.Main.{any_order_of_calls}
use Rattle.face_demands.specs.Tables.{ShoreAt}
use Rattle.face_demands.specs.ShoreRuns.{lent_of, standing_in, begun_on, FromC, AllFromC, face_gives, lent_after, message_at, told_in}
use Rattle.face_demands.specs.ShoreRuns.{face_told, face_ends, face_told_all, face_told_to, told_all, SameEitherWayInC}
use Rattle.face_demands.proofs.Traces as traces
use Rattle.face_demands.proofs.Rows.{Seen, Every, Small, small_blank, small_opened, small_rebuilt, free_every, view_seen, save_every}
use Rattle.face_demands.proofs.Rows.{save_unready, act_seen}
use Rattle.face_demands.proofs.Messages.{ShortAct, short_block, Short, act_short}
use Rattle.face_demands.proofs.Saving.{shore_told, shore_state, shore_good}
use Rattle.face_demands.proofs.Packing.{requested_placeless, opened_placeless, requested_fits, opened_fits}

-- ---- the numbers that a call brings have 32 bits, and its blocks fit into a part

abbrev ShortDeed : Deed → Type 0
ShortDeed (Answered status) = Unit {0}
ShortDeed (Acts a) = ShortAct a

abbrev EventSmall : Event → Type 0
EventSmall (Unreadable why) = Unit {0}
EventSmall (Asking version charges) = Unit {0}
EventSmall (Response version) = Unit {0}
EventSmall (Opening name class) = Unit {0}
EventSmall (Of n d) = (n < NUMBERS) × ShortDeed d

unread_small : (why : Refusal) (carried : Option ℕ) → CarriesSmall carried → EventSmall (unread why carried)
unfolding unread
unread_small why None h = tt
unread_small why (Some n) h = (h, tt)

event_small : (pdu : List ℕ) → Bytes pdu → (p : Pdu) → Brings pdu p → EventSmall (event_of pdu p)
unfolding event_of
event_small pdu b (CreateRequest n class name) h = tt
event_small pdu b (CreateResponse n status) h = (h, tt)
event_small pdu b (DataFirst n len block) h = (h.0, short_block pdu block h.1)
event_small pdu b (Data n block) h = (h.0, short_block pdu block h.1)
event_small pdu b (Close n) h = (h, tt)
event_small pdu b (CapsRequest version charges) h = tt
event_small pdu b (CapsResponse version) h = tt
event_small pdu b (NotRead why) h = unread_small why (carries pdu) (carried_small pdu b)

entry_small : (a : Entry) → FromC a → EventSmall (event_in a)
unfolding event_in
entry_small (requests version charges) h = tt
entry_small (receives pdu) b = event_small pdu b (read_pdu false pdu) (read_brings pdu b false)
entry_small (opens name class) h = tt
entry_small (closes n) h = (h, tt)

-- ---- what the rules of one number make of its record

settled_small : (r : Record) → Small r → Small (settled_record r)
unfolding settled_record
settled_small r h = record { number = h.number; count = lit< tt }

awaited_small : (level n class : ℕ) → n < NUMBERS → Small (awaited_record level n class)
unfolding awaited_record
awaited_small level n class h = record { number = h; count = lit< tt }

abbrev DoesSmall : Does → Type 0
DoesSmall d = Seen Small d.view

settles_small : (n : ℕ) (r : Record) (part : List ℕ) (status : ℤ) → Small r → DoesSmall (settled n r part status)
unfolding settled
settles_small n r part status h = choice DoesSmall (is_below_zero status) (λ e. tt) (λ e. settled_small r h)

seen_open : (v : View) → Seen Small v → Seen Small (as_open v)
seen_open Shut h = tt
seen_open (Open r part) h = choice (Seen Small) r.awaited (λ e. tt) (λ e. h)

seen_unless : (v w : View) → Seen Small v → Seen Small w → Seen Small (unless_awaited v w)
seen_unless Shut w h k = k
seen_unless (Open r part) w h k = choice (Seen Small) r.awaited (λ e. h) (λ e. k)

deed_small : (level n : ℕ) (v : View) (d : Deed) → n < NUMBERS → Seen Small v → DoesSmall (deed level n v d)
unfolding deed common
deed_small level n Shut (Answered status) h k = tt
deed_small level n (Open r part) (Answered status) h k =
    choice DoesSmall r.awaited (λ e. settles_small n r part status k) (λ e. k)
deed_small level n v (Acts a) h k =
    seen_unless v (act level n NoRoom (as_open v) a).view k
    (act_seen Small n (λ l pri. small_opened l n pri h) small_rebuilt level NoRoom (as_open v) a (seen_open v k))

-- ---- what is held stays so: the level, each record, and the version asked for

record Keeps (s : Shore) : Type 0 where
  unready : s.table.ready ≡ false → s.table.level ≡ 0
  small : Every Small s.table
  asked : s.asked < 65536

abbrev KeepsAfter : Stepped → Type 0
KeepsAfter x = Keeps x.state.shore

-- a version that may be asked for is 1 to 3
fair_version : (version : ℕ) (charges : Charges) → bad_capabilities version charges ≡ false → version ≤ 3
unfolding bad_capabilities
fair_version version charges e = go (eqb version 1) refl e
  where
    go : (b : Bool) → eqb version 1 ≡ b → cond b (not (all_zero charges)) (bad_version version) ≡ false → version ≤ 3
    go true f g = omega (arith, eqb-true version 1 f)
    go false f g = (good_version version g).1

asking_keeps : (st : Standing) (version : ℕ) (charges : Charges) → Keeps st.shore → KeepsAfter (asking st version charges)
unfolding asking
asking_keeps st version charges k =
    choice KeepsAfter (not (eqb st.shore.asked 0)) (λ e. k)
    (λ e. choice KeepsAfter (bad_capabilities version charges) (λ f. k)
    (λ f. record { unready = k.unready; small = k.small; asked = omega (arith, fair_version version charges f) }))

responded_keeps : (st : Standing) (version : ℕ) → Keeps st.shore → KeepsAfter (responded st version)
unfolding responded readied record_at
responded_keeps st version k =
    choice KeepsAfter (st.shore.table.ready || eqb st.shore.asked 0) (λ e. k)
    (λ e. record { unready = λ f. absurd (true_not_false f); small = k.small; asked = k.asked })

with_unready :
    (t : Table) (i : ℕ) (r : Record) → (t.ready ≡ false → t.level ≡ 0) → (with_record t i r).ready ≡ false → (with_record t i r).level ≡ 0
unfolding with_record
with_unready t i r h = h

opened_keeps :
    (st : Standing) (class : ℕ) → Keeps st.shore
    → Keeps (record { table = awaiting st.shore.table (number_next st) class; asked = st.shore.asked })
unfolding awaiting
opened_keeps st class k =
    let t = st.shore.table in
    let r = awaited_record t.level (number_next st) class in
    record {
      unready = with_unready t (free_place t) r k.unready;
      small = free_every Small small_blank t r k.small (awaited_small t.level (number_next st) class (omega (arith, next_small t)));
      asked = k.asked;
    }

opening_keeps : (st : Standing) (name : List ℕ) (class : ℕ) → Keeps st.shore → KeepsAfter (opening st name class)
unfolding opening
opening_keeps st name class k =
    choice KeepsAfter (not st.shore.table.ready) (λ e. k)
    (λ e. choice KeepsAfter (all_taken st.shore.table) (λ f. k)
    (λ f. choice KeepsAfter (bad_request (class_in st class) name) (λ g. k)
    (λ g. choice KeepsAfter (ltb PDU_MAX (length (create_request_bytes (number_next st) (class_in st class) name))) (λ i. k)
    (λ i. opened_keeps st class k))))

done_keeps : (n : ℕ) (st : Standing) (d : Deed) → n < NUMBERS → Keeps st.shore → KeepsAfter (done n st d)
unfolding done finished
done_keeps n st d h k =
    let v = view n (state_in st) in
    let w = (deed st.shore.table.level n v d).view in
    let seen = deed_small st.shore.table.level n v d h (view_seen Small small_blank n (state_in st) k.small) in
    record {
      unready = save_unready n (state_in st) v w k.unready;
      small = save_every Small small_blank n (state_in st) v w k.small seen;
      asked = k.asked;
    }

step_keeps : (st : Standing) (e : Event) → EventSmall e → Keeps st.shore → KeepsAfter (stepped st e)
unfolding stepped
step_keeps st (Unreadable why) h k = k
step_keeps st (Asking version charges) h k = asking_keeps st version charges k
step_keeps st (Response version) h k = responded_keeps st version k
step_keeps st (Opening name class) h k = opening_keeps st name class k
step_keeps st (Of n d) h k = choice KeepsAfter st.shore.table.ready (λ e. done_keeps n st d h.0 k) (λ e. k)

-- as it is held
at_keeps : (st : Standing) → ShoreAt st → Keeps st.shore
at_keeps st g =
    let h = g.holds in
    record {
      unready = h.table.unready;
      small = λ i. record { number = h.table.numbers i; count = h.table.counts i };
      asked = h.asked;
    }

keeps_at : (st : Standing) → Sane (state_in st) → Keeps st.shore → ShoreAt st
keeps_at st s k =
    record {
      holds = record {
        table = record {
          rows = s.rows;
          sound = s.sound;
          unready = k.unready;
          numbers = λ i. (k.small i).number;
          counts = λ i. (k.small i).count;
        };
        asked = k.asked;
      };
      store = s.bytes;
    }

at_sane : (st : Standing) → ShoreAt st → Sane (state_in st)
at_sane st g = record { rows = g.holds.table.rows; bytes = g.store; sound = g.holds.table.sound }

-- every call leaves what the shore can hold
at_event : (st : Standing) (c : Call) → ShoreAt st → EventSmall (event_in c.asked) → ShoreAt (after st c)
at_event st c g small =
    let e = event_in c.asked in
    rw (call_state st c (at_sane st g))
    (keeps_at (stepped st e).state (sane_step st (at_sane st g) e (fine_call c.asked))
    (step_keeps st e small (at_keeps st g)))

pub at_call : (st : Standing) (c : Call) → ShoreAt st → FromC c.asked → ShoreAt (after st c)
at_call st c g b = at_event st c g (entry_small c.asked b)

-- ---- one call

-- the place that is shown
abbrev place_of : Standing → Entry → List ℕ → ℕ
place_of st (requests version charges) buffer = PARTS
place_of st (receives pdu) buffer = (received st.shore st.store pdu buffer).result.place
place_of st (opens name class) buffer = PARTS
place_of st (closes n) buffer = (locally_closed st.shore st.store n buffer).result.place

-- what is lent afterwards, and the number, of what the library gives
abbrev faced_of : Gave → ℕ → Faced
faced_of g k =
    record { answer = packed_said g.said k g.sent; state = saved_shore g.shore; store = g.store; reply = g.buffer }

-- on the bytes of what it holds a call does what the library does
on_lent :
    (st : Standing) → ShoreAt st → (a : Entry) (buffer : List ℕ)
    → face_gives (lent_of st) a buffer ≡ faced_of (gives st a buffer) (place_of st a buffer)
unfolding face_gives dvc_shore_received dvc_shore_closed dvc_shore_requested dvc_shore_opened faced wrote gives
on_lent st g (requests version charges) buffer = rw (shore_state st.shore g.holds, shore_told st.shore g.holds)
on_lent st g (receives pdu) buffer = rw (shore_state st.shore g.holds, shore_told st.shore g.holds)
on_lent st g (opens name class) buffer = rw (shore_state st.shore g.holds, shore_told st.shore g.holds)
on_lent st g (closes n) buffer = rw (shore_state st.shore g.holds, shore_told st.shore g.holds)

pub lent_call : (st : Standing) (c : Call) → ShoreAt st → FromC c.asked → lent_after (lent_of st) c ≡ lent_of (after st c)
unfolding lent_after after
lent_call st c g b = rw (on_lent st g c.asked c.buffer)

-- ---- what the host is told

-- the place of a message is that of the number's record
abbrev Shown : Gave → ℕ → Type 0
Shown g k = said_place g.said k ≡ said_place g.said (place_for g.shore.table (concern_said g.said))

shown : (st : Standing) (a : Entry) (buffer : List ℕ) → Shown (gives st a buffer) (place_of st a buffer)
unfolding gives received locally_closed guarded whole_of
shown st (requests version charges) buffer =
    requested_placeless st.shore version charges buffer PARTS ∙ sym (requested_placeless st.shore version charges buffer _)
shown st (receives pdu) buffer = refl
shown st (opens name class) buffer =
    opened_placeless st.shore name class buffer PARTS ∙ sym (opened_placeless st.shore name class buffer _)
shown st (closes n) buffer = refl

call_fits :
    (st : Standing) → ShoreAt st → (a : Entry) (buffer : List ℕ) → FromC a
    → Fits (gives st a buffer).said (gives st a buffer).sent (place_of st a buffer)
unfolding gives
call_fits st g (requests version charges) buffer h = requested_fits st.shore version charges buffer
call_fits st g (receives pdu) buffer b = received_fits st.shore st.store g.holds.table.rows pdu buffer b
call_fits st g (opens name class) buffer h = opened_fits st.shore name class buffer
call_fits st g (closes n) buffer h = closed_fits st.shore st.store g.holds.table.rows n buffer h

-- what is handed up is no longer than a part
abbrev ShortSaid : Said → Type 0
ShortSaid (Asked version) = Unit {0}
ShortSaid (Ready level) = Unit {0}
ShortSaid (Awaited n) = Unit {0}
ShortSaid (Opened n) = Unit {0}
ShortSaid (Declined n) = Unit {0}
ShortSaid (Held n left) = Unit {0}
ShortSaid (Message n len) = len ≤ PART
ShortSaid (Closed n) = Unit {0}
ShortSaid (Ignored n) = Unit {0}
ShortSaid (Refused why concern) = Unit {0}

short_as : (a : Answer) → Short a → ShortSaid (said_as a)
unfolding said_as
short_as (client.Ready level) h = tt
short_as (client.Opened n) h = tt
short_as (client.Declined n why) h = tt
short_as (client.Held n left) h = tt
short_as (client.Message n len) h = h
short_as (client.Closed n) h = tt
short_as (client.Ignored n) h = tt
short_as (client.Refused why concern) h = tt

abbrev DoesShort : Does → Type 0
DoesShort d = ShortSaid d.said

open_sound : (v : View) → SoundView v → SoundView (as_open v)
open_sound Shut h = tt
open_sound (Open r part) h = choice SoundView r.awaited (λ e. tt) (λ e. h)

deed_short : (level n : ℕ) (v : View) (d : Deed) → SoundView v → ShortDeed d → DoesShort (deed level n v d)
unfolding deed common settled
deed_short level n Shut (Answered status) s h = tt
deed_short level n (Open r part) (Answered status) s h =
    choice DoesShort r.awaited (λ e. choice DoesShort (is_below_zero status) (λ f. tt) (λ f. tt)) (λ e. tt)
deed_short level n v (Acts a) s h =
    short_as (act level n NoRoom (as_open v) a).answer (act_short level n NoRoom (as_open v) a (open_sound v s) h)

abbrev ShortAfter : Stepped → Type 0
ShortAfter x = ShortSaid x.said

step_short : (st : Standing) → Sane (state_in st) → (e : Event) → EventSmall e → ShortAfter (stepped st e)
unfolding stepped asking responded opening done finished
step_short st s (Unreadable why) h = tt
step_short st s (Asking version charges) h =
    choice ShortAfter (not (eqb st.shore.asked 0)) (λ e. tt)
    (λ e. choice ShortAfter (bad_capabilities version charges) (λ f. tt) (λ f. tt))
step_short st s (Response version) h =
    choice ShortAfter (st.shore.table.ready || eqb st.shore.asked 0) (λ e. tt) (λ e. tt)
step_short st s (Opening name class) h =
    choice ShortAfter (not st.shore.table.ready) (λ e. tt)
    (λ e. choice ShortAfter (all_taken st.shore.table) (λ f. tt)
    (λ f. choice ShortAfter (bad_request (class_in st class) name) (λ g. tt)
    (λ g. choice ShortAfter (ltb PDU_MAX (length (create_request_bytes (number_next st) (class_in st class) name))) (λ i. tt) (λ i. tt))))
step_short st s (Of n d) h =
    choice ShortAfter st.shore.table.ready
    (λ e. deed_short st.shore.table.level n (view n (state_in st)) d (sane_view (state_in st) s n) h.1) (λ e. tt)

call_short : (st : Standing) (c : Call) → ShoreAt st → FromC c.asked → ShortSaid (gives st c.asked c.buffer).said
call_short st c g b =
    rw (call_step st c (at_sane st g)) (step_short st (at_sane st g) (event_in c.asked) (entry_small c.asked b))

-- so a message is the first bytes of the part at its place
message_same :
    (st : Standing) (s : Said) (k : ℕ) → said_place s k ≡ said_place s (place_for st.shore.table (concern_said s)) → said_place s k < 16
    → ShortSaid s → message_at (said_place s k) st.store s ≡ handed_up st s
unfolding message_at handed_up first_of said_place place_for concern_said part PARTS
message_same st (Asked version) k e h l = refl
message_same st (Ready level) k e h l = refl
message_same st (Awaited n) k e h l = refl
message_same st (Opened n) k e h l = refl
message_same st (Declined n) k e h l = refl
message_same st (Held n left) k e h l = refl
message_same st (Message n len) k e h l = rw (view_open n (state_in st) k e h, take-take len PART (drop (PART * k) st.store) l)
message_same st (Closed n) k e h l = refl
message_same st (Ignored n) k e h l = refl
message_same st (Refused why concern) k e h l = refl

told_gave :
    (g : Gave) (k : ℕ) → Fits g.said g.sent k → ShortSaid g.said → Shown g k
    → told_in (faced_of g k)
    ≡ record { said = g.said; sent = take g.sent g.buffer; message = handed_up (standing g.shore g.store) g.said }
told_gave g k f l e =
    let b = fits_back g.said g.sent k f in
    rw (b.0, b.1, b.2, message_same (standing g.shore g.store) g.said k e f.place l)

pub told_call : (st : Standing) (c : Call) → ShoreAt st → FromC c.asked → face_told (lent_of st) c ≡ told st c
unfolding face_told told after
told_call st c g b =
    rw (on_lent st g c.asked c.buffer)
    (told_gave (gives st c.asked c.buffer) (place_of st c.asked c.buffer)
    (call_fits st g c.asked c.buffer b) (call_short st c g b) (shown st c.asked c.buffer))

-- and lies in the store
pub message_within :
    (st : Standing) → ShoreAt st → (c : Call) → FromC c.asked → (n len : ℕ) → (face_told (lent_of st) c).said ≡ Message n len
    → PART * place_in (face_gives (lent_of st) c.asked c.buffer).answer + len ≤ STORE
unfolding PART STORE told
message_within st g c b n len e =
    let w = gives st c.asked c.buffer in
    let k = place_of st c.asked c.buffer in
    let f = call_fits st g c.asked c.buffer b in
    let same : w.said ≡ Message n len = sym (ap (λ (t : Told). t.said) (told_call st c g b)) ∙ e in
    let short : len ≤ PART = subst ShortSaid same (call_short st c g b) in
    let place : place_in (face_gives (lent_of st) c.asked c.buffer).answer < 16 =
    rw (on_lent st g c.asked c.buffer, (fits_back w.said w.sent k f).2) f.place in
    omega arith

-- whose event a call is, told by the bytes
same_events : (n : ℕ) (st : Standing) (c : Call) → ShoreAt st → is_event_of n (standing_in (lent_of st)) c ≡ is_event_of n st c
same_events n st c g = ap (λ (s : Shore). is_event_of n (standing s st.store) c) (shore_told st.shore g.holds)

-- ---- any list of calls

abbrev Ok : Call → Type 0
Ok c = FromC c.asked

module _ (st : Standing) (g : ShoreAt st) (cs : List Call) (b : AllFromC cs) where
  pub run_holds : ShoreAt (ends st cs)
  unfolding ends
  run_holds = traces.run_inv lent_of ShoreAt Ok after lent_after at_call lent_call st cs g b

  pub run_leaves : face_ends (lent_of st) cs ≡ lent_of (ends st cs)
  unfolding face_ends ends
  run_leaves = traces.same_final lent_of ShoreAt Ok after lent_after at_call lent_call st cs g b

  pub run_tells : face_told_all (lent_of st) cs ≡ told_all st cs
  unfolding face_told_all told_all
  run_tells =
      traces.same_seen lent_of ShoreAt Ok after lent_after at_call lent_call (λ s c. true) (λ l c. true) told face_told
      (λ s c k. refl) told_call st cs g b

  pub run_tells_each : (n : ℕ) → face_told_to n (lent_of st) cs ≡ told_to n st cs
  unfolding face_told_to told_to
  run_tells_each n =
      traces.same_seen lent_of ShoreAt Ok after lent_after at_call lent_call (is_event_of n) (λ l c. is_event_of n (standing_in l) c) told face_told
      (same_events n) told_call st cs g b

-- ---- from Start

empty_at : ShoreAt (standing (record { table = empty_table; asked = 0 }) (zeros STORE))
empty_at = record { holds = record { table = kept_empty; asked = lit< tt }; store = length_zeros STORE }

pub start_holds : (store : List ℕ) → length store ≡ STORE → ShoreAt (started_on store)
start_holds store size = rw (started_is store size) empty_at

module _ (state store : List ℕ) (long : length state ≡ STATE) (size : length store ≡ STORE) where
  pub start_lent : ((dvc_shore_started state store).answer ≡ 0) × (begun_on state store ≡ lent_of (started_on store))
  unfolding dvc_shore_started begins started_on started saved_shore
  start_lent = rw (eq-eqb (length state) STATE long, eq-eqb (length store) STORE size) (refl, refl)

  begun_ends : (cs : List Call) → AllFromC cs → face_ends (begun_on state store) cs ≡ lent_of (ends (started_on store) cs)
  begun_ends cs b = rw start_lent.1 (run_leaves (started_on store) (start_holds store size) cs b)

  pub always_good : (cs : List Call) → AllFromC cs → is_good SHORE true (face_ends (begun_on state store) cs).state ≡ true
  always_good cs b =
      rw (begun_ends cs b)
      (shore_good (ends (started_on store) cs).shore (run_holds (started_on store) (start_holds store size) cs b).holds)

  begun_told : (cs : List Call) → AllFromC cs → shore_in (face_ends (begun_on state store) cs).state ≡ (ends (started_on store) cs).shore
  begun_told cs b =
      rw (begun_ends cs b)
      (shore_told (ends (started_on store) cs).shore (run_holds (started_on store) (start_holds store size) cs b).holds)

  pub never_1 :
      (cs : List Call) → AllFromC cs → (reply : List ℕ) → REPLY_MIN ≤ length reply
      → bad_call (shore_in (face_ends (begun_on state store) cs).state).table (length (face_ends (begun_on state store) cs).store) (length reply)
      ≡ false
  never_1 cs b reply enough =
      rw (begun_told cs b, begun_ends cs b) (any_order_of_calls.no_refusal_1 store size cs reply enough)

  pub never_1_in_writing :
      (cs : List Call) → AllFromC cs → (out : List ℕ) → PDU_MAX ≤ length out
      → bad_out (shore_in (face_ends (begun_on state store) cs).state).table (length out) ≡ false
  never_1_in_writing cs b out enough = rw (begun_told cs b) (any_order_of_calls.nor_in_writing store size cs out enough)

  pub begun_tells :
      (cs : List Call) → AllFromC cs → (n : ℕ) → face_told_to n (begun_on state store) cs ≡ told_to n (started_on store) cs
  begun_tells cs b n = rw start_lent.1 (run_tells_each (started_on store) (start_holds store size) cs b n)

-- ---- a connection just made ready

module _ (st : Standing) (j : JustReady st) where
  request_small : EventSmall (event_in j.request.asked)
  unfolding event_in
  request_small = subst (λ (a : Entry). EventSmall (event_in a)) (sym j.asks) tt

  response_read : EventSmall (event_of j.pdu (read_pdu false j.pdu))
  unfolding event_of
  response_read = subst (λ (p : Pdu). EventSmall (event_of j.pdu p)) (sym j.accepted) tt

  response_small : EventSmall (event_in j.response.asked)
  unfolding event_in
  response_small = subst (λ (a : Entry). EventSmall (event_in a)) (sym j.answers) response_read

  pub just_ready_at : ShoreAt st
  just_ready_at =
      let asked = after (started_on j.store) j.request in
      subst ShoreAt (sym j.then)
      (at_event asked j.response (at_event (started_on j.store) j.request (start_holds j.store j.size) request_small) response_small)

pub each_channel :
    (st : Standing) → JustReady st → (xs ys : List Call) → AllFromC xs → AllFromC ys → TwoOrders st xs ys
    → (n : ℕ) → SameEitherWayInC st xs ys n
each_channel st j xs ys a b o n =
    let same = orders.each_channel st j xs ys o n in
    let g = just_ready_at st j in
    let x = run_tells_each st g xs a n in
    let y = run_tells_each st g ys b n in
    record { same_told = rw (x, y) same.same_told; joined = rw x same.joined; each_once = rw x same.each_once }
