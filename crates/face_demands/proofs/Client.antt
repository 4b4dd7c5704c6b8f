-- A run of C calls at the client is a run of the library: on the bytes of what it holds a call does what the library does, and what it
-- leaves are the bytes of what it holds then.
-- Assumes nothing.
use Rattle.std.specs.Prelude.{Option, None, Some}
use mathlib.Core.Path.{◌≡◌, refl, sym, ap, ◌∙◌, subst}
use mathlib.Core.Bool.{true, false}
use mathlib.Core.List.{List}
use Prim.Native.Nat.{ℕ, ◌+◌, ◌*◌, ◌≤◌, ◌<◌}
use native.Mathlib.Omega.{arith}
use borrow.Author.Tests.{eq-eqb}
use lib.ListN.{length, take, drop}
use lib.Seq.{take-take}
use Rattle.paper.specs.Sizes.{PARTS, PART, STORE}
use Rattle.paper.specs.declared.Refusal.{Refusal}
use Rattle.lists.specs.Bytes.{zeros}
use Rattle.lists.proofs.Cases.{choice, true_not_false}
use Rattle.lists.proofs.Laid.{length_zeros}
use Rattle.numbers.specs.Numbers.{Bytes, NUMBERS}
use Rattle.reading.specs.Reading.{read_pdu}
use Rattle.reading.specs.Said.{bytes_at}
use Rattle.reading.specs.Garbled.{carries}
use Rattle.reading.specs.declared.Pdu.{Pdu}
use Rattle.reading.specs.declared.Pdu.TheVariants.{CreateRequest, CreateResponse, DataFirst, Data, Close}
use Rattle.reading.specs.declared.Pdu.TheVariants.{CapsRequest, CapsResponse, Refused as NotRead}
use Rattle.channel.specs.declared.Answer.{Answer}
use Rattle.channel.specs.declared.Answer.TheVariants.{Ready, Opened, Declined, Held, Message, Closed, Ignored, Refused}
use Rattle.channel.specs.Answers.{concern_of}
use Rattle.channel.specs.Channel.{Act, blank, act}
use Rattle.table.specs.declared.Table.{Table}
use Rattle.table.specs.Table.{empty_table, record_at}
use Rattle.table.specs.Totals.{is_awaited}
use Rattle.table.specs.Sound.{some}
use Rattle.table.proofs.Every.{at_none, none_at}
use Rattle.store.specs.Parts.{part}
use Rattle.connection.specs.States.{State, state_of, view, room_in}
use Rattle.connection.proofs.Views.{view_open}
use Rattle.client.specs.Events.{Event, Unreadable, Capabilities, Of, unread, event_of}
use Rattle.client.specs.Client.{Stepped, Whole, finished, acted, readied, stepped, place_for, whole_of, guarded, received, locally_closed}
use Rattle.client.specs.Client.{bad_call}
use Rattle.steps.specs.States.{Sane}
use Rattle.steps.proofs.Calm.{sane_step}
use Rattle.saved.specs.Saved.{STATE, CLIENT, saved, table_in, is_good}
use Rattle.saved.proofs.Back.{kept_empty}
use Rattle.packing.specs.Packing.{answer_place, packed_answer}
use Rattle.packing.specs.Unpacking.{place_in}
use Rattle.packing.proofs.Brought.{Brings, CarriesSmall, carried_small, read_brings}
use Rattle.packing.proofs.Small.{Fits, fits_back, received_fits, closed_fits}
use Rattle.client_face.specs.Face.{Faced, faced, dvc_received, dvc_closed, begins, dvc_started}
use Rattle.demands.specs.Runs.{Entry, receives, closes, Call, gives, leaves, after, first_of, handed_up, Told, told, event_in, is_event_of, told_to}
use Rattle.demands.specs.Runs.{ends, started_on, JustReady}
use Rattle.demands.specs.Orders.{TwoOrders, NeverFull}
use Rattle.demands.proofs.Machine.{call_step, call_state, fine_call}
use Rattle.demands.proofs.Joined.{sane_view}
use Rattle.demands.proofs.Orders.{started_is, fresh, ready_state, never_refusal_1, same_either_way}
use Rattle.face_demands.specs.Tables.{ClientAt}
use Rattle.face_demands.specs.Runs.{lent_of, begun_on, FromC, AllFromC, face_gives, lent_after, message_at, told_in, face_told}
use Rattle.face_demands.specs.Runs.{face_ends, face_told_all, face_told_to, told_all, SameEitherWayInC}
use Rattle.face_demands.proofs.Traces as traces
use Rattle.face_demands.proofs.Rows.{Every, Plain, plain_blank, plain_opened, plain_rebuilt, view_seen, save_every, save_unready, act_seen}
use Rattle.face_demands.proofs.Messages.{ShortAct, short_block, short_create, Short, act_short}
use Rattle.face_demands.proofs.Saving.{client_told, client_state, client_good}

-- ---- the numbers that a call brings have 32 bits, and its blocks fit into a part

abbrev EventSmall : Event → Type 0
EventSmall (Unreadable why) = Unit {0}
EventSmall (Capabilities version) = Unit {0}
EventSmall (Of n a) = (n < NUMBERS) × ShortAct a

unread_small : (why : Refusal) (carried : Option ℕ) → CarriesSmall carried → EventSmall (unread why carried)
unfolding unread
unread_small why None h = tt
unread_small why (Some n) h = (h, tt)

event_small : (list pdu : List ℕ) → Bytes pdu → (p : Pdu) → Brings pdu p → EventSmall (event_of list pdu p)
unfolding event_of
event_small list pdu b (CreateRequest n class name) h = (h, short_create list (bytes_at pdu name) class)
event_small list pdu b (CreateResponse n status) h = tt
event_small list pdu b (DataFirst n len block) h = (h.0, short_block pdu block h.1)
event_small list pdu b (Data n block) h = (h.0, short_block pdu block h.1)
event_small list pdu b (Close n) h = (h, tt)
event_small list pdu b (CapsRequest version charges) h = tt
event_small list pdu b (CapsResponse version) h = tt
event_small list pdu b (NotRead why) h = unread_small why (carries pdu) (carried_small pdu b)

entry_small : (a : Entry) → FromC a → EventSmall (event_in a)
unfolding event_in
entry_small (receives list pdu) b = event_small list pdu b (read_pdu true pdu) (read_brings pdu b true)
entry_small (closes n) h = (h, tt)

-- ---- what is held stays so: the level, and each record

record Keeps (t : Table) : Type 0 where
  unready : t.ready ≡ false → t.level ≡ 0
  plain : Every Plain t

abbrev KeepsAfter : Stepped → Type 0
KeepsAfter s = Keeps s.state.table

acted_keeps : (n : ℕ) (st : State) (a : Act) → n < NUMBERS → Keeps st.table → KeepsAfter (acted n st a)
unfolding acted finished
acted_keeps n st a h k =
    let v = view n st in
    let w = (act st.table.level n (room_in st) v a).view in
    let seen =
    act_seen Plain n (λ level pri. plain_opened level n pri h) plain_rebuilt st.table.level (room_in st) v a
    (view_seen Plain plain_blank n st k.plain) in
    record { unready = save_unready n st v w k.unready; plain = save_every Plain plain_blank n st v w k.plain seen }

readied_keeps : (st : State) (version : ℕ) → Keeps st.table → KeepsAfter (readied st version)
unfolding readied record_at
readied_keeps st version k = record { unready = λ e. absurd (true_not_false e); plain = k.plain }

step_keeps : (st : State) (e : Event) → EventSmall e → Keeps st.table → KeepsAfter (stepped st e)
unfolding stepped
step_keeps st (Unreadable why) h k = k
step_keeps st (Capabilities version) h k = choice KeepsAfter st.table.ready (λ e. k) (λ e. readied_keeps st version k)
step_keeps st (Of n a) h k = choice KeepsAfter st.table.ready (λ e. acted_keeps n st a h.0 k) (λ e. k)

-- as it is held
at_keeps : (st : State) → ClientAt st → Keeps st.table
unfolding record_at
at_keeps st g =
    let h = g.holds in
    record {
      unready = h.table.unready;
      plain = λ i. record {
        small = record { number = h.table.numbers i; count = h.table.counts i };
        unawaited = none_at is_awaited st.table.records blank h.none_awaited refl i;
      };
    }

keeps_at : (st : State) → Sane st → Keeps st.table → ClientAt st
unfolding record_at
keeps_at st s k =
    record {
      holds = record {
        table = record {
          rows = s.rows;
          sound = s.sound;
          unready = k.unready;
          numbers = λ i. (k.plain i).small.number;
          counts = λ i. (k.plain i).small.count;
        };
        none_awaited = at_none is_awaited st.table.records blank (λ i. (k.plain i).unawaited);
      };
      store = s.bytes;
    }

at_sane : (st : State) → ClientAt st → Sane st
at_sane st g = record { rows = g.holds.table.rows; bytes = g.store; sound = g.holds.table.sound }

-- every call leaves what the client can hold
pub at_call : (st : State) (c : Call) → ClientAt st → FromC c.asked → ClientAt (after st c)
at_call st c g b =
    let e = event_in c.asked in
    rw (call_state st c (at_sane st g))
    (keeps_at (stepped st e).state (sane_step st (at_sane st g) e (fine_call c.asked))
    (step_keeps st e (entry_small c.asked b) (at_keeps st g)))

-- ---- one call

-- what is lent afterwards, and the number, of what the library gives
abbrev faced_of : Whole → Faced
faced_of w =
    record {
      answer = packed_answer w.result.answer w.result.place w.result.sent;
      state = saved CLIENT 0 w.result.table;
      store = w.store;
      reply = w.reply;
    }

-- on the bytes of what it holds a call does what the library does
on_lent : (st : State) → ClientAt st → (a : Entry) (reply : List ℕ) → face_gives (lent_of st) a reply ≡ faced_of (gives st a reply)
unfolding face_gives dvc_received dvc_closed faced gives
on_lent st g (receives list pdu) reply = rw (client_state st.table g.holds, client_told st.table g.holds)
on_lent st g (closes n) reply = rw (client_state st.table g.holds, client_told st.table g.holds)

pub lent_call : (st : State) (c : Call) → ClientAt st → FromC c.asked → lent_after (lent_of st) c ≡ lent_of (after st c)
unfolding lent_after after
lent_call st c g b = rw (on_lent st g c.asked c.reply)

-- ---- what the host is told

-- the place is that of the channel's record
shown :
    (st : State) (a : Entry) (reply : List ℕ)
    → (gives st a reply).result.place ≡ place_for (gives st a reply).result.table (concern_of (gives st a reply).result.answer)
unfolding gives received locally_closed guarded whole_of
shown st (receives list pdu) reply = refl
shown st (closes n) reply = refl

call_fits : (st : State) → ClientAt st → (a : Entry) (reply : List ℕ) → FromC a → Fits (gives st a reply).result
unfolding gives
call_fits st g (receives list pdu) reply b = received_fits st.table st.store g.holds.table.rows list pdu reply b
call_fits st g (closes n) reply h = closed_fits st.table st.store g.holds.table.rows n reply h

-- what is handed up is no longer than a part
abbrev ShortAfter : Stepped → Type 0
ShortAfter s = Short s.answer

step_short : (st : State) → Sane st → (e : Event) → EventSmall e → ShortAfter (stepped st e)
unfolding stepped acted finished readied
step_short st s (Unreadable why) h = tt
step_short st s (Capabilities version) h = choice ShortAfter st.table.ready (λ e. tt) (λ e. tt)
step_short st s (Of n a) h =
    choice ShortAfter st.table.ready
    (λ e. act_short st.table.level n (room_in st) (view n st) a (sane_view st s n) h.1) (λ e. tt)

call_short : (st : State) (c : Call) → ClientAt st → FromC c.asked → Short (gives st c.asked c.reply).result.answer
unfolding whole_of
call_short st c g b =
    rw (call_step st c (at_sane st g)) (step_short st (at_sane st g) (event_in c.asked) (entry_small c.asked b))

-- so a message is the first bytes of the part at its place
message_same :
    (t : Table) (store : List ℕ) (a : Answer) (k : ℕ) → k ≡ place_for t (concern_of a) → answer_place a k < 16 → Short a
    → message_at (answer_place a k) store a ≡ handed_up (state_of t store) a
unfolding message_at handed_up first_of answer_place place_for concern_of part PARTS
message_same t store (Ready level) k e h l = refl
message_same t store (Opened n) k e h l = refl
message_same t store (Declined n why) k e h l = refl
message_same t store (Held n left) k e h l = refl
message_same t store (Message n len) k e h l = rw (view_open n (state_of t store) k e h, take-take len PART (drop (PART * k) store) l)
message_same t store (Closed n) k e h l = refl
message_same t store (Ignored n) k e h l = refl
message_same t store (Refused why concern) k e h l = refl

told_whole :
    (w : Whole) → Fits w.result → Short w.result.answer
    → w.result.place ≡ place_for w.result.table (concern_of w.result.answer)
    → told_in (faced_of w)
    ≡ record { answer = w.result.answer; reply = take w.result.sent w.reply; message = handed_up (leaves w) w.result.answer }
told_whole w f l e =
    let b = fits_back w.result f in
    rw (b.0, b.1, b.2, message_same w.result.table w.store w.result.answer w.result.place e f.place l)

pub told_call : (st : State) (c : Call) → ClientAt st → FromC c.asked → face_told (lent_of st) c ≡ told st c
unfolding face_told told after
told_call st c g b =
    rw (on_lent st g c.asked c.reply)
    (told_whole (gives st c.asked c.reply) (call_fits st g c.asked c.reply b) (call_short st c g b) (shown st c.asked c.reply))

-- and lies in the store
pub message_within :
    (st : State) → ClientAt st → (c : Call) → FromC c.asked → (n len : ℕ) → (face_told (lent_of st) c).answer ≡ Message n len
    → PART * place_in (face_gives (lent_of st) c.asked c.reply).answer + len ≤ STORE
unfolding PART STORE told
message_within st g c b n len e =
    let w = gives st c.asked c.reply in
    let f = call_fits st g c.asked c.reply b in
    let same : w.result.answer ≡ Message n len = sym (ap (λ (t : Told). t.answer) (told_call st c g b)) ∙ e in
    let short : len ≤ PART = subst Short same (call_short st c g b) in
    let place : place_in (face_gives (lent_of st) c.asked c.reply).answer < 16 =
    rw (on_lent st g c.asked c.reply, (fits_back w.result f).2) f.place in
    omega arith

-- ---- any list of calls

abbrev Ok : Call → Type 0
Ok c = FromC c.asked

module _ (st : State) (g : ClientAt st) (cs : List Call) (b : AllFromC cs) where
  pub run_holds : ClientAt (ends st cs)
  unfolding ends
  run_holds = traces.run_inv lent_of ClientAt Ok after lent_after at_call lent_call st cs g b

  pub run_leaves : face_ends (lent_of st) cs ≡ lent_of (ends st cs)
  unfolding face_ends ends
  run_leaves = traces.same_final lent_of ClientAt Ok after lent_after at_call lent_call st cs g b

  pub run_tells : face_told_all (lent_of st) cs ≡ told_all st cs
  unfolding face_told_all told_all
  run_tells =
      traces.same_seen lent_of ClientAt Ok after lent_after at_call lent_call (λ s c. true) (λ l c. true) told face_told
      (λ s c k. refl) told_call st cs g b

  pub run_tells_each : (n : ℕ) → face_told_to n (lent_of st) cs ≡ told_to n st cs
  unfolding face_told_to told_to
  run_tells_each n =
      traces.same_seen lent_of ClientAt Ok after lent_after at_call lent_call (λ s. is_event_of n) (λ l. is_event_of n) told face_told
      (λ s c k. refl) told_call st cs g b

-- ---- from Start

empty_at : ClientAt (state_of empty_table (zeros STORE))
unfolding empty_table some
empty_at = record { holds = record { table = kept_empty; none_awaited = refl }; store = length_zeros STORE }

pub start_holds : (store : List ℕ) → length store ≡ STORE → ClientAt (started_on store)
start_holds store size = rw (started_is store size) empty_at

module _ (state store : List ℕ) (long : length state ≡ STATE) (size : length store ≡ STORE) where
  pub start_lent : ((dvc_started state store).answer ≡ 0) × (begun_on state store ≡ lent_of (started_on store))
  unfolding dvc_started begins started_on
  start_lent = rw (eq-eqb (length state) STATE long, eq-eqb (length store) STORE size) (refl, refl)

  pub begun_ends : (cs : List Call) → AllFromC cs → face_ends (begun_on state store) cs ≡ lent_of (ends (started_on store) cs)
  begun_ends cs b = rw start_lent.1 (run_leaves (started_on store) (start_holds store size) cs b)

  pub always_good : (cs : List Call) → AllFromC cs → is_good CLIENT false (face_ends (begun_on state store) cs).state ≡ true
  always_good cs b =
      rw (begun_ends cs b)
      (client_good (ends (started_on store) cs).table (run_holds (started_on store) (start_holds store size) cs b).holds)

  pub never_1 :
      (cs : List Call) → AllFromC cs → (c : Call)
      → bad_call (table_in (face_ends (begun_on state store) cs).state) (length (face_ends (begun_on state store) cs).store) (length c.reply)
      ≡ false
  never_1 cs b c =
      let g = run_holds (started_on store) (start_holds store size) cs b in
      rw (begun_ends cs b, client_told (ends (started_on store) cs).table g.holds) (never_refusal_1 store size cs c)

  pub begun_tells :
      (cs : List Call) → AllFromC cs → (n : ℕ) → face_told_to n (begun_on state store) cs ≡ told_to n (started_on store) cs
  begun_tells cs b n = rw start_lent.1 (run_tells_each (started_on store) (start_holds store size) cs b n)

-- ---- a connection just made ready

pub just_ready_at : (st : State) → JustReady st → ClientAt st
just_ready_at st j =
    keeps_at st (fresh st j).running.calm.sane
    (rw (ready_state st j) (readied_keeps (state_of empty_table (zeros STORE)) j.version (at_keeps (state_of empty_table (zeros STORE)) empty_at)))

pub each_channel :
    (st : State) → JustReady st → (xs ys : List Call) → AllFromC xs → AllFromC ys → TwoOrders xs ys → NeverFull st xs → NeverFull st ys
    → (n : ℕ) → SameEitherWayInC (lent_of st) xs ys n
each_channel st j xs ys a b o f h n =
    let same = same_either_way st j xs ys o f h n in
    let g = just_ready_at st j in
    let x = run_tells_each st g xs a n in
    let y = run_tells_each st g ys b n in
    record { same_told = rw (x, y) same.same_told; joined = rw x same.joined; each_once = rw x same.each_once }
