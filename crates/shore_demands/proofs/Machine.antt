-- A run of the shore's calls shows each number as its own machine: the trace theorem's premises, for any steady state and for the
-- states of a run.
-- Assumes nothing.
use Rattle.std.specs.Prelude.{None, Option, Some}
use mathlib.Core.Path.{◌≡◌, refl, sym, ap, ◌∙◌}
use mathlib.Core.Logic.{⊎_elim}
use mathlib.Core.Bool.{Bool, true, false, cond, not, ◌||◌}
use mathlib.Core.List.{List, []}
use Prim.Native.Nat.{ℕ, ◌≤◌}
use native.Mathlib.Omega.{arith}
use borrow.Author.Tests.{eqb-true, eq-eqb, le-ltb}
use lib.Dec.{eqb, ltb, lit≤}
use lib.ListN.{length, take}
use lib.IntN.{ℤ}
use Rattle.paper.specs.Sizes.{PART, STORE, REPLY_MIN, PDU_MAX}
use Rattle.paper.specs.declared.Refusal.{Refusal}
use Rattle.paper.specs.declared.Refusal.TheVariants.{WrongTime}
use Rattle.lists.specs.Bytes.{laid, zeros}
use Rattle.lists.proofs.Cases.{true_not_false, choice, both}
use Rattle.lists.proofs.Laid.{front}
use Rattle.reading.specs.Reading.{read_pdu}
use Rattle.reading.specs.Garbled.{carries}
use Rattle.reading.specs.declared.Charges.{Charges}
use Rattle.reading.specs.declared.Pdu.{Pdu}
use Rattle.reading.specs.declared.Pdu.TheVariants.{CreateRequest, CreateResponse, DataFirst, Data, Close, CapsRequest, CapsResponse}
use Rattle.reading.specs.declared.Pdu.TheVariants.{Refused as Unread}
use Rattle.reading.proofs.Placed.{Placed, placed}
use Rattle.laying.specs.Laying.{create_request_bytes}
use Rattle.laying.proofs.Lengths.{length_caps_request}
use Rattle.writing.specs.Writing.{bad_request, bad_capabilities}
use Rattle.channel.specs.declared.Record.{Record}
use Rattle.channel.specs.declared.Answer.{Answer}
use Rattle.channel.specs.declared.Answer.TheVariants as client
use Rattle.channel.specs.Channel.{Act, BadCreate, Create, Bring, Garbled, Closing, LocalClose, View, Shut, Open, NoRoom}
use Rattle.channel.specs.Channel.{act}
use Rattle.table.specs.Table.{free_place}
use Rattle.store.specs.Parts.{part}
use Rattle.connection.specs.States.{view, Steady}
use Rattle.client.specs.Client.{bad_call}
use Rattle.steps.specs.States.{Sane}
use Rattle.steps.proofs.Calm.{sane_steady, steady_sane}
use Rattle.shore.specs.declared.Said.{Said}
use Rattle.shore.specs.declared.Said.TheVariants.{Asked, Ready, Awaited, Opened, Declined, Held, Message, Closed, Ignored, Refused}
use Rattle.shore.specs.Saying.{said_as}
use Rattle.shore.specs.Rules.{Deed, Answered, Acts, Does, is_below_zero, settled, sent_for, as_open, common, asks, deed}
use Rattle.shore.specs.Events.{Event, Unreadable, Asking, Response, Opening, Of, unread, event_of}
use Rattle.shore.specs.Shore.{Standing, standing, state_in, Stepped, asking, responded, number_next, class_in, all_taken, opening, finished, done}
use Rattle.shore.specs.Shore.{stepped}
use Rattle.shore.specs.Shore.{whole_of, guarded, received, locally_closed, Sends, sends_of, bad_out, storeless, sending, requested, locally_opened}
use Rattle.demands.specs.Runs.{first_of}
use Rattle.demands.proofs.Traces.{Framed}
use Rattle.demands.specs.Runs as runs
use Rattle.demands.proofs.Machine as machine
use Rattle.demands.proofs.Machine.{act_up, act_short}
use Rattle.shore_demands.specs.Runs.{Entry, requests, receives, opens, closes, room_for, Call, Gave, gives, after, handed_up, Told, told}
use Rattle.shore_demands.specs.Runs.{event_in, granted, is_of, is_event_of, Running}
use Rattle.shore_demands.specs.Alone.{tells}
use Rattle.shore_demands.proofs.Frame.{ruled, FineEvent, step_own, step_said, step_sent, step_other, step_steady, step_level, step_asked}
use Rattle.shore_demands.proofs.Frame.{calm_step}
use Rattle.shore_demands.proofs.Frame.{Grants, is_granted, denied_or_granted, open_own, open_zero}

-- a state of a run is steady
pub steady : (l : ℕ) (st : Standing) → Running l st → Steady (state_in st)
steady l st g = sane_steady (state_in st) g.calm.sane g.ready

-- ---- a call is a step: refusal 1 is not met

-- what a call gives of a step
abbrev pub gave_of : List ℕ → Stepped → Gave
gave_of buffer s =
    record { shore = s.state.shore; said = s.said; sent = length s.sent; store = s.state.store; buffer = laid buffer 0 s.sent }

module _ (st : Standing) (s : Sane (state_in st)) (buffer : List ℕ) where
  -- a proper call that is lent the store and a reply
  pub not_bad : REPLY_MIN ≤ length buffer → bad_call st.shore.table (length st.store) (length buffer) ≡ false
  unfolding bad_call
  not_bad h = rw (eq-eqb (length st.store) STORE s.bytes, le-ltb (length buffer) REPLY_MIN h, s.sound)

  -- one that is lent a written PDU's buffer
  pub not_bad_out : PDU_MAX ≤ length buffer → bad_out st.shore.table (length buffer) ≡ false
  unfolding bad_out
  not_bad_out h = rw (le-ltb (length buffer) PDU_MAX h, s.sound)

  -- so it is the step
  passes : REPLY_MIN ≤ length buffer → (x : Stepped) → guarded st.shore st.store buffer x ≡ whole_of buffer x
  unfolding guarded
  passes h x = rw (not_bad h)

  -- so it is the step too
  sends : PDU_MAX ≤ length buffer → (x : Stepped) → sending st.shore buffer x ≡ sends_of buffer x
  unfolding sending
  sends h x = rw (not_bad_out h)

  -- the request and a local open look at no store, and leave it
  record Alike (x y : Stepped) : Type 0 where
    pub same : sends_of buffer x ≡ sends_of buffer y
    pub kept : y.state.store ≡ st.store

  -- two choices by one test are alike where their arms are
  alike_if : (t : Bool) {x y x' y' : Stepped} → Alike x x' → Alike y y' → Alike (cond t x y) (cond t x' y')
  alike_if true p q = p
  alike_if false p q = q

  -- the request
  ask_alike : (version : ℕ) (charges : Charges) → Alike (asking (storeless st.shore) version charges) (asking st version charges)
  unfolding asking sends_of
  ask_alike version charges =
      alike_if (not (eqb st.shore.asked 0)) (record { same = refl; kept = refl })
      (alike_if (bad_capabilities version charges) (record { same = refl; kept = refl }) (record { same = refl; kept = refl }))

  -- a local open
  open_alike : (name : List ℕ) (class : ℕ) → Alike (opening (storeless st.shore) name class) (opening st name class)
  unfolding opening sends_of
  open_alike name class =
      alike_if (not st.shore.table.ready) (record { same = refl; kept = refl })
      (alike_if (all_taken st.shore.table) (record { same = refl; kept = refl })
      (alike_if (bad_request (class_in st class) name) (record { same = refl; kept = refl })
      (alike_if (ltb PDU_MAX (length (create_request_bytes (number_next st) (class_in st class) name))) (record { same = refl; kept = refl })
      (record { same = refl; kept = refl }))))

  -- so a written PDU's call is that step
  abbrev gave_sends : Sends → Gave
  gave_sends x = record { shore = x.result.shore; said = x.result.said; sent = x.result.sent; store = st.store; buffer = x.out }

  -- steps that are alike give the same
  gave_alike : (x y : Stepped) → Alike x y → gave_sends (sends_of buffer x) ≡ gave_of buffer y
  unfolding sends_of
  gave_alike x y a = ap gave_sends a.same ∙ rw a.kept

  -- each kind of call
  call_gives : (a : Entry) → room_for a ≤ length buffer → gives st a buffer ≡ gave_of buffer (stepped st (event_in a))
  unfolding gives event_in requested received locally_opened locally_closed whole_of stepped
  call_gives (requests version charges) h =
      ap gave_sends (sends h (asking (storeless st.shore) version charges))
      ∙ gave_alike (asking (storeless st.shore) version charges) (asking st version charges) (ask_alike version charges)
  call_gives (receives pdu) h = rw (passes h (stepped st (event_of pdu (read_pdu false pdu))))
  call_gives (opens name class) h =
      ap gave_sends (sends h (opening (storeless st.shore) name class))
      ∙ gave_alike (opening (storeless st.shore) name class) (opening st name class) (open_alike name class)
  call_gives (closes n) h = rw (passes h (stepped st (Of n (Acts LocalClose))))

-- a proper call of a sane state is the step of its event
pub call_step :
    (st : Standing) (c : Call) → Sane (state_in st) → gives st c.asked c.buffer ≡ gave_of c.buffer (stepped st (event_in c.asked))
call_step st c s = call_gives st s c.buffer c.asked c.enough

-- and so is the state afterwards
pub call_state : (st : Standing) (c : Call) → Sane (state_in st) → after st c ≡ (stepped st (event_in c.asked)).state
unfolding after
call_state st c s = rw (call_step st c s)

-- ---- what reading makes sure of

-- what a received PDU or a local close comes to: no request, no local open, and a response of a version from 1 on
abbrev Heard : Event → Type 0
Heard (Unreadable why) = Unit {0}
Heard (Asking version charges) = ⊥
Heard (Response version) = 1 ≤ version
Heard (Opening name class) = ⊥
Heard (Of n d) = Unit {0}

-- a PDU that reading refuses
heard_unread : (why : Refusal) (carried : Option ℕ) → Heard (unread why carried)
unfolding unread
heard_unread why None = tt
heard_unread why (Some n) = tt

-- a PDU, by its kind
heard_read : (pdu : List ℕ) (p : Pdu) → Placed pdu p → Heard (event_of pdu p)
unfolding event_of
heard_read pdu (CreateRequest n class name) h = tt
heard_read pdu (CreateResponse n status) h = tt
heard_read pdu (DataFirst n len block) h = tt
heard_read pdu (Data n block) h = tt
heard_read pdu (Close n) h = tt
heard_read pdu (CapsRequest version charges) h = tt
heard_read pdu (CapsResponse version) h = h.0
heard_read pdu (Unread why) h = heard_unread why (carries pdu)

-- a received PDU
heard_pdu : (pdu : List ℕ) → Heard (event_of pdu (read_pdu false pdu))
heard_pdu pdu = heard_read pdu (read_pdu false pdu) (placed pdu false)

-- what is heard is fine
heard_fine : (e : Event) → Heard e → FineEvent e
heard_fine (Unreadable why) h = tt
heard_fine (Asking version charges) h = absurd h
heard_fine (Response version) h = h
heard_fine (Opening name class) h = absurd h
heard_fine (Of n d) h = tt

-- every call's event is fine
pub fine_call : (a : Entry) → FineEvent (event_in a)
unfolding event_in
fine_call (requests version charges) = tt
fine_call (receives pdu) = heard_fine (event_of pdu (read_pdu false pdu)) (heard_pdu pdu)
fine_call (opens name class) = tt
fine_call (closes n) = tt

-- ---- what is sent fits the buffer

-- a Create response sends nothing
settled_short : (n : ℕ) (r : Record) (b : List ℕ) (status : ℤ) → length (settled n r b status).sent ≤ REPLY_MIN
unfolding settled
settled_short n r b status = choice (λ (d : Does). length d.sent ≤ REPLY_MIN) (is_below_zero status) (λ e. omega arith) (λ e. omega arith)

-- what the common rules send is their reply, or nothing
sent_short : (a : Act) (reply : List ℕ) → length reply ≤ REPLY_MIN → length (sent_for a reply) ≤ REPLY_MIN
sent_short BadCreate reply h = omega arith
sent_short (Create listed pri) reply h = omega arith
sent_short (Bring offer bytes) reply h = omega arith
sent_short (Garbled why) reply h = omega arith
sent_short Closing reply h = omega arith
sent_short LocalClose reply h = h

-- a deed sends no more than a reply buffer holds
deed_short : (l n : ℕ) (v : View) (d : Deed) → length (deed l n v d).sent ≤ REPLY_MIN
unfolding deed common
deed_short l n Shut (Answered status) = omega arith
deed_short l n (Open r b) (Answered status) =
    choice (λ (d : Does). length d.sent ≤ REPLY_MIN) r.awaited (λ e. settled_short n r b status) (λ e. omega arith)
deed_short l n v (Acts a) = sent_short a (act l n NoRoom (as_open v) a).reply (act_short l n NoRoom (as_open v) a)

-- a received PDU or a local close sends a Close at most
reply_short : (st : Standing) (e : Event) → Heard e → length (stepped st e).sent ≤ REPLY_MIN
unfolding stepped responded done finished
reply_short st (Unreadable why) h = omega arith
reply_short st (Asking version charges) h = absurd h
reply_short st (Response version) h =
    choice (λ (s : Stepped). length s.sent ≤ REPLY_MIN) (st.shore.table.ready || eqb st.shore.asked 0) (λ e. omega arith) (λ e. omega arith)
reply_short st (Opening name class) h = absurd h
reply_short st (Of n d) h =
    choice (λ (s : Stepped). length s.sent ≤ REPLY_MIN) st.shore.table.ready
    (λ e. deed_short st.shore.table.level n (view n (state_in st)) d) (λ e. omega arith)

-- the request is 4 or 12 bytes
request_size : (t : Bool) → cond {A = ℕ} t 4 12 ≤ PDU_MAX
unfolding PDU_MAX
request_size true = lit≤ tt
request_size false = lit≤ tt

-- it fits a written PDU's buffer
request_short : (st : Standing) (version : ℕ) (charges : Charges) → length (asking st version charges).sent ≤ PDU_MAX
unfolding asking
request_short st version charges =
    choice (λ (s : Stepped). length s.sent ≤ PDU_MAX) (not (eqb st.shore.asked 0)) (λ e. omega arith)
    (λ e. choice (λ (s : Stepped). length s.sent ≤ PDU_MAX) (bad_capabilities version charges) (λ f. omega arith)
    (λ f. rw (length_caps_request version charges) (request_size (eqb version 1))))

-- so does a local open's Create, or it is refused with 11
open_short : (st : Standing) (name : List ℕ) (class : ℕ) → length (opening st name class).sent ≤ PDU_MAX
open_short st name class = ⊎_elim (λ d. rw d.is (omega arith)) (λ o. rw o.is o.short) (denied_or_granted st name class)

-- what any call sends fits its buffer
call_short : (st : Standing) (a : Entry) → length (stepped st (event_in a)).sent ≤ room_for a
unfolding event_in stepped
call_short st (requests version charges) = request_short st version charges
call_short st (receives pdu) = reply_short st (event_of pdu (read_pdu false pdu)) (heard_pdu pdu)
call_short st (opens name class) = open_short st name class
call_short st (closes n) = reply_short st (Of n (Acts LocalClose)) tt

-- ---- what the host is told

-- of a step
abbrev pub tells_of : Stepped → Told
tells_of s = record { said = s.said; sent = s.sent; message = handed_up s.state s.said }

-- a proper call of a sane state tells what its step says
pub call_told : (st : Standing) (c : Call) → Sane (state_in st) → told st c ≡ tells_of (stepped st (event_in c.asked))
unfolding told after
call_told st c s =
    let x = stepped st (event_in c.asked) in
    let fits : length x.sent ≤ length c.buffer = omega (arith, call_short st c.asked, c.enough) in
    ap (λ (g : Gave). record { said = g.said; sent = take g.sent g.buffer; message = handed_up (standing g.shore g.store) g.said })
    (call_step st c s)
    ∙ ap (λ (b : List ℕ). record { said = x.said; sent = b; message = handed_up x.state x.said }) (front c.buffer x.sent fits)

-- the message in a view
abbrev pub up : View → Said → List (List ℕ)
up w (Asked version) = []
up w (Ready level) = []
up w (Awaited n) = []
up w (Opened n) = []
up w (Declined n) = []
up w (Held n left) = []
up w (Message n len) = first_of w len
up w (Closed n) = []
up w (Ignored n) = []
up w (Refused why concern) = []

-- what the common rules answer, said at this end, hands up the same
pub up_said : (w : View) (a : Answer) → up w (said_as a) ≡ machine.up w a
unfolding said_as
up_said w (client.Ready level) = refl
up_said w (client.Opened n) = refl
up_said w (client.Declined n why) = refl
up_said w (client.Held n left) = refl
up_said w (client.Message n len) = refl
up_said w (client.Closed n) = refl
up_said w (client.Ignored n) = refl
up_said w (client.Refused why concern) = refl

-- by state, as by view
said_handed : (st : Standing) (a : Answer) → handed_up st (said_as a) ≡ runs.handed_up (state_in st) a
unfolding said_as handed_up runs.handed_up
said_handed st (client.Ready level) = refl
said_handed st (client.Opened n) = refl
said_handed st (client.Declined n why) = refl
said_handed st (client.Held n left) = refl
said_handed st (client.Message n len) = refl
said_handed st (client.Closed n) = refl
said_handed st (client.Ignored n) = refl
said_handed st (client.Refused why concern) = refl

-- a number's answer speaks of that number's message
abbrev OwnUp : ℕ → Standing → Said → Type 0
OwnUp n st s = handed_up st s ≡ up (view n (state_in st)) s

-- a Create response hands nothing up
answered_up : (n : ℕ) (v : View) (status : ℤ) (l : ℕ) (st : Standing) → OwnUp n st (deed l n v (Answered status)).said
unfolding deed settled handed_up
answered_up n Shut status l st = refl
answered_up n (Open r b) status l st =
    choice (λ (d : Does). OwnUp n st d.said) r.awaited
    (λ e. choice (λ (d : Does). OwnUp n st d.said) (is_below_zero status) (λ f. refl) (λ f. refl)) (λ e. refl)

-- no deed speaks of another's message
deed_up : (l n : ℕ) (v : View) (d : Deed) (st : Standing) → OwnUp n st (deed l n v d).said
unfolding deed common
deed_up l n v (Answered status) st = answered_up n v status l st
deed_up l n v (Acts a) st =
    let answer = (act l n NoRoom (as_open v) a).answer in
    said_handed st answer ∙ act_up l n NoRoom (as_open v) a (state_in st) ∙ sym (up_said (view n (state_in st)) answer)

-- what a number's own event is told: its rules' answer, what they send, and the message
abbrev pub told_by : Does → Told
told_by d = record { said = d.said; sent = d.sent; message = up d.view d.said }

-- two that tell the same
pub same_told :
    {a b : Said} {r q : List ℕ} {m k : List (List ℕ)} → a ≡ b → r ≡ q → m ≡ k
    → ◌≡◌ {A = Told} (record { said = a; sent = r; message = m }) (record { said = b; sent = q; message = k })
same_told p q r = cc

-- a deed is told so
deed_told : (st : Standing) → Steady (state_in st) → (n : ℕ) (d : Deed) → tells_of (stepped st (Of n d)) ≡ told_by (ruled n st d)
deed_told st g n d =
    let x = stepped st (Of n d) in
    let own = deed_up st.shore.table.level n (view n (state_in st)) d x.state in
    same_told (step_said st g n d) (step_sent st g n d)
    (ap (handed_up x.state) (step_said st g n d) ∙ own ∙ ap (λ (w : View). up w (ruled n st d).said) (step_own st g n d))

-- ---- one number's own machine

-- what its rules need to know of the rest: the level, and the part of the lowest free record
pub record Around : Type 0 where
  pub level : ℕ
  pub part : List ℕ

-- as they stand in a state
abbrev pub around : Standing → Around
around st = record { level = st.shore.table.level; part = part st.store (free_place st.shore.table) }

-- a local open opens that number
abbrev pub next_in : ℕ → Around → View → Event → View
next_in n f v (Unreadable why) = v
next_in n f v (Asking version charges) = v
next_in n f v (Response version) = v
next_in n f v (Opening name class) = (asks f.level n name class f.part).view
next_in n f v (Of m d) = (deed f.level n v d).view

-- and what it is told
abbrev pub told_in : ℕ → Around → View → Event → Told
told_in n f v (Unreadable why) = tells (Refused why None) []
told_in n f v (Asking version charges) = tells (Refused WrongTime None) []
told_in n f v (Response version) = tells (Refused WrongTime None) []
told_in n f v (Opening name class) = told_by (asks f.level n name class f.part)
told_in n f v (Of m d) = told_by (deed f.level n v d)

-- a local open that is an event of the number n isn't refused, and n is the number that it gets
record Own (n : ℕ) (st : Standing) (name : List ℕ) (class : ℕ) : Type 0 where
  pub grants : Grants st name class (opening st name class)
  pub gets : number_next st ≡ n

-- as the test says
own_open : (n : ℕ) (st : Standing) (name : List ℕ) (class : ℕ) → is_of n st (Opening name class) ≡ true → Own n st name class
unfolding is_of
own_open n st name class h =
    let p = both (granted st name class) (eqb (number_next st) n) h in
    record { grants = is_granted st name class p.0; gets = eqb-true (number_next st) n p.1 }

-- its own events move its view and are told so
own_step :
    (n : ℕ) (st : Standing) → Steady (state_in st) → (e : Event) → is_of n st e ≡ true
    → (view n (state_in (stepped st e).state) ≡ next_in n (around st) (view n (state_in st)) e)
    × (tells_of (stepped st e) ≡ told_in n (around st) (view n (state_in st)) e)
unfolding is_of stepped asks handed_up
own_step n st g (Unreadable why) h = absurd (true_not_false (sym h))
own_step n st g (Asking version charges) h = absurd (true_not_false (sym h))
own_step n st g (Response version) h = absurd (true_not_false (sym h))
own_step n st g (Opening name class) h =
    let o = own_open n st name class h in
    rw (← o.gets) (open_own st name class g o.grants, ap tells_of o.grants.is)
own_step n st g (Of m d) h = rw (← eqb-true m n h) (step_own st g m d, deed_told st g m d)

-- the same of calls
own_call :
    (n : ℕ) (st : Standing) (c : Call) → Steady (state_in st) → is_event_of n st c ≡ true
    → (view n (state_in (after st c)) ≡ next_in n (around st) (view n (state_in st)) (event_in c.asked))
    × (told st c ≡ told_in n (around st) (view n (state_in st)) (event_in c.asked))
unfolding is_event_of
own_call n st c g h =
    let s = steady_sane (state_in st) g in
    let o = own_step n st g (event_in c.asked) h in
    (ap (λ (x : Standing). view n (state_in x)) (call_state st c s) ∙ o.0, call_told st c s ∙ o.1)

-- no other event moves it
other_call : (n : ℕ) (st : Standing) (c : Call) → Steady (state_in st) → is_event_of n st c ≡ false → view n (state_in (after st c)) ≡ view n (state_in st)
unfolding is_event_of
other_call n st c g h = ap (λ (x : Standing). view n (state_in x)) (call_state st c (steady_sane (state_in st) g)) ∙ step_other n st g (event_in c.asked) h

-- a steady state stays so
pub steady_call : (st : Standing) (c : Call) → Steady (state_in st) → Steady (state_in (after st c))
steady_call st c g = rw (call_state st c (steady_sane (state_in st) g)) (step_steady st g (event_in c.asked))

-- what is read in a call
abbrev pub read_call : Call → Event
read_call c = event_in c.asked

-- any run from any steady state shows each number so
pub framed_steady :
    (n : ℕ) → Framed read_call after told (λ st c. around st) (is_event_of n) (λ st. view n (state_in st)) (next_in n) (told_in n) (λ st. Steady (state_in st))
framed_steady n = record {
  stays = steady_call;
  own = λ st c g h. (own_call n st c g h).0;
  says = λ st c g h. (own_call n st c g h).1;
  other = other_call n;
}

-- ---- in a run: the level stays, and a free record's part is zero

-- what its rules need to know there
abbrev pub plain : ℕ → Around
plain l = record { level = l; part = zeros PART }

-- one number's machine in a run
abbrev pub chan_next : ℕ → ℕ → Unit {0} → View → Event → View
chan_next l n u v e = next_in n (plain l) v e

abbrev pub chan_out : ℕ → ℕ → Unit {0} → View → Event → Told
chan_out l n u v e = told_in n (plain l) v e

-- its own events find it so
plain_so :
    (l n : ℕ) (st : Standing) → Running l st → (v : View) (e : Event) → is_of n st e ≡ true
    → (next_in n (around st) v e ≡ next_in n (plain l) v e) × (told_in n (around st) v e ≡ told_in n (plain l) v e)
plain_so l n st g v (Unreadable why) h = (refl, refl)
plain_so l n st g v (Asking version charges) h = (refl, refl)
plain_so l n st g v (Response version) h = (refl, refl)
plain_so l n st g v (Opening name class) h =
    let z = open_zero st name class (steady l st g) (own_open n st name class h).grants g.calm.zero in
    rw (z, g.level) (refl, refl)
plain_so l n st g v (Of m d) h = rw g.level (refl, refl)

-- a run stays a run
pub running_call : (l : ℕ) (st : Standing) (c : Call) → Running l st → Running l (after st c)
running_call l st c g =
    let e = event_in c.asked in
    rw (call_state st c g.calm.sane) (record {
      calm = calm_step st g.calm e (fine_call c.asked);
      ready = (step_steady st (steady l st g) e).ready;
      level = step_level st (steady l st g) e ∙ g.level;
      asked = rw (step_asked st g.asked e) g.asked;
    })

-- any run shows each number so
pub framed :
    (l n : ℕ) → Framed read_call after told (λ st c. tt) (is_event_of n) (λ st. view n (state_in st)) (chan_next l n) (chan_out l n) (Running l)
unfolding is_event_of
framed l n = record {
  stays = running_call l;
  own = λ st c g h. (own_call n st c (steady l st g) h).0 ∙ (plain_so l n st g (view n (state_in st)) (event_in c.asked) h).0;
  says = λ st c g h. (own_call n st c (steady l st g) h).1 ∙ (plain_so l n st g (view n (state_in st)) (event_in c.asked) h).1;
  other = λ st c g h. other_call n st c (steady l st g) h;
}
