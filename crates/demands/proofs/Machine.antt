-- A run of calls shows each channel as its own machine: the trace theorem's premises.
-- Assumes nothing.
use Rattle.std.specs.Prelude.{None}
use mathlib.Core.Path.{◌≡◌, refl, sym, ap, ◌∙◌}
use mathlib.Core.Bool.{Bool, true, false, not, ◌&&◌}
use mathlib.Core.List.{List, []}
use Prim.Native.Nat.{ℕ, ◌≤◌, ◌<◌}
use native.Mathlib.Omega.{arith}
use borrow.Author.Tests.{eqb-true, lt-ltb, le-ltb, eq-eqb}
use lib.Dec.{ltb}
use lib.ListN.{length, take}
use Rattle.paper.specs.Sizes.{PARTS, PART, STORE, REPLY_MIN}
use Rattle.paper.specs.declared.Refusal.TheVariants.{WrongTime}
use Rattle.lists.specs.Bytes.{laid, zeros}
use lib.IntN.{ℤ}
use mathlib.Core.Logic.{⊎_elim}
use Rattle.lists.proofs.Cases.{lt_or_le, true_not_false}
use Rattle.lists.proofs.Laid.{front}
use Rattle.paper.specs.Statuses.{OPENED, UNLISTED, FULL}
use Rattle.numbers.proofs.Widths.{narrowest_le}
use Rattle.laying.specs.Laying.{create_response_bytes, close_bytes}
use Rattle.laying.proofs.Lengths.{length_create_response, length_close}
use Rattle.reading.specs.Reading.{read_pdu}
use Rattle.channel.specs.declared.Record.{Record}
use Rattle.channel.specs.declared.Took.{Took}
use Rattle.channel.specs.declared.Took.TheVariants.{Bars, Spoils, Holds, Finishes}
use Rattle.channel.specs.declared.Answer.{Answer}
use Rattle.channel.specs.declared.Answer.TheVariants.{Ready, Opened, Declined, Held, Message, Closed, Ignored, Refused}
use Rattle.channel.specs.Stages.{took}
use Rattle.channel.specs.Channel.{Act, BadCreate, Create, Bring, Garbled, Closing, LocalClose, View, Shut, Open, Room, NoRoom, Spare, Did, opening, answer_to, landed, act}
use Rattle.table.specs.Table.{free_place, record_at, with_record}
use Rattle.table.proofs.Records.{free_at}
use Rattle.store.specs.Parts.{part}
use Rattle.connection.specs.States.{State, view, room_in, wrote, save, Steady, FineAct}
use Rattle.client.specs.Events.{Event, Unreadable, Capabilities, Of, event_of, is_of}
use Rattle.client.specs.Client.{stepped, bad_call, Whole, whole_of, received, locally_closed}
use Rattle.connection.proofs.Views.{room_none, room_spare}
use Rattle.client.proofs.Calls.{passes}
use Rattle.steps.specs.States.{FineEvent, ruled, Sane}
use Rattle.steps.proofs.Channels.{step_answer, step_reply, step_state, step_own, step_other, step_steady, step_caps}
use Rattle.steps.proofs.Calm.{sane_steady, steady_sane, calm_step, fine_pdu}
use Rattle.demands.proofs.Traces.{Framed}
use Rattle.demands.specs.Runs.{Entry, receives, closes, Call, gives, after, first_of, handed_up, Told, told, event_in, is_event_of, full_table, asks_room, event_meets_full, meets_full, Running}

pub steady : (l : ℕ) (st : State) → Running l st → Steady st
steady l st g = sane_steady st g.calm.sane g.ready

-- ---- a call is a step: refusal 1 is not met

-- a proper call of a sane state
pub not_bad : (st : State) (c : Call) → Sane st → bad_call st.table (length st.store) (length c.reply) ≡ false
unfolding bad_call
not_bad st c s = rw (eq-eqb (length st.store) STORE s.bytes, le-ltb (length c.reply) REPLY_MIN c.enough, s.sound)

pub call_step : (st : State) (c : Call) → Sane st → gives st c.asked c.reply ≡ whole_of c.reply (stepped st (event_in c.asked))
unfolding gives event_in received locally_closed
call_step st c s = go c.asked
  where
    go : (a : Entry) → gives st a c.reply ≡ whole_of c.reply (stepped st (event_in a))
    go (receives list pdu) = passes st.table st.store c.reply (stepped st (event_of list pdu (read_pdu true pdu))) (not_bad st c s)
    go (closes n) = passes st.table st.store c.reply (stepped st (Of n LocalClose)) (not_bad st c s)

pub fine_call : (a : Entry) → FineEvent (event_in a)
unfolding event_in
fine_call (receives list pdu) = fine_pdu list pdu
fine_call (closes n) = tt

pub call_state : (st : State) (c : Call) → Sane st → after st c ≡ (stepped st (event_in c.asked)).state
unfolding after whole_of
call_state st c s = rw (call_step st c s)

-- ---- a run stays a run

pub save_level : (n : ℕ) (st : State) (v w : View) → (save n st v w).table.level ≡ st.table.level
unfolding save wrote with_record
save_level n st Shut Shut = refl
save_level n st Shut (Open r b) = refl
save_level n st (Open old kept) Shut = refl
save_level n st (Open old kept) (Open r b) = refl

step_level : (l : ℕ) (st : State) → Running l st → (e : Event) → (stepped st e).state.table.level ≡ l
unfolding stepped
step_level l st g (Unreadable why) = g.level
step_level l st g (Capabilities version) = ap (λ (s : State). s.table.level) (step_caps st (steady l st g) version) ∙ g.level
step_level l st g (Of n a) = ap (λ (s : State). s.table.level) (step_state st (steady l st g) n a) ∙ save_level n st (view n st) (ruled n st a).view ∙ g.level

running_step : (l : ℕ) (st : State) → Running l st → (e : Event) → FineEvent e → Running l (stepped st e).state
running_step l st g e z = record { calm = calm_step st g.calm e z; ready = (step_steady st (steady l st g) e z).ready; level = step_level l st g e }

pub running_call : (l : ℕ) (st : State) (c : Call) → Running l st → Running l (after st c)
running_call l st c g = rw (call_state st c g.calm.sane) (running_step l st g (event_in c.asked) (fine_call c.asked))

-- ---- what an opening finds in a run: no room, or a part of zeros

abbrev pub room_flag : Bool → Room
room_flag true = NoRoom
room_flag false = Spare (zeros PART)

room_flag_law : (l : ℕ) (st : State) → Running l st → room_in st ≡ room_flag (full_table st)
unfolding full_table
room_flag_law l st g = ⊎_elim some none (lt_or_le (free_place st.table) PARTS)
  where
    some : free_place st.table < PARTS → room_in st ≡ room_flag (not (ltb (free_place st.table) PARTS))
    some h =
        let free : (record_at st.table (free_place st.table)).taken ≡ false = free_at st.table (rw g.calm.sane.rows h) in
        rw (lt-ltb (free_place st.table) PARTS h) (room_spare st (free_place st.table) refl h ∙ ap Spare (g.calm.zero (free_place st.table) h free))

    none : PARTS ≤ free_place st.table → room_in st ≡ room_flag (not (ltb (free_place st.table) PARTS))
    none h = rw (le-ltb (free_place st.table) PARTS h) (room_none st (free_place st.table) refl h)

-- only a listed Create of a number that is not open asks for room
pub flag_same : (l n : ℕ) (full : Bool) (v : View) (a : Act) → act l n (room_flag full) v a ≡ act l n (room_flag (asks_room v a && full)) v a
unfolding act asks_room
flag_same l n full Shut BadCreate = refl
flag_same l n full Shut (Create true pri) = refl
flag_same l n full Shut (Create false pri) = refl
flag_same l n full Shut (Bring offer bytes) = refl
flag_same l n full Shut (Garbled why) = refl
flag_same l n full Shut Closing = refl
flag_same l n full Shut LocalClose = refl
flag_same l n full (Open r b) BadCreate = refl
flag_same l n full (Open r b) (Create listed pri) = refl
flag_same l n full (Open r b) (Bring offer bytes) = refl
flag_same l n full (Open r b) (Garbled why) = refl
flag_same l n full (Open r b) Closing = refl
flag_same l n full (Open r b) LocalClose = refl

pub ruled_flag :
    (l : ℕ) (st : State) → Running l st → (n : ℕ) (a : Act) → ruled n st a ≡ act l n (room_flag (event_meets_full st (Of n a))) (view n st) a
unfolding event_meets_full
ruled_flag l st g n a =
    ap (λ (level : ℕ). act level n (room_in st) (view n st) a) g.level
    ∙ ap (λ (room : Room). act l n room (view n st) a) (room_flag_law l st g)
    ∙ flag_same l n (full_table st) (view n st) a

-- ---- what the host is told

-- the message in a view
abbrev pub up : View → Answer → List (List ℕ)
up w (Ready level) = []
up w (Opened n) = []
up w (Declined n why) = []
up w (Held n left) = []
up w (Message n len) = first_of w len
up w (Closed n) = []
up w (Ignored n) = []
up w (Refused why concern) = []

landed_up :
    (n : ℕ) (r : Record) (part bytes : List ℕ) (t : Took) (st : State)
    → handed_up st (landed n r part bytes t).answer ≡ up (view n st) (landed n r part bytes t).answer
unfolding landed answer_to handed_up
landed_up n r part bytes (Bars why) st = refl
landed_up n r part bytes (Spoils why) st = refl
landed_up n r part bytes (Holds wanted at held) st = refl
landed_up n r part bytes (Finishes at len) st = refl

opening_up :
    (l n pri : ℕ) (room : Room) (st : State) → handed_up st (opening l n pri room).answer ≡ up (view n st) (opening l n pri room).answer
unfolding opening handed_up
opening_up l n pri NoRoom st = refl
opening_up l n pri (Spare p) st = refl

-- a channel's answer speaks of that channel's message
pub act_up :
    (l n : ℕ) (room : Room) (v : View) (a : Act) (st : State)
    → handed_up st (act l n room v a).answer ≡ up (view n st) (act l n room v a).answer
unfolding act handed_up
act_up l n room Shut BadCreate st = refl
act_up l n room Shut (Create true pri) st = opening_up l n pri room st
act_up l n room Shut (Create false pri) st = refl
act_up l n room Shut (Bring offer bytes) st = refl
act_up l n room Shut (Garbled why) st = refl
act_up l n room Shut Closing st = refl
act_up l n room Shut LocalClose st = refl
act_up l n room (Open r b) BadCreate st = refl
act_up l n room (Open r b) (Create listed pri) st = refl
act_up l n room (Open r b) (Bring offer bytes) st = landed_up n r b bytes (took r.stage offer (length bytes)) st
act_up l n room (Open r b) (Garbled why) st = refl
act_up l n room (Open r b) Closing st = refl
act_up l n room (Open r b) LocalClose st = refl

-- a reply fits a reply buffer
landed_short : (n : ℕ) (r : Record) (part bytes : List ℕ) (t : Took) → length (landed n r part bytes t).reply ≤ REPLY_MIN
unfolding landed REPLY_MIN
landed_short n r part bytes (Bars why) = omega arith
landed_short n r part bytes (Spoils why) = omega arith
landed_short n r part bytes (Holds wanted at held) = omega arith
landed_short n r part bytes (Finishes at len) = omega arith

response_short : (n : ℕ) (status : ℤ) → length (create_response_bytes n status) ≤ 9
response_short n status = omega (arith, length_create_response n status, narrowest_le n)

close_short : (n : ℕ) → length (close_bytes n) ≤ 9
close_short n = omega (arith, length_close n, narrowest_le n)

opening_short : (l n pri : ℕ) (room : Room) → length (opening l n pri room).reply ≤ REPLY_MIN
unfolding opening REPLY_MIN
opening_short l n pri NoRoom = response_short n FULL
opening_short l n pri (Spare p) = response_short n OPENED

pub act_short : (l n : ℕ) (room : Room) (v : View) (a : Act) → length (act l n room v a).reply ≤ REPLY_MIN
unfolding act REPLY_MIN
act_short l n room Shut BadCreate = omega arith
act_short l n room Shut (Create true pri) = opening_short l n pri room
act_short l n room Shut (Create false pri) = response_short n UNLISTED
act_short l n room Shut (Bring offer bytes) = omega arith
act_short l n room Shut (Garbled why) = omega arith
act_short l n room Shut Closing = omega arith
act_short l n room Shut LocalClose = omega arith
act_short l n room (Open r b) BadCreate = omega arith
act_short l n room (Open r b) (Create listed pri) = omega arith
act_short l n room (Open r b) (Bring offer bytes) = landed_short n r b bytes (took r.stage offer (length bytes))
act_short l n room (Open r b) (Garbled why) = omega arith
act_short l n room (Open r b) Closing = close_short n
act_short l n room (Open r b) LocalClose = close_short n

-- what a channel's own event is told: its rules' answer, reply and message
abbrev pub told_by : Did → Told
told_by d = record { answer = d.answer; reply = d.reply; message = up d.view d.answer }

pub same_told :
    {a b : Answer} {r q : List ℕ} {m k : List (List ℕ)} → a ≡ b → r ≡ q → m ≡ k
    → ◌≡◌ {A = Told} (record { answer = a; reply = r; message = m }) (record { answer = b; reply = q; message = k })
same_told p q r = cc

pub own_told :
    (st : State) (c : Call) → Steady st → (n : ℕ) (a : Act) → FineAct a → event_in c.asked ≡ Of n a → told st c ≡ told_by (ruled n st a)
unfolding told whole_of
own_told st c s n a z e =
    let d = ruled n st a in
    let whole : gives st c.asked c.reply ≡ whole_of c.reply (stepped st (Of n a)) = call_step st c (steady_sane st s) ∙ ap (λ (x : Event). whole_of c.reply (stepped st x)) e in
    let answer : (stepped st (Of n a)).answer ≡ d.answer = step_answer st s n a in
    let reply : (stepped st (Of n a)).reply ≡ d.reply = step_reply st s n a in
    let state : after st c ≡ (stepped st (Of n a)).state = call_state st c (steady_sane st s) ∙ ap (λ (x : Event). (stepped st x).state) e in
    let seen_view : view n (after st c) ≡ d.view = ap (view n) state ∙ step_own st s n a z in
    let fits : length d.reply ≤ length c.reply = omega (arith, act_short st.table.level n (room_in st) (view n st) a, c.enough) in
    let same_answer : (gives st c.asked c.reply).result.answer ≡ d.answer = ap (λ (w : Whole). w.result.answer) whole ∙ answer in
    let same_reply : take (gives st c.asked c.reply).result.sent (gives st c.asked c.reply).reply ≡ d.reply = ap (λ (w : Whole). take w.result.sent w.reply) whole ∙ ap (λ (r : List ℕ). take (length r) (laid c.reply 0 r)) reply ∙ front c.reply d.reply fits in
    let same_message : handed_up (after st c) (gives st c.asked c.reply).result.answer ≡ up d.view d.answer = ap (handed_up (after st c)) same_answer ∙ act_up st.table.level n (room_in st) (view n st) a (after st c) ∙ ap (λ (w : View). up w d.answer) seen_view in
    same_told same_answer same_reply same_message

-- ---- one channel's own machine

abbrev pub chan_next : ℕ → Bool → View → Event → View
chan_next l full v (Unreadable why) = v
chan_next l full v (Capabilities version) = v
chan_next l full v (Of n a) = (act l n (room_flag full) v a).view

abbrev pub chan_out : ℕ → Bool → View → Event → Told
chan_out l full v (Unreadable why) = record { answer = Refused why None; reply = []; message = [] }
chan_out l full v (Capabilities version) = record { answer = Refused WrongTime None; reply = []; message = [] }
chan_out l full v (Of n a) = told_by (act l n (room_flag full) v a)

abbrev pub read_call : Call → Event
read_call c = event_in c.asked

own_next :
    (l n : ℕ) (st : State) (c : Call) → Running l st → (e : Event) → event_in c.asked ≡ e → FineEvent e → is_of n e ≡ true
    → (view n (after st c) ≡ chan_next l (event_meets_full st e) (view n st) e) × (told st c ≡ chan_out l (event_meets_full st e) (view n st) e)
own_next l n st c g (Unreadable why) q z h = absurd (true_not_false (sym h))
own_next l n st c g (Capabilities version) q z h = absurd (true_not_false (sym h))
own_next l n st c g (Of m a) q z h =
    let m_n : m ≡ n = eqb-true m n h in
    rw (← m_n) (
      ap (view m) (call_state st c g.calm.sane ∙ ap (λ (x : Event). (stepped st x).state) q) ∙ step_own st (steady l st g) m a z ∙ ap (λ (d : Did). d.view) (ruled_flag l st g m a),
      own_told st c (steady l st g) m a z q ∙ ap told_by (ruled_flag l st g m a),
    )

pub framed : (l n : ℕ) → Framed read_call after told meets_full (λ st. is_event_of n) (view n) (chan_next l) (chan_out l) (Running l)
unfolding is_event_of meets_full
framed l n = record {
  stays = λ st c g. running_call l st c g;
  own = λ st c g h. (own_next l n st c g (event_in c.asked) refl (fine_call c.asked) h).0;
  says = λ st c g h. (own_next l n st c g (event_in c.asked) refl (fine_call c.asked) h).1;
  other = λ st c g h. ap (view n) (call_state st c g.calm.sane) ∙ step_other n st (steady l st g) (event_in c.asked) (fine_call c.asked) h;
}
