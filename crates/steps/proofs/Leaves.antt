-- What a refused call leaves: nothing is sent, no byte changes, and the table is as it was, but that 10, 11 and 12, and 2 to 5 for a
-- garbled block, turn the stage of the one record that holds the number to spoiled. The rules of one channel say so (`act_quiet`); the
-- step puts it back.
-- Assumes nothing.
use Rattle.std.specs.Prelude.{Option, None, Some}
use mathlib.Core.Path.{◌≡◌, refl, sym, ap, ◌∙◌}
use mathlib.Core.Bool.{Bool, true, false}
use mathlib.Core.Logic.{◌≢◌}
use mathlib.Core.List.{List, []}
use Prim.Native.Nat.{ℕ, ◌+◌}
use native.Mathlib.Omega.{arith}
use borrow.Author.Tests.{lt-ltb, le-ltb, eq-eqb, ne_eqb}
use lib.Dec.{eqb, ltb}
use lib.ListN.{length}
use Rattle.paper.specs.Sizes.{PARTS, STORE, MESSAGE_MAX}
use Rattle.paper.specs.Refusals.{refusal_number}
use Rattle.paper.specs.declared.Refusal.{Refusal}
use Rattle.paper.specs.declared.Refusal.TheVariants.{BadCall, CutShort, TooLong, NoCommand, BadField, BadList, WrongTime, NotOpen, AlreadyOpen, StillJoining, OverLimit, PastLength, IsSpoiled, NoStart, AllTaken, NotAwaited, NotSets, Loose, NoPartner, NoRoom, LogFull, NotBlocks}
use Rattle.lists.specs.Bytes.{laid, zeros}
use Rattle.lists.proofs.Cases.{choice, and_false, true_not_false}
use Rattle.reading.specs.Reading.{read_pdu}
use Rattle.reading.specs.Said.{bytes_at}
use Rattle.reading.specs.Garbled.{carries}
use Rattle.listeners.specs.Listeners.{good_list}
use Rattle.reading.specs.declared.Pdu.{Pdu}
use Rattle.reading.specs.declared.Pdu.TheVariants.{CreateRequest, CreateResponse, DataFirst, Data, Close, CapsRequest, CapsResponse, Refused as NotRead}
use Rattle.reading.proofs.Placed.{ReadingRefusal, Placed, placed}
use Rattle.channel.specs.declared.Stage.{Stage}
use Rattle.channel.specs.declared.Stage.TheVariants.{Idle, Joining, Spoiled}
use Rattle.channel.specs.declared.Record.{Record}
use Rattle.channel.specs.declared.Offer.{Offer}
use Rattle.channel.specs.declared.Offer.TheVariants.{First, More}
use Rattle.channel.specs.declared.Answer.TheVariants.{Refused}
use Rattle.channel.specs.declared.Took.{Took}
use Rattle.channel.specs.declared.Took.TheVariants.{Bars, Spoils, Holds, Finishes}
use Rattle.channel.specs.Stages.{added, took_first, took}
use Rattle.channel.specs.Channel.{Act, BadCreate, Create, Bring, Garbled, Closing, LocalClose, View, Shut, Open, Room, NoRoom, Spare, restaged, opening, stage_after, part_after, answer_to, landed, act}
use Rattle.table.specs.declared.Table.{Table}
use Rattle.table.specs.Table.{empty_table, number_place, record_at, with_record}
use Rattle.table.specs.Sound.{sound_table}
use Rattle.table.proofs.Soundness.{sound_says}
use Rattle.table.proofs.Records.{none_number}
use Rattle.table.proofs.Twice.{holds_none}
use Rattle.deciding.specs.Deciding.{too_soon}
use Rattle.connection.specs.States.{State, state_of, view, room_in, wrote, save, Steady}
use Rattle.client.specs.Events.{Event, Unreadable, Capabilities, Of, create_act, unread, event_of}
use Rattle.client.specs.Client.{Stepped, refused, finished, readied, stepped, bad_call, Whole, whole_of, guarded, received, locally_closed, started, store_started}
use Rattle.client.proofs.Calls.{proper, refuses, passes}
use Rattle.connection.proofs.Views.{own_part, save_own}
use Rattle.client.proofs.Steps.{too_early, in_time, too_late, made_ready}
use Rattle.steps.specs.Rows.{is_open}
use Rattle.steps.specs.Refused.{is_of_three, is_of_reading, spoils, concerned, left_by, IsOpen, RefusedCall}
use Rattle.connection.proofs.Frame.{shut_past, opened}

-- ---- what data comes to: only the three spoil, they always do, and each concerns the channel

abbrev pub Right : Took → Type 0
Right (Bars why) = (is_of_three why ≡ false) × (ltb 7 (refusal_number why) ≡ true)
Right (Spoils why) = (is_of_three why ≡ true) × (ltb 7 (refusal_number why) ≡ true)
Right (Holds wanted at held) = Unit {0}
Right (Finishes at len) = Unit {0}

added_right : (wanted held n : ℕ) → Right (added wanted held n)
unfolding added is_of_three
added_right wanted held n = choice Right (ltb wanted (held + n)) (λ e. (refl, refl)) (λ e. choice Right (eqb (held + n) wanted) (λ f. tt) (λ f. tt))

pub took_right : (s : Stage) (offer : Offer) (n : ℕ) → Right (took s offer n)
unfolding took took_first is_of_three
took_right Idle (First len) n = choice Right (ltb MESSAGE_MAX len) (λ e. (refl, refl)) (λ e. added_right len 0 n)
took_right Idle More n = tt
took_right (Joining wanted held) (First len) n = (refl, refl)
took_right (Joining wanted held) More n = added_right wanted held n
took_right Spoiled offer n = (refl, refl)

-- ---- what reading refuses with: 2 to 5, which concern no channel and are none of the three

-- a refusal of a garbled block is one of reading
abbrev pub MildAct : Act → Type 0
MildAct BadCreate = Unit {0}
MildAct (Create listed pri) = Unit {0}
MildAct (Bring offer bytes) = Unit {0}
MildAct (Garbled why) = ReadingRefusal why
MildAct Closing = Unit {0}
MildAct LocalClose = Unit {0}

pub record OfReading (why : Refusal) : Type 0 where
  pub one : is_of_reading why ≡ true
  pub not_three : is_of_three why ≡ false
  pub no_channel : ltb 7 (refusal_number why) ≡ false

pub of_reading : (why : Refusal) → ReadingRefusal why → OfReading why
unfolding is_of_reading is_of_three
of_reading BadCall h = absurd h
of_reading CutShort h = record { one = refl; not_three = refl; no_channel = refl }
of_reading TooLong h = record { one = refl; not_three = refl; no_channel = refl }
of_reading NoCommand h = record { one = refl; not_three = refl; no_channel = refl }
of_reading BadField h = record { one = refl; not_three = refl; no_channel = refl }
of_reading BadList h = absurd h
of_reading WrongTime h = absurd h
of_reading NotOpen h = absurd h
of_reading AlreadyOpen h = absurd h
of_reading StillJoining h = absurd h
of_reading OverLimit h = absurd h
of_reading PastLength h = absurd h
of_reading IsSpoiled h = absurd h
of_reading NoStart h = absurd h
of_reading AllTaken h = absurd h
of_reading NotAwaited h = absurd h
of_reading NotSets h = absurd h
of_reading Loose h = absurd h
of_reading NoPartner h = absurd h
of_reading NoRoom h = absurd h
of_reading LogFull h = absurd h
of_reading NotBlocks h = absurd h

-- ---- what the rules of one channel leave where they refuse

-- the channel: as it was or, by a refusal that spoils, spoiled if it is open
pub data Leaves (a : Act) (why : Refusal) : View → View → Type 0 where
  kept : {v : View} → spoils why a ≡ false → is_of_three why ≡ false → Leaves a why v v
  shut : is_of_three why ≡ false → Leaves a why Shut Shut
  spoilt : {r : Record} {part : List ℕ} → spoils why a ≡ true → Leaves a why (Open r part) (Open (restaged r Spoiled) part)

-- nothing is sent, and the refusal concerns whom it should
pub record Quiet (n : ℕ) (a : Act) (v w : View) (reply : List ℕ) (why : Refusal) (concern : Option ℕ) : Type 0 where
  pub silent : reply ≡ []
  pub leaves : Leaves a why v w
  pub concerns : concern ≡ concerned why (Of n a)

-- a refusal by what it leaves and whom it concerns
quiet :
    (n : ℕ) (a : Act) (why : Refusal) (concern : Option ℕ) {v w : View} (x : Refusal) (c : Option ℕ) → Leaves a x v w
    → c ≡ concerned x (Of n a) → Refused x c ≡ Refused why concern → Quiet n a v w [] why concern
quiet n a why concern x c l k e =
    let p : x ≡ why = cc in
    let q : c ≡ concern = cc in
    record { silent = refl; leaves = rw (← p) l; concerns = sym q ∙ k ∙ ap (λ (w : Refusal). concerned w (Of n a)) p }

-- by its number it concerns the channel, or none
channel_concern : (n : ℕ) (a : Act) (x : Refusal) → ltb 7 (refusal_number x) ≡ true → Some n ≡ concerned x (Of n a)
unfolding concerned
channel_concern n a x h = rw h

no_concern : (n : ℕ) (a : Act) (x : Refusal) → ltb 7 (refusal_number x) ≡ false → None ≡ concerned x (Of n a)
unfolding concerned
no_concern n a x h = rw h

landed_quiet :
    (n : ℕ) (offer : Offer) (why : Refusal) (concern : Option ℕ) (r : Record) (part bytes : List ℕ) (t : Took) → Right t
    → (landed n r part bytes t).answer ≡ Refused why concern
    → Quiet n (Bring offer bytes) (Open r part) (landed n r part bytes t).view (landed n r part bytes t).reply why concern
unfolding landed stage_after part_after answer_to restaged spoils
landed_quiet n offer why concern r part bytes (Bars x) s e =
    quiet n (Bring offer bytes) why concern x (Some n) (kept s.0 s.0) (channel_concern n (Bring offer bytes) x s.1) e
landed_quiet n offer why concern r part bytes (Spoils x) s e =
    quiet n (Bring offer bytes) why concern x (Some n) (spoilt s.0) (channel_concern n (Bring offer bytes) x s.1) e
landed_quiet n offer why concern r part bytes (Holds wanted at held) s e = let z : ◌≡◌ {A = ℕ} 0 1 = cc in absurd (omega arith)
landed_quiet n offer why concern r part bytes (Finishes at len) s e = let z : ◌≡◌ {A = ℕ} 0 1 = cc in absurd (omega arith)

-- a garbled block, on an open channel and on one that isn't
garbled_quiet :
    (n : ℕ) (x why : Refusal) (concern : Option ℕ) (v w : View) → OfReading x → Leaves (Garbled x) x v w
    → Refused x None ≡ Refused why concern → Quiet n (Garbled x) v w [] why concern
garbled_quiet n x why concern v w r l e = quiet n (Garbled x) why concern x None l (no_concern n (Garbled x) x r.no_channel) e

opening_answers :
    (level n pri : ℕ) (room : Room) (why : Refusal) (concern : Option ℕ) → (opening level n pri room).answer ≡ Refused why concern → ⊥
unfolding opening
opening_answers level n pri NoRoom why concern e = let z : ◌≡◌ {A = ℕ} 0 1 = cc in omega arith
opening_answers level n pri (Spare p) why concern e = let z : ◌≡◌ {A = ℕ} 0 1 = cc in omega arith

pub act_quiet :
    (level n : ℕ) (room : Room) (v : View) (a : Act) (why : Refusal) (concern : Option ℕ) → MildAct a
    → (act level n room v a).answer ≡ Refused why concern
    → Quiet n a v (act level n room v a).view (act level n room v a).reply why concern
unfolding act spoils is_of_three concerned
act_quiet level n room Shut BadCreate why concern m e = quiet n BadCreate why concern BadList None (kept refl refl) refl e
act_quiet level n room (Open r part) BadCreate why concern m e = quiet n BadCreate why concern BadList None (kept refl refl) refl e
act_quiet level n room Shut (Create true pri) why concern m e = absurd (opening_answers level n pri room why concern e)
act_quiet level n room Shut (Create false pri) why concern m e = let z : ◌≡◌ {A = ℕ} 0 1 = cc in absurd (omega arith)
act_quiet level n room (Open r part) (Create listed pri) why concern m e = quiet n (Create listed pri) why concern AlreadyOpen (Some n) (kept refl refl) refl e
act_quiet level n room Shut (Bring offer bytes) why concern m e = quiet n (Bring offer bytes) why concern NotOpen (Some n) (kept refl refl) refl e
act_quiet level n room (Open r part) (Bring offer bytes) why concern m e =
    landed_quiet n offer why concern r part bytes (took r.stage offer (length bytes)) (took_right r.stage offer (length bytes)) e
act_quiet level n room Shut (Garbled x) why concern m e =
    let r = of_reading x m in
    garbled_quiet n x why concern Shut Shut r (shut r.not_three) e
act_quiet level n room (Open r part) (Garbled x) why concern m e =
    let g = of_reading x m in
    garbled_quiet n x why concern (Open r part) (Open (restaged r Spoiled) part) g (spoilt g.one) e
act_quiet level n room Shut Closing why concern m e = let z : ◌≡◌ {A = ℕ} 0 1 = cc in absurd (omega arith)
act_quiet level n room (Open r part) Closing why concern m e = let z : ◌≡◌ {A = ℕ} 0 1 = cc in absurd (omega arith)
act_quiet level n room Shut LocalClose why concern m e = quiet n LocalClose why concern NotOpen (Some n) (kept refl refl) refl e
act_quiet level n room (Open r part) LocalClose why concern m e = let z : ◌≡◌ {A = ℕ} 0 1 = cc in absurd (omega arith)

-- ---- what a refused step leaves

record Refusing (st : State) (e : Event) (s : Stepped) (why : Refusal) (concern : Option ℕ) : Type 0 where
  pub silent : s.reply ≡ []
  pub concerns : concern ≡ concerned why e
  pub left : s.state ≡ state_of (left_by why e st.table) st.store
  pub one_channel : is_of_three why ≡ true → IsOpen e st.table

put_spoiled :
    (n : ℕ) (st : State) → Steady st → (r : Record) (p : List ℕ) → view n st ≡ Open r p
    → save n st (Open r p) (Open (restaged r Spoiled) p) ≡ state_of (with_record st.table (number_place n st.table) (restaged (record_at st.table (number_place n st.table)) Spoiled)) st.store
unfolding save wrote
put_spoiled n st g r p h =
    let o = opened n st r p h in
    let k = number_place n st.table in
    rw (← o.1.0, ← o.1.1, own_part st.store k g.bytes o.0)

-- the channel's rules, put back
module _ (n : ℕ) (a : Act) (st : State) (g : Steady st) (why : Refusal) where
  pub saved :
      (v w : View) → view n st ≡ v → Leaves a why v w
      → (save n st v w ≡ state_of (left_by why (Of n a) st.table) st.store) × (is_of_three why ≡ true → IsOpen (Of n a) st.table)
  unfolding left_by IsOpen is_open save
  saved v w h (kept s k) = (rw (s, ← h) (save_own n st g.bytes), λ t. absurd (true_not_false (sym t ∙ k)))
  saved v w h (shut k) = (
    rw (le-ltb (number_place n st.table) PARTS (shut_past n st h), and_false (spoils why a)),
    λ t. absurd (true_not_false (sym t ∙ k)),
  )
  saved v w h (spoilt {r = r} {part = p} s) =
      let l = (opened n st r p h).0 in
      (rw (s, lt-ltb (number_place n st.table) PARTS l) (put_spoiled n st g r p h), λ t. l)

-- a refusal that concerns no channel
refused_here :
    (st : State) (e : Event) (x why : Refusal) (concern : Option ℕ) → is_of_three x ≡ false → None ≡ concerned x e
    → left_by x e st.table ≡ st.table → Refused x None ≡ Refused why concern → Refusing st e (refused st x) why concern
refused_here st e x why concern s c l h =
    let p : x ≡ why = cc in
    let q : None ≡ concern = cc in
    rw (← p) (record { silent = refl; concerns = sym q ∙ c; left = ap (λ (t : Table). state_of t st.store) (sym l); one_channel = λ t. absurd (true_not_false (sym t ∙ s)) })

-- ... in time or too early
pub soon_says : (a : Act) → MildAct a → (is_of_three (too_soon a) ≡ false) × (ltb 7 (refusal_number (too_soon a)) ≡ false)
unfolding too_soon is_of_three
soon_says BadCreate m = (refl, refl)
soon_says (Create listed pri) m = (refl, refl)
soon_says (Bring offer bytes) m = (refl, refl)
soon_says (Garbled why) m = let r = of_reading why m in (r.not_three, r.no_channel)
soon_says Closing m = (refl, refl)
soon_says LocalClose m = (refl, refl)

-- a refusal leaves a table in which the number isn't open
shut_left : (n : ℕ) (a : Act) (why : Refusal) (t : Table) → is_open t n ≡ false → left_by why (Of n a) t ≡ t
unfolding left_by
shut_left n a why t h = rw (h, and_false (spoils why a))

-- and when not ready none is
pub none_open : (n : ℕ) (t : Table) → length t.records ≡ PARTS → sound_table t ≡ true → t.ready ≡ false → is_open t n ≡ false
unfolding is_open
none_open n t rows sound e =
    let none = none_number n t (λ i. holds_none n (record_at t i) ((sound_says t sound).shut e i)) in
    le-ltb (number_place n t) PARTS (omega (arith, none, rows))

pub time_kept : is_of_three WrongTime ≡ false
unfolding is_of_three
time_kept = refl

-- what reading makes sure of a refusal in it
abbrev pub Mild : Event → Type 0
Mild (Unreadable why) = is_of_three why ≡ false
Mild (Capabilities version) = Unit {0}
Mild (Of n a) = MildAct a

module _ (st : State) (rows : length st.table.records ≡ PARTS) (bytes : length st.store ≡ STORE) (sound : sound_table st.table ≡ true) (why : Refusal) (concern : Option ℕ) where
  of_refusing :
      (n : ℕ) (a : Act) → MildAct a → (t : Bool) → st.table.ready ≡ t → (stepped st (Of n a)).answer ≡ Refused why concern
      → Refusing st (Of n a) (stepped st (Of n a)) why concern
  unfolding finished
  of_refusing n a m true r e =
      let g : Steady st = record { rows = rows; bytes = bytes; sound = sound; ready = r } in
      let step = in_time st n a (view n st) r refl in
      let h = ap (λ (s : Stepped). s.answer) (sym step) ∙ e in
      let q = act_quiet st.table.level n (room_in st) (view n st) a why concern m h in
      let p = saved n a st g why (view n st) (act st.table.level n (room_in st) (view n st) a).view refl q.leaves in
      rw step (record { silent = q.silent; concerns = q.concerns; left = p.0; one_channel = p.1 })
  of_refusing n a m false r e =
      let soon = soon_says a m in
      let early = too_early st n a r in
      let left = shut_left n a (too_soon a) st.table (none_open n st.table rows sound r) in
      rw early (refused_here st (Of n a) (too_soon a) why concern soon.0 (no_concern n a (too_soon a) soon.1) left (ap (λ (s : Stepped). s.answer) (sym early) ∙ e))

  caps_refusing :
      (version : ℕ) (t : Bool) → st.table.ready ≡ t → (stepped st (Capabilities version)).answer ≡ Refused why concern
      → Refusing st (Capabilities version) (stepped st (Capabilities version)) why concern
  unfolding readied concerned left_by
  caps_refusing version true r e = rw (too_late st version r) (refused_here st (Capabilities version) WrongTime why concern time_kept refl refl (ap (λ (s : Stepped). s.answer) (sym (too_late st version r)) ∙ e))
  caps_refusing version false r e =
      let ready_answer = ap (λ (s : Stepped). s.answer) (sym (made_ready st version r)) ∙ e in
      let z : ◌≡◌ {A = ℕ} 0 1 = cc in
      absurd (omega arith)

  step_refusing : (e : Event) → Mild e → (stepped st e).answer ≡ Refused why concern → Refusing st e (stepped st e) why concern
  unfolding stepped concerned left_by
  step_refusing (Unreadable x) m h = refused_here st (Unreadable x) x why concern m refl refl h
  step_refusing (Capabilities version) m h = caps_refusing version st.table.ready refl h
  step_refusing (Of n a) m h = of_refusing n a m st.table.ready refl h

-- ---- the call

whole_refusing :
    (t : Table) (store reply : List ℕ) (e : Event) (s : Stepped) (why : Refusal) (concern : Option ℕ)
    → Refusing (state_of t store) e s why concern → RefusedCall t store reply e (whole_of reply s) why concern
unfolding whole_of laid
whole_refusing t store reply e s why concern r =
    record {
      stored = ap (λ (x : State). x.store) r.left;
      replied = rw r.silent;
      none_sent = rw r.silent;
      concerns = r.concerns;
      left = ap (λ (x : State). x.table) r.left;
      one_channel = r.one_channel;
    }

whole_answer : {w : Whole} (reply : List ℕ) (s : Stepped) → w ≡ whole_of reply s → s.answer ≡ w.result.answer
unfolding whole_of
whole_answer reply s e = rw e

-- refusal 1 spoils nothing
pub size_spoils : (a : Act) → spoils BadCall a ≡ false
unfolding spoils is_of_three is_of_reading
size_spoils BadCreate = refl
size_spoils (Create listed pri) = refl
size_spoils (Bring offer bytes) = refl
size_spoils (Garbled why) = refl
size_spoils Closing = refl
size_spoils LocalClose = refl

size_left : (e : Event) (t : Table) → left_by BadCall e t ≡ t
unfolding left_by
size_left (Unreadable w) t = refl
size_left (Capabilities version) t = refl
size_left (Of n a) t = rw (size_spoils a)

size_concern : (e : Event) → None ≡ concerned BadCall e
unfolding concerned
size_concern (Unreadable w) = refl
size_concern (Capabilities version) = refl
size_concern (Of n a) = refl

pub size_kept : is_of_three BadCall ≡ false
unfolding is_of_three
size_kept = refl

guarded_refusing :
    (t : Table) (store reply : List ℕ) (e : Event) → length t.records ≡ PARTS → Mild e → (why : Refusal) (concern : Option ℕ)
    → (guarded t store reply (stepped (state_of t store) e)).result.answer ≡ Refused why concern
    → RefusedCall t store reply e (guarded t store reply (stepped (state_of t store) e)) why concern
guarded_refusing t store reply e rows mild why concern h = go (bad_call t (length store) (length reply)) refl
  where
    go :
        (b : Bool) → bad_call t (length store) (length reply) ≡ b
        → RefusedCall t store reply e (guarded t store reply (stepped (state_of t store) e)) why concern
    go true b =
        let r = refuses t store reply (stepped (state_of t store) e) b in
        rw r (whole_refusing t store reply e (refused (state_of t store) BadCall) why concern (refused_here (state_of t store) e BadCall why concern size_kept (size_concern e) (size_left e t) (whole_answer reply (refused (state_of t store) BadCall) r ∙ h)))
    go false b =
        let r = passes t store reply (stepped (state_of t store) e) b in
        let p = proper t (length store) (length reply) b in
        rw r (whole_refusing t store reply e (stepped (state_of t store) e) why concern (step_refusing (state_of t store) rows p.store_size p.sound why concern e mild (whole_answer reply (stepped (state_of t store) e) r ∙ h)))

mild_unread : (why : Refusal) (carried : Option ℕ) → ReadingRefusal why → Mild (unread why carried)
unfolding unread
mild_unread why None h = (of_reading why h).not_three
mild_unread why (Some n) h = h

mild_create : (list name : List ℕ) (pri : ℕ) → MildAct (create_act list name pri)
unfolding create_act
mild_create list name pri = choice MildAct (good_list list) (λ e. tt) (λ e. tt)

mild_read : (list pdu : List ℕ) (p : Pdu) → Placed pdu p → Mild (event_of list pdu p)
unfolding event_of is_of_three
mild_read list pdu (CreateRequest n class name) h = mild_create list (bytes_at pdu name) class
mild_read list pdu (CreateResponse n status) h = refl
mild_read list pdu (DataFirst n len block) h = tt
mild_read list pdu (Data n block) h = tt
mild_read list pdu (Close n) h = tt
mild_read list pdu (CapsRequest version charges) h = tt
mild_read list pdu (CapsResponse version) h = refl
mild_read list pdu (NotRead why) h = mild_unread why (carries pdu) h

pub mild_pdu : (list pdu : List ℕ) → Mild (event_of list pdu (read_pdu true pdu))
mild_pdu list pdu = mild_read list pdu (read_pdu true pdu) (placed pdu true)

-- "A refusal writes nothing to the reply or to the message store and changes no channel, except that three listed refusals mark
-- the one channel concerned as spoiled", and those of reading do for a garbled block
pub receive_refused :
    (t : Table) (store list pdu reply : List ℕ) (why : Refusal) (concern : Option ℕ) → length t.records ≡ PARTS
    → (received t store list pdu reply).result.answer ≡ Refused why concern
    → RefusedCall t store reply (event_of list pdu (read_pdu true pdu)) (received t store list pdu reply) why concern
unfolding received
receive_refused t store list pdu reply why concern rows e = guarded_refusing t store reply (event_of list pdu (read_pdu true pdu)) rows (mild_pdu list pdu) why concern e

pub local_close_refused :
    (t : Table) (store : List ℕ) (n : ℕ) (reply : List ℕ) (why : Refusal) (concern : Option ℕ) → length t.records ≡ PARTS
    → (locally_closed t store n reply).result.answer ≡ Refused why concern
    → RefusedCall t store reply (Of n LocalClose) (locally_closed t store n reply) why concern
unfolding locally_closed
local_close_refused t store n reply why concern rows e = guarded_refusing t store reply (Of n LocalClose) rows tt why concern e

-- ---- Start

pub start_done : (store : List ℕ) → length store ≡ STORE → ((started store).table ≡ empty_table) × (store_started store ≡ zeros STORE)
unfolding started store_started
start_done store e = (refl, rw (eq-eqb (length store) STORE e))

pub start_left : (store : List ℕ) → length store ≢ STORE → ((started store).table ≡ empty_table) × (store_started store ≡ store)
unfolding started store_started
start_left store d = (refl, rw (ne_eqb (length store) STORE d))
