-- A 13 is answered for data on an open channel that is spoiled, and for nothing else; it leaves the table.
-- Assumes nothing.
use Rattle.std.specs.Prelude.{Option, None, Some}
use mathlib.Core.Path.{◌≡◌, refl, sym, ap, ◌∙◌}
use mathlib.Core.Bool.{Bool, true, false}
use mathlib.Core.List.{List}
use Prim.Native.Nat.{ℕ, ◌+◌, ◌<◌}
use native.Mathlib.Omega.{arith}
use borrow.Author.Tests.{ne_eqb, ltb-false}
use lib.Dec.{eqb, ltb}
use lib.ListN.{length}
use Rattle.paper.specs.Sizes.{PARTS, MESSAGE_MAX}
use Rattle.paper.specs.Refusals.{refusal_number}
use Rattle.paper.specs.Rows.{Verdict, fine, refused_with}
use Rattle.paper.specs.declared.Refusal.{Refusal}
use Rattle.paper.specs.declared.Refusal.TheVariants.{WrongTime, IsSpoiled}
use Rattle.lists.proofs.Cases.{choice, true_not_false}
use Rattle.reading.specs.Reading.{read_pdu}
use Rattle.reading.specs.Garbled.{carries}
use Rattle.reading.specs.declared.Pdu.{Pdu}
use Rattle.reading.specs.declared.Pdu.TheVariants.{CreateRequest, CreateResponse, DataFirst, Data, Close, CapsRequest, CapsResponse, Refused as NotRead}
use Rattle.reading.proofs.Placed.{ReadingRefusal, Placed, placed}
use Rattle.channel.specs.declared.Stage.{Stage}
use Rattle.channel.specs.declared.Stage.TheVariants.{Idle, Joining, Spoiled}
use Rattle.channel.specs.declared.Record.{Record}
use Rattle.channel.specs.declared.Offer.{Offer}
use Rattle.channel.specs.declared.Offer.TheVariants.{First, More}
use Rattle.channel.specs.declared.Took.{Took}
use Rattle.channel.specs.declared.Answer.{Answer}
use Rattle.channel.specs.declared.Answer.TheVariants.{Ready, Refused}
use Rattle.channel.specs.Stages.{added, took_first, took}
use Rattle.channel.specs.Channel.{Act, BadCreate, Create, Bring, Garbled, Closing, LocalClose, View, Shut, Open, Room, NoRoom, Spare, opening, answer_to, landed, act}
use Rattle.table.specs.Table.{number_place, record_at}
use Rattle.table.proofs.Records.{number_holds}
use Rattle.table.proofs.Twice.{holds_says}
use Rattle.connection.specs.States.{State, view, room_in}
use Rattle.connection.proofs.Frame.{opened}
use Rattle.deciding.specs.Deciding.{too_soon, level_for}
use Rattle.client.specs.Events.{Event, Unreadable, Capabilities, Of, unread, event_of}
use Rattle.client.specs.Client.{readied, stepped}
use Rattle.client.proofs.Steps.{too_early, too_late, made_ready}
use Rattle.steps.specs.Rows.{verdict_of, is_spoiled}
use Rattle.steps.specs.States.{Sane}
use Rattle.steps.proofs.Channels.{step_answer}
use Rattle.steps.proofs.Calm.{sane_steady}
use Rattle.steps.proofs.Leaves.{MildAct, Mild, of_reading, soon_says}

-- whether an answer is a 13
abbrev thirteenth : Verdict → Bool
thirteenth fine = false
thirteenth (refused_with why) = eqb (refusal_number why) 13

abbrev thirteen : Answer → Bool
thirteen answer = thirteenth (verdict_of answer)

not_one : {A : Type 0} {answer : Answer} (c : Option ℕ) → answer ≡ Refused IsSpoiled c → thirteen answer ≡ false → A
unfolding verdict_of
not_one c e h = absurd (true_not_false (sym (ap thirteen e) ∙ h))

-- a refusal up to 7 is none
small : (why : Refusal) → ltb 7 (refusal_number why) ≡ false → eqb (refusal_number why) 13 ≡ false
small why h = let k = ltb-false 7 (refusal_number why) h in ne_eqb (refusal_number why) 13 (λ e. omega arith)

-- ---- data on a channel that isn't spoiled

added_none : (n wanted held m : ℕ) → thirteen (answer_to n (added wanted held m)) ≡ false
unfolding added answer_to verdict_of
added_none n wanted held m =
    choice (λ (tk : Took). thirteen (answer_to n tk) ≡ false) (ltb wanted (held + m)) (λ e. refl)
    (λ e. choice (λ (tk : Took). thirteen (answer_to n tk) ≡ false) (eqb (held + m) wanted) (λ f. refl) (λ f. refl))

took_none : (n : ℕ) (stage : Stage) (offer : Offer) (m : ℕ) → is_spoiled stage ≡ false → thirteen (answer_to n (took stage offer m)) ≡ false
unfolding took took_first answer_to verdict_of is_spoiled
took_none n Idle (First len) m h =
    choice (λ (tk : Took). thirteen (answer_to n tk) ≡ false) (ltb MESSAGE_MAX len) (λ e. refl) (λ e. added_none n len 0 m)
took_none n Idle More m h = refl
took_none n (Joining wanted held) (First len) m h = refl
took_none n (Joining wanted held) More m h = added_none n wanted held m
took_none n Spoiled offer m h = absurd (true_not_false h)

-- ---- what one channel's rules answer

-- the channel is open and spoiled, and the refusal concerns it
record Dead (n : ℕ) (v : View) (c : Option ℕ) : Type 0 where
  pub row : Record
  pub part : List ℕ
  pub is : v ≡ Open row part
  pub spoiled : is_spoiled row.stage ≡ true
  pub concerned : c ≡ Some n

took_spoiled :
    (n : ℕ) (stage : Stage) (offer : Offer) (m : ℕ) (c : Option ℕ) → is_spoiled stage ≡ true
    → answer_to n (took stage offer m) ≡ Refused IsSpoiled c → c ≡ Some n
unfolding is_spoiled took answer_to
took_spoiled n Idle offer m c h e = absurd (true_not_false (sym h))
took_spoiled n (Joining wanted held) offer m c h e = absurd (true_not_false (sym h))
took_spoiled n Spoiled offer m c h e = cc

block_dead :
    (n : ℕ) (r : Record) (b block : List ℕ) (offer : Offer) (c : Option ℕ) (t : Bool) → is_spoiled r.stage ≡ t
    → (landed n r b block (took r.stage offer (length block))).answer ≡ Refused IsSpoiled c → Dead n (Open r b) c
unfolding landed
block_dead n r b block offer c true h e =
    record { row = r; part = b; is = refl; spoiled = h; concerned = took_spoiled n r.stage offer (length block) c h e }
block_dead n r b block offer c false h e = not_one c e (took_none n r.stage offer (length block) h)

opening_none : (level n pri : ℕ) (room : Room) → thirteen (opening level n pri room).answer ≡ false
unfolding opening verdict_of
opening_none level n pri NoRoom = refl
opening_none level n pri (Spare p) = refl

act_dead :
    (level n : ℕ) (room : Room) (v : View) (a : Act) (c : Option ℕ) → MildAct a → (act level n room v a).answer ≡ Refused IsSpoiled c
    → Dead n v c
unfolding act verdict_of
act_dead level n room Shut BadCreate c m e = not_one c e refl
act_dead level n room Shut (Create true pri) c m e = not_one c e (opening_none level n pri room)
act_dead level n room Shut (Create false pri) c m e = not_one c e refl
act_dead level n room Shut (Bring offer block) c m e = not_one c e refl
act_dead level n room Shut (Garbled why) c m e = not_one c e (small why (of_reading why m).no_channel)
act_dead level n room Shut Closing c m e = not_one c e refl
act_dead level n room Shut LocalClose c m e = not_one c e refl
act_dead level n room (Open r b) BadCreate c m e = not_one c e refl
act_dead level n room (Open r b) (Create listed pri) c m e = not_one c e refl
act_dead level n room (Open r b) (Bring offer block) c m e = block_dead n r b block offer c (is_spoiled r.stage) refl e
act_dead level n room (Open r b) (Garbled why) c m e = not_one c e (small why (of_reading why m).no_channel)
act_dead level n room (Open r b) Closing c m e = not_one c e refl
act_dead level n room (Open r b) LocalClose c m e = not_one c e refl

-- ---- an event of no channel has none

abbrev pub Stray : Event → Type 0
Stray (Unreadable why) = eqb (refusal_number why) 13 ≡ false
Stray (Capabilities version) = Unit {0}
Stray (Of n a) = Unit {0}

unread_stray : (why : Refusal) (carried : Option ℕ) → ReadingRefusal why → Stray (unread why carried)
unfolding unread
unread_stray why None h = small why (of_reading why h).no_channel
unread_stray why (Some n) h = tt

pdu_stray : (list pdu : List ℕ) (p : Pdu) → Placed pdu p → Stray (event_of list pdu p)
unfolding event_of
pdu_stray list pdu (CreateRequest n class name) h = tt
pdu_stray list pdu (CreateResponse n status) h = refl
pdu_stray list pdu (DataFirst n len block) h = tt
pdu_stray list pdu (Data n block) h = tt
pdu_stray list pdu (Close n) h = tt
pdu_stray list pdu (CapsRequest version charges) h = tt
pdu_stray list pdu (CapsResponse version) h = refl
pdu_stray list pdu (NotRead why) h = unread_stray why (carries pdu) h

pub stray : (list pdu : List ℕ) → Stray (event_of list pdu (read_pdu true pdu))
stray list pdu = pdu_stray list pdu (read_pdu true pdu) (placed pdu true)

-- ---- a step

-- the record of the channel that a 13 concerns
pub record DeadRecord (st : State) (c : Option ℕ) : Type 0 where
  pub channel : ℕ
  pub concerned : c ≡ Some channel
  pub inside : number_place channel st.table < PARTS
  pub taken : (record_at st.table (number_place channel st.table)).taken ≡ true
  pub number : (record_at st.table (number_place channel st.table)).number ≡ channel
  pub spoiled : is_spoiled (record_at st.table (number_place channel st.table)).stage ≡ true

seen_dead : (n : ℕ) (st : State) → Sane st → (c : Option ℕ) → Dead n (view n st) c → DeadRecord st c
seen_dead n st s c d =
    let o = opened n st d.row d.part d.is in
    let held = holds_says n (record_at st.table (number_place n st.table)) (number_holds n st.table (rw s.rows o.0)) in
    record {
      channel = n;
      concerned = d.concerned;
      inside = o.0;
      taken = held.0;
      number = held.1;
      spoiled = ap (λ (r : Record). is_spoiled r.stage) o.1.0 ∙ d.spoiled;
    }

pub step_dead :
    (st : State) → Sane st → (e : Event) → Mild e → Stray e → (c : Option ℕ) → (stepped st e).answer ≡ Refused IsSpoiled c → DeadRecord st c
unfolding stepped readied verdict_of
step_dead st s (Unreadable why) m t c h = not_one c h t
step_dead st s (Capabilities version) m t c h = go st.table.ready refl
  where
    go : (b : Bool) → st.table.ready ≡ b → DeadRecord st c
    go true e = not_one {answer = Refused WrongTime None} c (rw (too_late st version e) at h) refl
    go false e = not_one {answer = Ready (level_for version)} c (rw (made_ready st version e) at h) refl
step_dead st s (Of n a) m t c h = go st.table.ready refl
  where
    go : (b : Bool) → st.table.ready ≡ b → DeadRecord st c
    go true e =
        seen_dead n st s c
        (act_dead st.table.level n (room_in st) (view n st) a c m (sym (step_answer st (sane_steady st s e) n a) ∙ h))
    go false e =
        not_one {answer = Refused (too_soon a) None} c (rw (too_early st n a e) at h) (small (too_soon a) (soon_says a m).1)
