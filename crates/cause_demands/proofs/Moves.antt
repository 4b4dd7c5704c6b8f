-- What a step makes of each record: it is free then; or it was free, and its channel has just been opened; or it holds the same
-- number, and turned spoiled only by a refusal of an event of that number, one of 2 to 5 or of 10 to 12.
-- Assumes nothing.
use Rattle.std.specs.Prelude.{Option, None, Some}
use mathlib.Core.Path.{◌≡◌, refl, sym, ap, ◌∙◌}
use mathlib.Core.Bool.{Bool, true, false, ◌||◌}
use mathlib.Core.List.{List}
use Prim.Native.Nat.{ℕ, ◌≤◌, ◌<◌}
use borrow.Author.Tests.{eq-eqb, eqb-true, eqb-false}
use lib.Dec.{eqb}
use lib.ListN.{length}
use Rattle.paper.specs.Sizes.{PARTS, PART}
use Rattle.paper.specs.declared.Refusal.{Refusal}
use Rattle.lists.specs.Bytes.{zeros}
use Rattle.lists.proofs.Cases.{true_not_false}
use Rattle.channel.specs.declared.Stage.{Stage}
use Rattle.channel.specs.declared.Stage.TheVariants.{Idle, Joining, Spoiled}
use Rattle.channel.specs.declared.Record.{Record}
use Rattle.channel.specs.declared.Offer.{Offer}
use Rattle.channel.specs.declared.Took.{Took}
use Rattle.channel.specs.declared.Took.TheVariants.{Bars, Spoils, Holds, Finishes}
use Rattle.channel.specs.declared.Answer.{Answer}
use Rattle.channel.specs.declared.Answer.TheVariants.{Opened, Refused}
use Rattle.channel.specs.Stages.{took}
use Rattle.channel.specs.Channel.{Act, BadCreate, Create, Bring, Garbled, Closing, LocalClose, View, Shut, Open, Room, NoRoom, Spare, blank}
use Rattle.channel.specs.Channel.{opened_record, restaged, opening, stage_after, answer_to, landed, act}
use Rattle.table.specs.Table.{number_place, free_place, record_at}
use Rattle.table.proofs.Records.{at_same, at_other, free_at}
use Rattle.table.proofs.Twice.{holds_says}
use Rattle.connection.specs.States.{State, view, room_in, wrote, save, Steady, FineAct}
use Rattle.connection.proofs.Frame.{Fits, room_for_law, there_is, opened, shut_past}
use Rattle.client.specs.Events.{Event, Unreadable, Capabilities, Of, is_of}
use Rattle.client.specs.Client.{readied, stepped}
use Rattle.client.proofs.Steps.{too_early, too_late, made_ready}
use Rattle.steps.specs.Rows.{is_spoiled}
use Rattle.steps.specs.Refused.{is_of_three, is_of_reading}
use Rattle.steps.specs.States.{ruled, Sane, FineEvent}
use Rattle.steps.proofs.Channels.{ruled_fits, step_answer, step_state}
use Rattle.steps.proofs.Calm.{sane_steady}
use Rattle.demands.specs.Garbled.{is_opened}
use Rattle.steps.proofs.Leaves.{Right, took_right, MildAct, Mild, of_reading}

-- a refusal that spoils
pub record Spoiling (answer : Answer) : Type 0 where
  pub why : Refusal
  pub concern : Option ℕ
  pub refused : answer ≡ Refused why concern
  pub which : (is_of_reading why || is_of_three why) ≡ true

-- ---- what one channel's rules make of an open channel's record

abbrev spoiled : Record → Bool
spoiled r = is_spoiled r.stage

pub record Keeps (answer : Answer) (r s : Record) : Type 0 where
  pub taken : s.taken ≡ r.taken
  pub number : s.number ≡ r.number
  pub still : spoiled r ≡ true → spoiled s ≡ true
  pub turns : spoiled r ≡ false → spoiled s ≡ true → Spoiling answer

-- nothing becomes of it
pub keeps_same : (answer : Answer) (r : Record) → Keeps answer r r
keeps_same answer r = record { taken = refl; number = refl; still = λ e. e; turns = λ e f. absurd (true_not_false (sym f ∙ e)) }

-- by what the rules make of its view
abbrev Turns : Answer → Record → View → Type 0
Turns answer r Shut = is_opened answer ≡ false
Turns answer r (Open s b) = (is_opened answer ≡ false) × Keeps answer r s

or_true : (b : Bool) → (b || true) ≡ true
or_true true = refl
or_true false = refl

-- a block on a channel that isn't spoiled, and on one that is
landed_turns :
    (n : ℕ) (r : Record) (part block : List ℕ) (tk : Took) → Right tk → (spoiled r ≡ true → stage_after r.stage tk ≡ r.stage)
    → Turns (landed n r part block tk).answer r (landed n r part block tk).view
unfolding landed answer_to stage_after is_spoiled
landed_turns n r part block (Bars why) s h = (refl, keeps_same _ r)
landed_turns n r part block (Spoils why) s h = (
  refl,
  record {
    taken = refl;
    number = refl;
    still = λ e. refl;
    turns = λ e f. record { why = why; concern = Some n; refused = refl; which = rw s.0 (or_true (is_of_reading why)) };
  },
)
landed_turns n r part block (Holds wanted at held) s h =
    (refl, record { taken = refl; number = refl; still = λ e. ap is_spoiled (h e) ∙ e; turns = λ e f. absurd (true_not_false (sym f)) })
landed_turns n r part block (Finishes at len) s h =
    (refl, record { taken = refl; number = refl; still = λ e. ap is_spoiled (h e) ∙ e; turns = λ e f. absurd (true_not_false (sym f)) })

-- a spoiled channel stays so, whatever the block
stays_spoiled : (stage : Stage) (offer : Offer) (m : ℕ) → is_spoiled stage ≡ true → stage_after stage (took stage offer m) ≡ stage
unfolding is_spoiled took stage_after
stays_spoiled Idle offer m h = absurd (true_not_false (sym h))
stays_spoiled (Joining wanted held) offer m h = absurd (true_not_false (sym h))
stays_spoiled Spoiled offer m h = refl

act_turns :
    (level n : ℕ) (room : Room) (r : Record) (b : List ℕ) (a : Act) → MildAct a
    → Turns (act level n room (Open r b) a).answer r (act level n room (Open r b) a).view
unfolding act restaged is_spoiled
act_turns level n room r b BadCreate m = (refl, keeps_same _ r)
act_turns level n room r b (Create listed pri) m = (refl, keeps_same _ r)
act_turns level n room r b (Bring offer block) m =
    landed_turns n r b block (took r.stage offer (length block)) (took_right r.stage offer (length block))
    (stays_spoiled r.stage offer (length block))
act_turns level n room r b (Garbled why) m = (
  refl,
  record {
    taken = refl;
    number = refl;
    still = λ e. refl;
    turns = λ e f. record { why = why; concern = None; refused = refl; which = rw (of_reading why m).one };
  },
)
act_turns level n room r b Closing m = refl
act_turns level n room r b LocalClose m = refl

-- ---- and of one that is shut: it is opened, or it isn't

abbrev Opens : ℕ → Answer → View → Type 0
Opens n answer Shut = is_opened answer ≡ false
Opens n answer (Open s b) = (spoiled s ≡ false) × (answer ≡ Opened n)

opening_opens : (level n pri : ℕ) (room : Room) → Opens n (opening level n pri room).answer (opening level n pri room).view
unfolding opening opened_record is_spoiled
opening_opens level n pri NoRoom = refl
opening_opens level n pri (Spare p) = (refl, refl)

act_opens :
    (level n : ℕ) (room : Room) (a : Act) → Opens n (act level n room Shut a).answer (act level n room Shut a).view
unfolding act
act_opens level n room BadCreate = refl
act_opens level n room (Create true pri) = opening_opens level n pri room
act_opens level n room (Create false pri) = refl
act_opens level n room (Bring offer block) = refl
act_opens level n room (Garbled why) = refl
act_opens level n room Closing = refl
act_opens level n room LocalClose = refl

-- ---- what a step makes of a record

pub data Moves (e : Event) (answer : Answer) (r s : Record) : Type 0 where
  free : s.taken ≡ false → Moves e answer r s
  opens : r.taken ≡ false → s.taken ≡ true → spoiled s ≡ false → answer ≡ Opened s.number → Moves e answer r s
  goes : r.taken ≡ true → Keeps answer r s → (spoiled r ≡ false → spoiled s ≡ true → is_of r.number e ≡ true) → Moves e answer r s

same_record : (e : Event) (answer : Answer) (r : Record) → Moves e answer r r
same_record e answer r = go r.taken refl
  where
    go : (t : Bool) → r.taken ≡ t → Moves e answer r r
    go true h = goes h (keeps_same answer r) (λ u v. absurd (true_not_false (sym v ∙ u)))
    go false h = free h

module _ (n : ℕ) (st : State) (g : Steady st) (a : Act) (answer : Answer) where
  -- a record written at a place
  written :
      (at : ℕ) (s : Record) (b : List ℕ) → at < PARTS → Moves (Of n a) answer (record_at st.table at) s
      → (k : ℕ) → Moves (Of n a) answer (record_at st.table k) (record_at (wrote st at s b).table k)
  unfolding wrote
  written at s b l m k = go (eqb k at) refl
    where
      go : (t : Bool) → eqb k at ≡ t → Moves (Of n a) answer (record_at st.table k) (record_at (wrote st at s b).table k)
      go true e = rw (eqb-true k at e, at_same st.table at s (rw g.rows l)) m
      go false e = rw (at_other st.table at k s (eqb-false k at e)) (same_record (Of n a) answer (record_at st.table k))

  -- by the channel before and afterwards
  abbrev Shape : View → View → Type 0
  Shape Shut w = Opens n answer w
  Shape (Open r b) w = Turns answer r w

  save_moves :
      (v w : View) → view n st ≡ v → Fits n (room_in st) v w → Shape v w
      → (k : ℕ) → Moves (Of n a) answer (record_at st.table k) (record_at (save n st v w).table k)
  unfolding save
  save_moves Shut Shut h f s k = same_record (Of n a) answer (record_at st.table k)
  save_moves Shut (Open r b) h f s k =
      let o = room_for_law n st g r b f in
      let held = holds_says n r o.holder in
      let was = free_at st.table (rw g.rows o.inside_it) in
      written (free_place st.table) r b o.inside_it (opens was held.0 s.0 (s.1 ∙ ap Opened (sym held.1))) k
  save_moves (Open old kept) Shut h f s k = written (number_place n st.table) blank (zeros PART) (there_is n st g old kept h) (free refl) k
  save_moves (Open old kept) (Open r b) h f s k =
      let o = opened n st old kept h in
      let held = holds_says n r f.0 in
      let was : record_at st.table (number_place n st.table) ≡ old = o.1.0 in
      written (number_place n st.table) r b o.0
      (rw was (goes (sym s.1.taken ∙ held.0) s.1 (λ u v. eq-eqb n old.number (sym held.1 ∙ s.1.number)))) k

-- the channel's rules give such a shape
ruled_shape :
    (n : ℕ) (st : State) (a : Act) → MildAct a → (v : View) → view n st ≡ v
    → (g : Steady st) → Shape n st g a (ruled n st a).answer v (ruled n st a).view
ruled_shape n st a m Shut h g = rw h (act_opens st.table.level n (room_in st) a)
ruled_shape n st a m (Open r b) h g = rw h (act_turns st.table.level n (room_in st) r b a m)

of_moves :
    (n : ℕ) (st : State) → Steady st → (a : Act) → FineAct a → MildAct a → (k : ℕ)
    → Moves (Of n a) (stepped st (Of n a)).answer (record_at st.table k) (record_at (stepped st (Of n a)).state.table k)
of_moves n st g a z m k =
    rw (step_answer st g n a, step_state st g n a)
    (save_moves n st g a (ruled n st a).answer (view n st) (ruled n st a).view refl (ruled_fits st g n a z)
    (ruled_shape n st a m (view n st) refl g) k)

pub step_moves :
    (st : State) → Sane st → (e : Event) → FineEvent e → Mild e → (k : ℕ)
    → Moves e (stepped st e).answer (record_at st.table k) (record_at (stepped st e).state.table k)
unfolding stepped readied record_at
step_moves st s (Unreadable why) z m k = same_record _ _ _
step_moves st s (Capabilities version) z m k = go st.table.ready refl
  where
    go :
        (t : Bool) → st.table.ready ≡ t
        → Moves (Capabilities version) (stepped st (Capabilities version)).answer (record_at st.table k)
        (record_at (stepped st (Capabilities version)).state.table k)
    go true e = rw (too_late st version e) (same_record _ _ _)
    go false e = rw (made_ready st version e) (same_record _ _ _)
step_moves st s (Of n a) z m k = go st.table.ready refl
  where
    go :
        (t : Bool) → st.table.ready ≡ t
        → Moves (Of n a) (stepped st (Of n a)).answer (record_at st.table k) (record_at (stepped st (Of n a)).state.table k)
    go true e = of_moves n st (sane_steady st s e) a z m k
    go false e = rw (too_early st n a e) (same_record _ _ _)

-- ---- an opening finds the channel shut

not_both : {A : Type 0} (answer : Answer) (m : ℕ) → is_opened answer ≡ false → answer ≡ Opened m → A
not_both answer m h e = absurd (true_not_false (sym (ap is_opened e) ∙ h))

shape_opens :
    (n : ℕ) (st : State) (g : Steady st) (a : Act) (answer : Answer) (m : ℕ) (v w : View) → Shape n st g a answer v w
    → answer ≡ Opened m → (v ≡ Shut) × (n ≡ m)
shape_opens n st g a answer m Shut Shut s e = not_both answer m s e
shape_opens n st g a answer m Shut (Open r b) s e = let same : Opened n ≡ Opened m = sym s.1 ∙ e in (refl, cc)
shape_opens n st g a answer m (Open old kept) Shut s e = not_both answer m s e
shape_opens n st g a answer m (Open old kept) (Open r b) s e = not_both answer m s.0 e

-- so no record holds its number
pub opens_shut :
    (st : State) → Sane st → (e : Event) → Mild e → (m : ℕ) → (stepped st e).answer ≡ Opened m → PARTS ≤ number_place m st.table
unfolding stepped readied
opens_shut st s (Unreadable why) q m h = not_both _ m refl h
opens_shut st s (Capabilities version) q m h = go st.table.ready refl
  where
    go : (t : Bool) → st.table.ready ≡ t → PARTS ≤ number_place m st.table
    go true e = not_both _ m refl (rw (too_late st version e) at h)
    go false e = not_both _ m refl (rw (made_ready st version e) at h)
opens_shut st s (Of n a) q m h = go st.table.ready refl
  where
    go : (t : Bool) → st.table.ready ≡ t → PARTS ≤ number_place m st.table
    go true e =
        let g = sane_steady st s e in
        let is = shape_opens n st g a (ruled n st a).answer m (view n st) (ruled n st a).view (ruled_shape n st a q (view n st) refl g)
        (sym (step_answer st g n a) ∙ h) in
        rw (← is.1) (shut_past n st is.0)
    go false e = not_both _ m refl (rw (too_early st n a e) at h)
