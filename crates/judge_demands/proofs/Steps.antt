-- One PDU received on a channel that is open and not spoiled: what the host is told, beside what the judge's course becomes.
-- Assumes nothing.
use Rattle.std.specs.Prelude.{Option, None, Some}
use Prim.Native.Nat.{ℕ, ◌+◌, ◌%◌, ◌≤◌}
use mathlib.Core.Path.{◌≡◌, refl, sym, ap, ◌∙◌}
use mathlib.Core.Bool.{Bool, true, false, not, ◌&&◌}
use mathlib.Core.List.{List, [], ◌∷◌, ◌++◌, append_assoc}
use native.Mathlib.Omega.{arith}
use borrow.Author.Tests.{ltb-false, eqb-true, eq-eqb}
use lib.Dec.{ltb, eqb}
use lib.ListN.{length, take, length-append}
use lib.Seq.{take_at, length-take-le}
use Rattle.paper.specs.Sizes.{PART, MESSAGE_MAX}
use Rattle.paper.specs.declared.Refusal.{Refusal}
use Rattle.lists.specs.Bytes.{laid}
use Rattle.lists.proofs.Cases.{choice}
use Rattle.lists.proofs.Laid.{laid_eq}
use Rattle.reading.specs.Reading.{read_pdu}
use Rattle.reading.specs.Said.{bytes_at}
use Rattle.reading.specs.Garbled.{carries}
use Rattle.reading.specs.declared.Pdu.{Pdu}
use Rattle.reading.specs.declared.Pdu.TheVariants.{CreateRequest, CreateResponse, DataFirst, Data, Close}
use Rattle.reading.specs.declared.Pdu.TheVariants.{CapsRequest, CapsResponse, Refused as Unread}
use Rattle.listeners.specs.Listeners.{same_bytes, good_list}
use Rattle.channel.specs.declared.Stage.{Stage}
use Rattle.channel.specs.declared.Stage.TheVariants.{Idle, Joining, Spoiled}
use Rattle.channel.specs.declared.Record.{Record}
use Rattle.channel.specs.declared.Offer.{Offer}
use Rattle.channel.specs.declared.Offer.TheVariants.{First, More}
use Rattle.channel.specs.declared.Took.{Took}
use Rattle.channel.specs.declared.Took.TheVariants.{Bars, Spoils, Holds, Finishes}
use Rattle.channel.specs.declared.Answer.{Answer}
use Rattle.channel.specs.declared.Answer.TheVariants.{Ready, Opened, Declined, Held, Message, Closed, Ignored, Refused}
use Rattle.channel.specs.Stages.{added, took_first, took}
use Rattle.channel.specs.Channel.{Act, BadCreate, Create, Bring, Garbled, Closing, LocalClose, View, Shut, Open, Room, NoRoom, Spare}
use Rattle.channel.specs.Channel.{opening, stage_after, part_after, answer_to, landed, act}
use Rattle.table.specs.Sound.{good_stage}
use Rattle.table.proofs.Soundness.{joining_bounds}
use Rattle.connection.specs.States.{State, view, room_in, Steady}
use Rattle.client.specs.Events.{Event, Unreadable, Capabilities, Of, create_act, unread, event_of}
use Rattle.client.specs.Client.{Stepped, Whole, whole_of, stepped}
use Rattle.client.proofs.Steps.{too_late}
use Rattle.steps.proofs.Channels.{step_answer}
use Rattle.steps.proofs.Calm.{steady_sane}
use Rattle.demands.specs.Runs.{Call, receives, after, told, Told, event_in, is_event_of, first_of}
use Rattle.demands.proofs.Machine.{call_step, told_by}
use Rattle.demands.proofs.Joined.{sane_view, message_part, FineBlock, call_blocks}
use Rattle.demands.proofs.Cut.{framed_steady}
use Rattle.records.specs.Records.{PLACES}
use Rattle.judge.specs.declared.Reason.{Reason}
use Rattle.judge.specs.declared.Reason.TheVariants.{Reading, Kind, OtherChannel, Steps, Before}
use Rattle.judge.specs.declared.Course.TheVariants.{Going, Handed, Faulty}
use Rattle.judge.specs.Judge.{agrees, course_by, brought, judged_by, course_after}
use Rattle.judge_demands.specs.Received.{is_unread, is_data, is_anothers, is_refused, holds, earlier, NoneOf}
use Rattle.judge_demands.proofs.Joins.{same_more, same_whole}

-- ---- what isn't data of the channel is told neither held nor message of it

-- whether an answer is one of the two, of that number
abbrev pub speaks : ℕ → Answer → Bool
speaks n (Ready level) = false
speaks n (Opened m) = false
speaks n (Declined m why) = false
speaks n (Held m left) = eqb m n
speaks n (Message m len) = eqb m n
speaks n (Closed m) = false
speaks n (Ignored m) = false
speaks n (Refused why concern) = false

-- an event that brings the channel no block
abbrev NotOurs : ℕ → Event → Type 0
NotOurs n (Unreadable why) = Unit {0}
NotOurs n (Capabilities version) = Unit {0}
NotOurs n (Of m BadCreate) = Unit {0}
NotOurs n (Of m (Create listed pri)) = Unit {0}
NotOurs n (Of m (Bring offer block)) = eqb m n ≡ false
NotOurs n (Of m (Garbled why)) = Unit {0}
NotOurs n (Of m Closing) = Unit {0}
NotOurs n (Of m LocalClose) = Unit {0}

other_took : (n m : ℕ) → eqb m n ≡ false → (t : Took) → speaks n (answer_to m t) ≡ false
unfolding answer_to
other_took n m e (Bars why) = refl
other_took n m e (Spoils why) = refl
other_took n m e (Holds wanted at held) = e
other_took n m e (Finishes at len) = e

other_room : (n level m pri : ℕ) (room : Room) → speaks n (opening level m pri room).answer ≡ false
unfolding opening
other_room n level m pri NoRoom = refl
other_room n level m pri (Spare part) = refl

other_act : (n level m : ℕ) (room : Room) (v : View) (a : Act) → NotOurs n (Of m a) → speaks n (act level m room v a).answer ≡ false
unfolding act landed
other_act n level m room v BadCreate z = refl
other_act n level m room Shut (Create true pri) z = other_room n level m pri room
other_act n level m room Shut (Create false pri) z = refl
other_act n level m room Shut (Bring offer block) z = refl
other_act n level m room Shut (Garbled why) z = refl
other_act n level m room Shut Closing z = refl
other_act n level m room Shut LocalClose z = refl
other_act n level m room (Open r part) (Create listed pri) z = refl
other_act n level m room (Open r part) (Bring offer block) z = other_took n m z (took r.stage offer (length block))
other_act n level m room (Open r part) (Garbled why) z = refl
other_act n level m room (Open r part) Closing z = refl
other_act n level m room (Open r part) LocalClose z = refl

other_step : (n : ℕ) (st : State) → Steady st → (e : Event) → NotOurs n e → speaks n (stepped st e).answer ≡ false
unfolding stepped
other_step n st g (Unreadable why) z = refl
other_step n st g (Capabilities version) z = ap (λ (s : Stepped). speaks n s.answer) (too_late st version g.ready)
other_step n st g (Of m a) z = ap (speaks n) (step_answer st g m a) ∙ other_act n st.table.level m (room_in st) (view m st) a z

-- the answer that is told is the step's
told_step : (st : State) (c : Call) → Steady st → (told st c).answer ≡ (stepped st (event_in c.asked)).answer
unfolding told whole_of
told_step st c g = ap (λ (w : Whole). w.result.answer) (call_step st c (steady_sane st g))

other_told :
    (n : ℕ) (st : State) (c : Call) → Steady st → (e : Event) → event_in c.asked ≡ e → NotOurs n e → speaks n (told st c).answer ≡ false
other_told n st c g e q z = ap (speaks n) (told_step st c g ∙ ap (λ (x : Event). (stepped st x).answer) q) ∙ other_step n st g e z

not_ours_create : (n m : ℕ) (list name : List ℕ) (pri : ℕ) → NotOurs n (Of m (create_act list name pri))
unfolding create_act
not_ours_create n m list name pri = choice (λ (a : Act). NotOurs n (Of m a)) (good_list list) (λ e. tt) (λ e. tt)

not_ours_unread : (n : ℕ) (why : Refusal) (carried : Option ℕ) → NotOurs n (unread why carried)
unfolding unread
not_ours_unread n why None = tt
not_ours_unread n why (Some m) = tt

-- ---- what a block does

-- the bytes held before it
abbrev pub held_in : Stage → ℕ
held_in Idle = 0
held_in (Joining wanted held) = held
held_in Spoiled = 0

-- a block of k bytes goes behind the bytes held, and all fit
abbrev Goes : ℕ → ℕ → Took → Type 0
Goes at k (Bars why) = Unit {0}
Goes at k (Spoils why) = Unit {0}
Goes at k (Holds wanted from held) = (from ≡ at) × ((held ≡ at + k) × (at + k ≤ MESSAGE_MAX))
Goes at k (Finishes from len) = (from ≡ at) × ((len ≡ at + k) × (at + k ≤ MESSAGE_MAX))

goes_added : (wanted held k : ℕ) → wanted ≤ MESSAGE_MAX → Goes held k (added wanted held k)
unfolding added
goes_added wanted held k small =
    choice (Goes held k) (ltb wanted (held + k)) (λ e. tt)
    (λ e. let l = ltb-false wanted (held + k) e in
    choice (Goes held k) (eqb (held + k) wanted)
    (λ f. (refl, (sym (eqb-true (held + k) wanted f), omega arith)))
    (λ f. (refl, (refl, omega arith))))

goes_first : (len k : ℕ) → Goes 0 k (took_first len k)
unfolding took_first
goes_first len k = choice (Goes 0 k) (ltb MESSAGE_MAX len) (λ e. tt) (λ e. goes_added len 0 k (ltb-false MESSAGE_MAX len e))

goes : (s : Stage) → good_stage s ≡ true → (offer : Offer) (k : ℕ) → k ≤ MESSAGE_MAX → Goes (held_in s) k (took s offer k)
unfolding took
goes Idle g (First len) k h = goes_first len k
goes Idle g More k h = (refl, (omega arith, omega arith))
goes (Joining wanted held) g (First len) k h = tt
goes (Joining wanted held) g More k h = goes_added wanted held k (joining_bounds (Joining wanted held) wanted held refl g).1
goes Spoiled g offer k h = tt

part_message : PART ≤ MESSAGE_MAX
unfolding PART
part_message = omega arith

-- the bytes that are there once the block has landed, and their comparison
module _ (part : List ℕ) (at : ℕ) (block : List ℕ) (fits : at + length block ≤ length part) where
  front_length : length (take at part) ≡ at
  front_length = length-take-le at part (omega arith)

  got_length : length (take at part ++ block) ≡ at + length block
  got_length = rw (length-append (take at part) block, front_length)

  landed_front : take (at + length block) (laid part at block) ≡ take at part ++ block
  landed_front = rw (laid_eq part at block fits, ← append_assoc) (take_at (take at part ++ block) _ (at + length block) got_length)

  joined_same :
      (m : List ℕ) → (same_bytes (take at m) (take at part) && agrees m at block) ≡ same_bytes (take (at + length block) m) (take at part ++ block)
  joined_same m = rw (front_length, got_length) at (sym (same_more m (take at part) block))

  whole_same :
      (m : List ℕ)
      → ((same_bytes (take at m) (take at part) && agrees m at block) && eqb (at + length block) (length m)) ≡ same_bytes m (take at part ++ block)
  whole_same m = rw (joined_same m) (rw got_length at (same_whole m (take at part ++ block)))

-- ---- one PDU

-- the channel open in a course's stage, and what it holds compared with the message
pub record Stands (n : ℕ) (m : List ℕ) (stage : Stage) (same : Bool) (st : State) : Type 0 where
  pub steady : Steady st
  pub row : Record
  pub part : List ℕ
  pub is_open_law : view n st ≡ Open row part
  pub at_stage : row.stage ≡ stage
  pub so_far : same ≡ same_bytes (take (held_in stage) m) (take (held_in stage) part)

-- the first three reasons, and the fourth
four : (h : Reason → Bool) → NoneOf h (earlier Steps) → h Steps ≡ false → NoneOf h (earlier Before)
four h none e = (none.0, (none.1.0, (none.1.1.0, (e, tt))))

module _ (n : ℕ) (m : List ℕ) (place : ℕ) (stage : Stage) (same : Bool) (st : State) (c : Call) (pdu : List ℕ) where
  -- no reason before one holds at the PDU, whatever follows
  abbrev pub Until : Reason → Type 0
  Until why = (pdus : List (List ℕ)) → NoneOf (holds n pdu pdus (told st c).answer) (earlier why)

  -- what happens at a PDU: one of the first four reasons; held; or a message
  pub data Met : Type 0 where
    faults :
        (why : Reason) → course_after n m (Going place stage same) pdu ≡ Faulty place why
        → ((pdus : List (List ℕ)) → holds n pdu pdus (told st c).answer why ≡ true) → Until why
        → speaks n (told st c).answer ≡ false → Met
    goes_on_law :
        (left : ℕ) (next : Stage) (still : Bool) → course_after n m (Going place stage same) pdu ≡ Going ((place + 1) % PLACES) next still
        → (told st c).answer ≡ Held n left → Until Before → Stands n m next still (after st c) → Met
    hands :
        (got : List ℕ) → course_after n m (Going place stage same) pdu ≡ Handed place (same_bytes m got)
        → (told st c).answer ≡ Message n (length got) → (told st c).message ≡ got ∷ [] → Until Before → length got ≤ MESSAGE_MAX → Met

  module _ (s : Stands n m stage same st) where
    whole : length s.part ≡ PART
    whole = (rw s.is_open_law at (sane_view st (steady_sane st s.steady) n)).0

    good : good_stage stage ≡ true
    good = rw s.at_stage at (rw s.is_open_law at (sane_view st (steady_sane st s.steady) n)).1

    -- a block for the channel, by what it does
    by_took :
        (block : List ℕ) (t : Took) → Goes (held_in stage) (length block) t → told st c ≡ told_by (landed n s.row s.part block t)
        → view n (after st c) ≡ (landed n s.row s.part block t).view → Steady (after st c)
        → course_after n m (Going place stage same) pdu ≡ course_by m place same block t → Until Steps → Met
    unfolding landed answer_to stage_after part_after course_by holds is_refused first_of
    by_took block (Bars why) z t v g q none = faults Steps q (λ pdus. rw t) none (rw t)
    by_took block (Spoils why) z t v g q none = faults Steps q (λ pdus. rw t) none (rw t)
    by_took block (Holds wanted from held) z t v g q none =
        goes_on_law _ _ _ q (ap (λ (x : Told). x.answer) t) (λ pdus. four (holds n pdu pdus (told st c).answer) (none pdus) (rw t))
        (record { steady = g; row = _; part = _; is_open_law = v; at_stage = refl; so_far = joined })
      where
        joined : (same && agrees m from block) ≡ same_bytes (take held m) (take held (laid s.part from block))
        joined =
            let fits : held_in stage + length block ≤ length s.part = omega (arith, whole, message_part, z.1.1) in
            rw (z.0, z.1.0, s.so_far, landed_front s.part (held_in stage) block fits) (joined_same s.part (held_in stage) block fits m)
    by_took block (Finishes from len) z t v g q none =
        let fits : held_in stage + length block ≤ length s.part = omega (arith, whole, message_part, z.1.1) in
        let got = take (held_in stage) s.part ++ block in
        let long = got_length s.part (held_in stage) block fits in
        let is_same : ((same && agrees m from block) && eqb len (length m)) ≡ same_bytes m got =
        rw (z.0, z.1.0, s.so_far) (whole_same s.part (held_in stage) block fits m) in
        let bytes : take len (laid s.part from block) ≡ got = rw (z.0, z.1.0) (landed_front s.part (held_in stage) block fits) in
        hands got (q ∙ ap (Handed place) is_same) (ap (λ (x : Told). x.answer) t ∙ ap (Message n) (z.1.0 ∙ sym long))
        (ap (λ (x : Told). x.message) t ∙ ap (λ (b : List ℕ). b ∷ []) bytes)
        (λ pdus. four (holds n pdu pdus (told st c).answer) (none pdus) (rw t)) (omega (arith, long, z.1.1))

    module _ (list : List ℕ) (asks : c.asked ≡ receives list pdu) where
      -- the event of what reading answers
      event_is : (p : Pdu) → read_pdu true pdu ≡ p → event_in c.asked ≡ event_of list pdu p
      unfolding event_in
      event_is p e = ap event_in asks ∙ ap (event_of list pdu) e

      fine_block : (e : Event) → event_in c.asked ≡ e → FineBlock e
      fine_block e q = rw q at (call_blocks c.asked)

      -- a block for the channel
      ours :
          (offer : Offer) (block : List ℕ) → event_in c.asked ≡ Of n (Bring offer block)
          → course_after n m (Going place stage same) pdu ≡ course_by m place same block (took stage offer (length block)) → Until Steps → Met
      unfolding is_event_of act
      ours offer block e q none =
          let g = s.steady in
          let f = framed_steady n in
          let own : is_event_of n c ≡ true = rw e (eq-eqb n n refl) in
          let k : length block ≤ MESSAGE_MAX = omega (arith, fine_block _ e, part_message) in
          by_took block (took stage offer (length block)) (goes stage good offer (length block) k)
          (f.says st c g own ∙ rw (e, s.is_open_law, s.at_stage)) (f.own st c g own ∙ rw (e, s.is_open_law, s.at_stage)) (f.stays st c g) q none

      -- a block for any channel
      block_met :
          (k : ℕ) (offer : Offer) (block : List ℕ) → event_in c.asked ≡ Of k (Bring offer block)
          → course_after n m (Going place stage same) pdu ≡ brought n m place stage same k offer block
          → Until OtherChannel → is_anothers n (read_pdu true pdu) ≡ not (eqb k n) → Met
      unfolding brought holds
      block_met k offer block e q none o = go (eqb k n) refl
        where
          go : (b : Bool) → eqb k n ≡ b → Met
          go true h =
              let is_ours = e ∙ ap (λ (x : ℕ). Of x (Bring offer block)) (eqb-true k n h) in
              ours offer block is_ours (q ∙ rw h) (λ pdus. ((none pdus).0, ((none pdus).1.0, (o ∙ ap not h, tt))))
          go false h = faults OtherChannel (q ∙ rw h) (λ pdus. o ∙ ap not h) none (other_told n st c s.steady _ e h)

      -- a PDU that isn't data
      kind_met :
          (p : Pdu) → read_pdu true pdu ≡ p → NotOurs n (event_of list pdu p) → is_unread p ≡ false → is_data p ≡ false
          → judged_by n m place stage same pdu p ≡ Faulty place Kind → Met
      unfolding holds course_after
      kind_met p e z u d q =
          faults Kind (rw e q) (λ pdus. rw (e, d)) (λ pdus. (rw e u, tt)) (other_told n st c s.steady _ (event_is p e) z)

      by_reading : (p : Pdu) → read_pdu true pdu ≡ p → Met
      unfolding event_of judged_by course_after is_unread is_data is_anothers holds
      by_reading (CreateRequest k class name) e = kind_met _ e (not_ours_create n k list (bytes_at pdu name) class) refl refl refl
      by_reading (CreateResponse k status) e = kind_met _ e tt refl refl refl
      by_reading (DataFirst k len block) e =
          block_met k (First len) (bytes_at pdu block) (event_is _ e) (rw e) (λ pdus. (rw e, (rw e, tt))) (rw e)
      by_reading (Data k block) e = block_met k More (bytes_at pdu block) (event_is _ e) (rw e) (λ pdus. (rw e, (rw e, tt))) (rw e)
      by_reading (Close k) e = kind_met _ e tt refl refl refl
      by_reading (CapsRequest version charges) e = kind_met _ e tt refl refl refl
      by_reading (CapsResponse version) e = kind_met _ e tt refl refl refl
      by_reading (Unread why) e =
          let silent = other_told n st c s.steady _ (event_is _ e) (not_ours_unread n why (carries pdu)) in
          faults Reading (rw e) (λ pdus. rw e) (λ pdus. tt) silent

      pub met : Met
      met = by_reading (read_pdu true pdu) refl
