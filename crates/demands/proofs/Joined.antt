-- One channel's rules join as the joining by itself does: each event brings the same, and the stage is where the joining stands.
-- Assumes nothing.
use Rattle.std.specs.Prelude.{Option, None, Some}
use mathlib.Core.Path.{◌≡◌, refl, ap, ◌∙◌}
use mathlib.Core.Bool.{Bool, true, false, cond}
use mathlib.Core.List.{List, [], ◌∷◌, ◌++◌, append_assoc}
use mathlib.Core.Logic.{⊎_elim}
use Prim.Native.Nat.{ℕ, ◌+◌, ◌-◌, ◌≤◌, ◌<◌}
use native.Mathlib.Omega.{arith}
use borrow.Author.Tests.{ltb-false, eqb-true, eqb-false, lt-ltb, ne_eqb}
use lib.Dec.{ltb, eqb, lit≤}
use lib.ListN.{length, take, length-append, length-take, length-drop}
use lib.Seq.{take_at}
use Rattle.paper.specs.Sizes.{PART, MESSAGE_MAX, PDU_MAX}
use Rattle.paper.specs.declared.Refusal.{Refusal}
use Rattle.paper.specs.declared.Refusal.TheVariants.{TooLong, OverLimit, PastLength}
use Rattle.lists.specs.Bytes.{laid}
use Rattle.lists.proofs.Cases.{choice, lt_or_le}
use Rattle.lists.proofs.Laid.{laid_eq, length_laid, length_zeros, front}
use Rattle.reading.specs.Garbled.{carries}
use Rattle.reading.specs.Reading.{read_pdu}
use Rattle.reading.specs.Said.{bytes_at}
use Rattle.reading.specs.declared.Extent.{Extent}
use Rattle.reading.specs.declared.Pdu.{Pdu}
use Rattle.reading.specs.declared.Pdu.TheVariants.{CreateRequest, CreateResponse, DataFirst, Data, Close, CapsRequest, CapsResponse, Refused}
use Rattle.reading.proofs.Placed.{Placed, placed}
use Rattle.listeners.specs.Listeners.{good_list}
use Rattle.channel.specs.declared.Stage.{Stage}
use Rattle.channel.specs.declared.Stage.TheVariants.{Idle, Joining, Spoiled}
use Rattle.channel.specs.declared.Record.{Record}
use Rattle.channel.specs.declared.Offer.{Offer}
use Rattle.channel.specs.declared.Offer.TheVariants.{First, More}
use Rattle.channel.specs.declared.Took.TheVariants.{Bars, Spoils, Holds, Finishes}
use Rattle.channel.specs.Stages.{added, took_first, took}
use Rattle.channel.specs.Channel.{Act, BadCreate, Create, Bring, Garbled, Closing, LocalClose, View, Shut, Open, Did, opened_record, restaged, opening, stage_after, part_after, answer_to, landed, act}
use Rattle.table.specs.Sound.{good_stage}
use Rattle.table.proofs.Soundness.{joining_bounds, joining_good, sound_says}
use Rattle.table.specs.Table.{number_place}
use Rattle.store.proofs.Parts.{there, inside, length_part}
use Rattle.connection.specs.States.{State, view}
use Rattle.connection.proofs.Frame.{opened}
use Rattle.steps.specs.States.{Sane}
use Rattle.client.specs.Events.{Event, Unreadable, Capabilities, Of, create_act, unread, event_of}
use Rattle.demands.specs.Runs.{Entry, receives, closes, first_of, event_in}
use Rattle.demands.specs.Joining.{Join, Off, Waiting, Gathering, Dead, NoMessage, StillToCome, Complete, Joined, still, gathered, starts_with, goes_on, joins, brought_by, brought}
use Rattle.demands.proofs.Machine.{room_flag, told_by}

-- ---- where a view's joining stands

abbrev pub join_at : Stage → List ℕ → Join
join_at Idle part = Waiting
join_at (Joining wanted held) part = Gathering wanted (take held part)
join_at Spoiled part = Dead

abbrev pub join_of : View → Join
join_of Shut = Off
join_of (Open r part) = join_at r.stage part

-- a view of a run: the part is whole, and a joining stage within its bounds
abbrev pub SoundView : View → Type 0
SoundView Shut = Unit {0}
SoundView (Open r part) = (length part ≡ PART) × (good_stage r.stage ≡ true)

-- so is every view of a state that is in order
pub sane_view : (st : State) → Sane st → (n : ℕ) → SoundView (view n st)
sane_view st s n = go (view n st) refl
  where
    go : (v : View) → view n st ≡ v → SoundView v
    go Shut e = tt
    go (Open r part) e =
        let o = opened n st r part e in
        let k = number_place n st.table in (
          rw o.1.1 at (length_part st.store k (inside st.store k (there st.store k s.bytes o.0))),
          rw o.1.0 at ((sound_says st.table s.sound).stage k),
        )

pub record Agrees (d : Did) (j : Joined) : Type 0 where
  pub stands : join_of d.view ≡ j.join
  pub brings : brought (told_by d) ≡ j.brings
  pub sound : SoundView d.view

pub message_part : MESSAGE_MAX ≤ PART
unfolding PART MESSAGE_MAX
message_part = lit≤ tt

pub pdu_part : PDU_MAX ≤ PART
unfolding PART MESSAGE_MAX PDU_MAX
pdu_part = lit≤ tt

module _ (n : ℕ) (r : Record) (part : List ℕ) (whole : length part ≡ PART) where
  spoils_agrees : (block : List ℕ) (why : Refusal) → Agrees (landed n r part block (Spoils why)) (still Dead)
  unfolding landed stage_after part_after answer_to restaged good_stage brought_by
  spoils_agrees block why = record { stands = refl; brings = refl; sound = (whole, refl) }

  -- a spoiled channel stays so
  bars_agrees : r.stage ≡ Spoiled → (block : List ℕ) (why : Refusal) → Agrees (landed n r part block (Bars why)) (still Dead)
  unfolding landed stage_after part_after answer_to restaged good_stage brought_by
  bars_agrees e block why = record { stands = rw e; brings = refl; sound = (whole, rw e) }

  module _ (wanted held : ℕ) (block : List ℕ) (small : wanted ≤ MESSAGE_MAX) (inside : held ≤ wanted) where
    got_length : length (take held part ++ block) ≡ held + length block
    got_length = simp (length-append, length-take) (omega (arith, message_part))

    got_bytes : held + length block ≤ wanted → take (held + length block) (laid part held block) ≡ take held part ++ block
    got_bytes h =
        rw (laid_eq part held block (omega (arith, message_part)), ← append_assoc)
        (take_at (take held part ++ block) _ (held + length block) got_length)

    laid_whole : length (laid part held block) ≡ PART
    laid_whole = length_laid part held block ∙ whole

    -- all of it has come
    all_come :
        held + length block ≡ wanted
        → Agrees (landed n r part block (Finishes held wanted)) (record { join = Waiting; brings = Complete (take held part ++ block) })
    unfolding landed stage_after part_after answer_to restaged good_stage brought_by first_of
    all_come e =
        let up_bytes : take wanted (laid part held block) ≡ take held part ++ block = rw (← e) (got_bytes (omega arith)) in
        record { stands = refl; brings = ap Complete up_bytes; sound = (laid_whole, refl) }

    -- some of it is still to come
    some_come :
        held + length block < wanted
        → Agrees (landed n r part block (Holds wanted held (held + length block))) (record { join = Gathering wanted (take held part ++ block); brings = StillToCome (wanted - (held + length block)) })
    unfolding landed stage_after part_after answer_to restaged brought_by
    some_come e = record { stands = ap (Gathering wanted) (got_bytes (omega arith)); brings = refl; sound = (laid_whole, joining_good wanted (held + length block) e small) }

    add_agrees : Agrees (landed n r part block (added wanted held (length block))) (gathered wanted (take held part ++ block))
    unfolding added gathered
    add_agrees = rw got_length (go (ltb wanted (held + length block)) refl (eqb (held + length block) wanted) refl)
      where
        go :
            (t : Bool) → ltb wanted (held + length block) ≡ t → (u : Bool) → eqb (held + length block) wanted ≡ u
            → Agrees (landed n r part block (cond t (Spoils PastLength) (cond u (Finishes held wanted) (Holds wanted held (held + length block))))) (cond t (still Dead) (cond u (record { join = Waiting; brings = Complete (take held part ++ block) }) (record { join = Gathering wanted (take held part ++ block); brings = StillToCome (wanted - (held + length block)) })))
        go true e u f = spoils_agrees block _
        go false e true f = all_come (eqb-true (held + length block) wanted f)
        go false e false f = some_come (omega (arith, ltb-false wanted (held + length block) e, eqb-false (held + length block) wanted f))

  -- ---- data, by stage

  first_agrees : (len : ℕ) (block : List ℕ) → Agrees (landed n r part block (took_first len (length block))) (starts_with (First len) block)
  unfolding took_first starts_with
  first_agrees len block = go (ltb MESSAGE_MAX len) refl
    where
      go :
          (t : Bool) → ltb MESSAGE_MAX len ≡ t
          → Agrees (landed n r part block (cond t (Spoils OverLimit) (added len 0 (length block)))) (cond t (still Dead) (gathered len block))
      go true e = spoils_agrees block _
      go false e = add_agrees len 0 block (ltb-false MESSAGE_MAX len e) (omega arith)

  -- a block that is one message
  one_agrees : (block : List ℕ) → length block ≤ PART → Agrees (landed n r part block (Finishes 0 (length block))) (starts_with More block)
  unfolding landed stage_after part_after answer_to restaged good_stage brought_by first_of starts_with
  one_agrees block h = record { stands = refl; brings = ap Complete (front part block (omega arith)); sound = (length_laid part 0 block ∙ whole, refl) }

  bring_agrees :
      (s : Stage) → r.stage ≡ s → good_stage s ≡ true → (offer : Offer) (block : List ℕ) → length block ≤ PART
      → Agrees (landed n r part block (took s offer (length block))) (joins (join_at s part) (Bring offer block))
  unfolding took joins goes_on
  bring_agrees Idle e g (First len) block h = first_agrees len block
  bring_agrees Idle e g More block h = one_agrees block h
  bring_agrees (Joining wanted held) e g (First len) block h = spoils_agrees block _
  bring_agrees (Joining wanted held) e g More block h = let b = joining_bounds (Joining wanted held) wanted held refl g in add_agrees wanted held block b.1 (omega arith)
  bring_agrees Spoiled e g offer block h = bars_agrees e block _

-- ---- every event

-- what reading makes sure of a block
abbrev pub FineBlock : Event → Type 0
FineBlock (Unreadable why) = Unit {0}
FineBlock (Capabilities version) = Unit {0}
FineBlock (Of n BadCreate) = Unit {0}
FineBlock (Of n (Create listed pri)) = Unit {0}
FineBlock (Of n (Bring offer block)) = length block ≤ PART
FineBlock (Of n (Garbled why)) = Unit {0}
FineBlock (Of n Closing) = Unit {0}
FineBlock (Of n LocalClose) = Unit {0}

stays_agrees : (v : View) → SoundView v → (d : Did) → d.view ≡ v → brought (told_by d) ≡ NoMessage → Agrees d (still (join_of v))
stays_agrees v s d e b = record { stands = ap join_of e; brings = b; sound = rw e s }

create_agrees : (l n pri : ℕ) (listed : Bool) → Agrees (act l n (room_flag false) Shut (Create listed pri)) (joins Off (Create listed pri))
unfolding act opening opened_record joins brought_by good_stage
create_agrees l n pri true = record { stands = refl; brings = refl; sound = (length_zeros PART, refl) }
create_agrees l n pri false = record { stands = refl; brings = refl; sound = tt }

open_create : (s : Stage) (part : List ℕ) (listed : Bool) (pri : ℕ) → joins (join_at s part) (Create listed pri) ≡ still (join_at s part)
unfolding joins
open_create Idle part listed pri = refl
open_create (Joining wanted held) part listed pri = refl
open_create Spoiled part listed pri = refl

off_bring :
    (l n : ℕ) (offer : Offer) (block : List ℕ)
    → Agrees (act l n (room_flag false) Shut (Bring offer block)) (joins Off (Bring offer block))
unfolding act joins brought_by
off_bring l n offer block = record { stands = refl; brings = refl; sound = tt }

off_garbled : (l n : ℕ) (why : Refusal) → Agrees (act l n (room_flag false) Shut (Garbled why)) (joins Off (Garbled why))
unfolding act joins brought_by
off_garbled l n why = record { stands = refl; brings = refl; sound = tt }

-- an open channel is dead after a garbled block
pub open_garbled : (s : Stage) (part : List ℕ) (why : Refusal) → joins (join_at s part) (Garbled why) ≡ still Dead
unfolding joins
open_garbled Idle part why = refl
open_garbled (Joining wanted held) part why = refl
open_garbled Spoiled part why = refl

garbled_agrees :
    (l n : ℕ) (r : Record) (part : List ℕ) (why : Refusal) → length part ≡ PART
    → Agrees (act l n (room_flag false) (Open r part) (Garbled why)) (still Dead)
unfolding act restaged good_stage brought_by
garbled_agrees l n r part why whole = record { stands = refl; brings = refl; sound = (whole, refl) }

bad_create : (j : Join) → joins j BadCreate ≡ still j
unfolding joins
bad_create Off = refl
bad_create Waiting = refl
bad_create (Gathering wanted got) = refl
bad_create Dead = refl

close_off : (j : Join) → (joins j Closing ≡ still Off) × (joins j LocalClose ≡ still Off)
unfolding joins
close_off Off = (refl, refl)
close_off Waiting = (refl, refl)
close_off (Gathering wanted got) = (refl, refl)
close_off Dead = (refl, refl)

pub act_joins :
    (l n m : ℕ) (v : View) (a : Act) → SoundView v → FineBlock (Of m a) → Agrees (act l n (room_flag false) v a) (joins (join_of v) a)
unfolding act brought_by
act_joins l n m Shut BadCreate s f = rw bad_create (stays_agrees Shut s _ refl refl)
act_joins l n m (Open r part) BadCreate s f = rw bad_create (stays_agrees (Open r part) s _ refl refl)
act_joins l n m Shut (Create listed pri) s f = create_agrees l n pri listed
act_joins l n m (Open r part) (Create listed pri) s f = rw (open_create r.stage part listed pri) (stays_agrees (Open r part) s _ refl refl)
act_joins l n m Shut (Bring offer block) s f = off_bring l n offer block
act_joins l n m (Open r part) (Bring offer block) s f = bring_agrees n r part s.0 r.stage refl s.1 offer block f
act_joins l n m Shut (Garbled why) s f = off_garbled l n why
act_joins l n m (Open r part) (Garbled why) s f = rw (open_garbled r.stage part why) (garbled_agrees l n r part why s.0)
act_joins l n m Shut Closing s f = rw (close_off Off).0 (stays_agrees Shut s _ refl refl)
act_joins l n m (Open r part) Closing s f = rw (close_off (join_at r.stage part)).0 (stays_agrees Shut tt _ refl refl)
act_joins l n m Shut LocalClose s f = rw (close_off Off).1 (stays_agrees Shut s _ refl refl)
act_joins l n m (Open r part) LocalClose s f = rw (close_off (join_at r.stage part)).1 (stays_agrees Shut tt _ refl refl)

-- ---- a channel's own events, alone

abbrev pub AllFine : List Event → Type 0
AllFine [] = Unit {0}
AllFine (e ∷ es) = FineBlock e × AllFine es

-- ---- what is read in a PDU

pub long_unread : (fromServer : Bool) (pdu : List ℕ) → PDU_MAX < length pdu → read_pdu fromServer pdu ≡ Refused TooLong
unfolding read_pdu
long_unread fromServer pdu h =
    let some : length pdu ≡ 0 → ⊥ = λ e. omega arith in
    simp (ne_eqb (length pdu) 0 some, lt-ltb PDU_MAX (length pdu) h)

pub block_fits : (pdu : List ℕ) (p : Extent) → p.at + p.len ≡ length pdu → length pdu ≤ PDU_MAX → length (bytes_at pdu p) ≤ PART
unfolding bytes_at
block_fits pdu p h k = simp (length-take, length-drop) (omega (arith, pdu_part))

create_block : (n : ℕ) (list name : List ℕ) (pri : ℕ) → FineBlock (Of n (create_act list name pri))
unfolding create_act
create_block n list name pri = choice (λ (a : Act). FineBlock (Of n a)) (good_list list) (λ e. tt) (λ e. tt)

unread_block : (why : Refusal) (carried : Option ℕ) → FineBlock (unread why carried)
unfolding unread
unread_block why None = tt
unread_block why (Some n) = tt

short_blocks : (list pdu : List ℕ) → length pdu ≤ PDU_MAX → (p : Pdu) → Placed pdu p → FineBlock (event_of list pdu p)
unfolding event_of
short_blocks list pdu k (CreateRequest n class name) h = create_block n list (bytes_at pdu name) class
short_blocks list pdu k (CreateResponse n status) h = tt
short_blocks list pdu k (DataFirst n len block) h = block_fits pdu block h k
short_blocks list pdu k (Data n block) h = block_fits pdu block h k
short_blocks list pdu k (Close n) h = tt
short_blocks list pdu k (CapsRequest version charges) h = tt
short_blocks list pdu k (CapsResponse version) h = tt
short_blocks list pdu k (Refused why) h = unread_block why (carries pdu)

long_block : (list pdu : List ℕ) → FineBlock (event_of list pdu (Refused TooLong))
unfolding event_of
long_block list pdu = unread_block TooLong (carries pdu)

read_blocks : (list pdu : List ℕ) → FineBlock (event_of list pdu (read_pdu true pdu))
read_blocks list pdu =
    ⊎_elim
    (λ (h : PDU_MAX < length pdu). rw (long_unread true pdu h) (long_block list pdu))
    (λ (h : length pdu ≤ PDU_MAX). short_blocks list pdu h (read_pdu true pdu) (placed pdu true))
    (lt_or_le PDU_MAX (length pdu))

pub call_blocks : (a : Entry) → FineBlock (event_in a)
unfolding event_in
call_blocks (receives list pdu) = read_blocks list pdu
call_blocks (closes n) = tt
