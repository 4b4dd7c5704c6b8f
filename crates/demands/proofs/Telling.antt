-- One channel's rules tell what `told_with` says: the steps by where its joining stands, with each event's own full-table flag, and each
-- message once. So does a run of its own events.
-- Assumes nothing.
use Rattle.std.specs.Prelude.{None, Some}
use Prim.Native.Nat.{ℕ, ◌+◌, ◌-◌, ◌≤◌}
use mathlib.Core.Path.{◌≡◌, refl, sym, ap, ◌∙◌}
use mathlib.Core.Bool.{Bool, true, false, cond, ◌&&◌}
use mathlib.Core.List.{List, [], ◌∷◌, ◌++◌, map}
use native.Mathlib.Omega.{arith}
use borrow.Author.Tests.{eqb-true}
use lib.Dec.{ltb, eqb}
use lib.ListN.{length, take, length-append, length-take}
use Rattle.paper.specs.Sizes.{PART, MESSAGE_MAX}
use Rattle.paper.specs.Statuses.{FULL}
use Rattle.paper.specs.declared.Refusal.{Refusal}
use Rattle.paper.specs.declared.Refusal.TheVariants.{BadList, WrongTime, AlreadyOpen, StillJoining, OverLimit, PastLength, IsSpoiled}
use Rattle.laying.specs.Laying.{create_response_bytes, close_bytes}
use Rattle.channel.specs.declared.Stage.{Stage}
use Rattle.channel.specs.declared.Stage.TheVariants.{Idle, Joining, Spoiled}
use Rattle.channel.specs.declared.Record.{Record}
use Rattle.channel.specs.declared.Offer.{Offer}
use Rattle.channel.specs.declared.Offer.TheVariants.{First, More}
use Rattle.channel.specs.declared.Took.TheVariants.{Bars, Spoils, Holds, Finishes}
use Rattle.channel.specs.declared.Decline.TheVariants.{Full}
use Rattle.channel.specs.declared.Answer.{Answer}
use Rattle.channel.specs.declared.Answer.TheVariants.{Ready, Opened, Declined, Held, Message, Closed, Ignored, Refused}
use Rattle.channel.specs.Stages.{added, took_first, took}
use Rattle.channel.specs.Channel.{Act, BadCreate, Create, Bring, Garbled, Closing, LocalClose, View, Shut, Open, Room, Did, did, restaged, opening, answer_to, landed, act}
use Rattle.table.specs.Sound.{good_stage}
use Rattle.table.proofs.Soundness.{joining_bounds}
use Rattle.client.specs.Events.{Event, Unreadable, Capabilities, Of}
use Rattle.demands.specs.Runs.{Told, first_of}
use Rattle.demands.specs.Joining.{Join, Off, Waiting, Gathering, Dead, Brings, NoMessage, StillToCome, Complete, still, gathered, starts_with, goes_on, joins, wants_room, joins_if, flag, flags, join_with, brought_by, brought, once, handed}
use Rattle.demands.specs.Telling.{Spoken, says, why_not, answered, step_says, says_if, hands_up, told_if, tells_none, told_with}
use Rattle.demands.proofs.Traces.{Input, events_in, flags_in, alone_final, alone_outs}
use Rattle.demands.proofs.Machine.{room_flag, told_by, chan_next, chan_out, same_told}
use Rattle.demands.proofs.Joined.{message_part, join_at, join_of, SoundView, Agrees, FineBlock, AllFine, act_joins}

-- ---- one channel's rules say what the steps say, and hand up each message once

pub record Speaks (d : Did) (s : Spoken) (b : Brings) : Type 0 where
  pub answers : d.answer ≡ s.answer
  pub replies : d.reply ≡ s.reply
  pub hands : handed (told_by d) ≡ once b

abbrev pub BySteps : Did → ℕ → Join → Act → Type 0
BySteps d n j a = Speaks d (step_says n j a) (joins j a).brings

step_bring :
    (n : ℕ) (j : Join) (offer : Offer) (block : List ℕ)
    → step_says n j (Bring offer block) ≡ says (answered n (why_not j offer) (joins j (Bring offer block)).brings) []
unfolding step_says
step_bring n Off offer block = refl
step_bring n Waiting offer block = refl
step_bring n (Gathering wanted got) offer block = refl
step_bring n Dead offer block = refl

module _ (n : ℕ) (r : Record) (part : List ℕ) (whole : length part ≡ PART) where
  -- what a block brings
  abbrev Lands : Refusal → Did → Brings → Type 0
  Lands why d b = Speaks d (says (answered n why b) []) b

  spoils_says : (block : List ℕ) (why : Refusal) → Lands why (landed n r part block (Spoils why)) NoMessage
  unfolding landed answer_to answered once
  spoils_says block why = record { answers = refl; replies = refl; hands = refl }

  bars_says : (block : List ℕ) (why : Refusal) → Lands why (landed n r part block (Bars why)) NoMessage
  unfolding landed answer_to answered once
  bars_says block why = record { answers = refl; replies = refl; hands = refl }

  finishes_says :
      (block got : List ℕ) (why : Refusal) (held wanted : ℕ) → wanted ≡ length got
      → Lands why (landed n r part block (Finishes held wanted)) (Complete got)
  unfolding landed answer_to answered once first_of
  finishes_says block got why held wanted e = record { answers = ap (Message n) e; replies = refl; hands = refl }

  holds_says :
      (block : List ℕ) (why : Refusal) (wanted at held : ℕ)
      → Lands why (landed n r part block (Holds wanted at held)) (StillToCome (wanted - held))
  unfolding landed answer_to answered once
  holds_says block why wanted at held = record { answers = refl; replies = refl; hands = refl }

  add_says :
      (wanted held : ℕ) (block : List ℕ) → held ≤ PART
      → Lands PastLength (landed n r part block (added wanted held (length block))) (gathered wanted (take held part ++ block)).brings
  unfolding added gathered
  add_says wanted held block inside = rw size (go (ltb wanted (held + length block)) (eqb (held + length block) wanted) refl)
    where
      got : List ℕ
      got = take held part ++ block

      size : length (take held part ++ block) ≡ held + length block
      size = simp (length-append, length-take) (omega arith)

      go :
          (t u : Bool) → eqb (held + length block) wanted ≡ u
          → Lands PastLength (landed n r part block (cond t (Spoils PastLength) (cond u (Finishes held wanted) (Holds wanted held (held + length block))))) (cond t (still Dead) (cond u (record { join = Waiting; brings = Complete got }) (record { join = Gathering wanted got; brings = StillToCome (wanted - (held + length block)) }))).brings
      go true u e = spoils_says block PastLength
      go false true e = finishes_says block got PastLength held wanted (sym (eqb-true (held + length block) wanted e) ∙ sym size)
      go false false e = holds_says block PastLength wanted held (held + length block)

  first_says :
      (len : ℕ) (block : List ℕ)
      → Lands (why_not Waiting (First len)) (landed n r part block (took_first len (length block))) (starts_with (First len) block).brings
  unfolding took_first starts_with why_not
  first_says len block = go (ltb MESSAGE_MAX len)
    where
      go :
          (t : Bool)
          → Lands (cond t OverLimit PastLength) (landed n r part block (cond t (Spoils OverLimit) (added len 0 (length block)))) (cond t (still Dead) (gathered len block)).brings
      go true = spoils_says block OverLimit
      go false = add_says len 0 block (omega arith)

  bring_says :
      (s : Stage) → good_stage s ≡ true → (offer : Offer) (block : List ℕ)
      → Lands (why_not (join_at s part) offer) (landed n r part block (took s offer (length block))) (joins (join_at s part) (Bring offer block)).brings
  unfolding took joins goes_on why_not starts_with
  bring_says Idle g (First len) block = first_says len block
  bring_says Idle g More block = finishes_says block block PastLength 0 (length block) refl
  bring_says (Joining wanted held) g (First len) block = spoils_says block StillJoining
  bring_says (Joining wanted held) g More block = let b = joining_bounds (Joining wanted held) wanted held refl g in add_says wanted held block (omega (arith, message_part))
  bring_says Spoiled g offer block = bars_says block IsSpoiled

  -- an open channel
  open_bring :
      good_stage r.stage ≡ true → (offer : Offer) (block : List ℕ)
      → BySteps (landed n r part block (took r.stage offer (length block))) n (join_at r.stage part) (Bring offer block)
  open_bring g offer block = rw (step_bring n (join_at r.stage part) offer block) (bring_says r.stage g offer block)

  open_bad : (s : Stage) → BySteps (did (Open r part) (Refused BadList None) []) n (join_at s part) BadCreate
  unfolding joins step_says once
  open_bad Idle = record { answers = refl; replies = refl; hands = refl }
  open_bad (Joining wanted held) = record { answers = refl; replies = refl; hands = refl }
  open_bad Spoiled = record { answers = refl; replies = refl; hands = refl }

  open_again :
      (s : Stage) → (listed : Bool) (pri : ℕ)
      → BySteps (did (Open r part) (Refused AlreadyOpen (Some n)) []) n (join_at s part) (Create listed pri)
  unfolding joins step_says once
  open_again Idle listed pri = record { answers = refl; replies = refl; hands = refl }
  open_again (Joining wanted held) listed pri = record { answers = refl; replies = refl; hands = refl }
  open_again Spoiled listed pri = record { answers = refl; replies = refl; hands = refl }

  open_unread :
      (s : Stage) (why : Refusal)
      → BySteps (did (Open (restaged r Spoiled) part) (Refused why None) []) n (join_at s part) (Garbled why)
  unfolding joins step_says once
  open_unread Idle why = record { answers = refl; replies = refl; hands = refl }
  open_unread (Joining wanted held) why = record { answers = refl; replies = refl; hands = refl }
  open_unread Spoiled why = record { answers = refl; replies = refl; hands = refl }

  open_closing : (s : Stage) → BySteps (did Shut (Closed n) (close_bytes n)) n (join_at s part) Closing
  unfolding joins step_says once
  open_closing Idle = record { answers = refl; replies = refl; hands = refl }
  open_closing (Joining wanted held) = record { answers = refl; replies = refl; hands = refl }
  open_closing Spoiled = record { answers = refl; replies = refl; hands = refl }

  open_local : (s : Stage) → BySteps (did Shut (Closed n) (close_bytes n)) n (join_at s part) LocalClose
  unfolding joins step_says once
  open_local Idle = record { answers = refl; replies = refl; hands = refl }
  open_local (Joining wanted held) = record { answers = refl; replies = refl; hands = refl }
  open_local Spoiled = record { answers = refl; replies = refl; hands = refl }

  open_says :
      (l : ℕ) (room : Room) → good_stage r.stage ≡ true → (a : Act)
      → BySteps (act l n room (Open r part) a) n (join_at r.stage part) a
  unfolding act
  open_says l room g BadCreate = open_bad r.stage
  open_says l room g (Create listed pri) = open_again r.stage listed pri
  open_says l room g (Bring offer block) = open_bring g offer block
  open_says l room g (Garbled why) = open_unread r.stage why
  open_says l room g Closing = open_closing r.stage
  open_says l room g LocalClose = open_local r.stage

-- a channel that is not open
shut_says : (l n : ℕ) (a : Act) → BySteps (act l n (room_flag false) Shut a) n Off a
unfolding act opening joins step_says once answered why_not
shut_says l n BadCreate = record { answers = refl; replies = refl; hands = refl }
shut_says l n (Create true pri) = record { answers = refl; replies = refl; hands = refl }
shut_says l n (Create false pri) = record { answers = refl; replies = refl; hands = refl }
shut_says l n (Bring offer block) = record { answers = refl; replies = refl; hands = refl }
shut_says l n (Garbled why) = record { answers = refl; replies = refl; hands = refl }
shut_says l n Closing = record { answers = refl; replies = refl; hands = refl }
shut_says l n LocalClose = record { answers = refl; replies = refl; hands = refl }

act_says : (l n : ℕ) (v : View) → SoundView v → (a : Act) → BySteps (act l n (room_flag false) v a) n (join_of v) a
act_says l n Shut s a = shut_says l n a
act_says l n (Open r part) s a = open_says n r part s.0 l (room_flag false) s.1 a

-- an open channel asks for no room
open_wants : (s : Stage) (part : List ℕ) (full : Bool) (a : Act) → (full && wants_room (join_at s part) a) ≡ false
open_wants Idle part true a = refl
open_wants Idle part false a = refl
open_wants (Joining wanted held) part true a = refl
open_wants (Joining wanted held) part false a = refl
open_wants Spoiled part true a = refl
open_wants Spoiled part false a = refl

-- what the rules do with any flag: as without, or a declined opening
pub record Both (full : Bool) (n : ℕ) (d : Did) (j : Join) (a : Act) : Type 0 where
  pub agrees : Agrees d (joins_if full j a)
  pub speaks : Speaks d (says_if full n j a) (joins_if full j a).brings

plainly :
    (full : Bool) (l n : ℕ) (v : View) (a : Act) → (full && wants_room (join_of v) a) ≡ false → SoundView v → FineBlock (Of n a)
    → Both full n (act l n (room_flag false) v a) (join_of v) a
unfolding joins_if says_if
plainly full l n v a e s f = record { agrees = rw e (act_joins l n n v a s f); speaks = rw e (act_says l n v s a) }

-- a Create that finds no room
declined_full : (l n pri : ℕ) → Both true n (act l n (room_flag true) Shut (Create true pri)) Off (Create true pri)
unfolding act opening joins_if says_if brought_by once
declined_full l n pri = record { agrees = record { stands = refl; brings = refl; sound = tt }; speaks = record { answers = refl; replies = refl; hands = refl } }

pub act_both :
    (full : Bool) (l n : ℕ) (v : View) (a : Act) → SoundView v → FineBlock (Of n a)
    → Both full n (act l n (room_flag full) v a) (join_of v) a
unfolding act
act_both false l n v a s f = plainly false l n v a refl s f
act_both true l n Shut BadCreate s f = plainly true l n Shut BadCreate refl s f
act_both true l n Shut (Create true pri) s f = declined_full l n pri
act_both true l n Shut (Create false pri) s f = plainly true l n Shut (Create false pri) refl s f
act_both true l n Shut (Bring offer block) s f = plainly true l n Shut (Bring offer block) refl s f
act_both true l n Shut (Garbled why) s f = plainly true l n Shut (Garbled why) refl s f
act_both true l n Shut Closing s f = plainly true l n Shut Closing refl s f
act_both true l n Shut LocalClose s f = plainly true l n Shut LocalClose refl s f
act_both true l n (Open r part) BadCreate s f = plainly true l n (Open r part) BadCreate (open_wants r.stage part true BadCreate) s f
act_both true l n (Open r part) (Create listed pri) s f = plainly true l n (Open r part) (Create listed pri) (open_wants r.stage part true (Create listed pri)) s f
act_both true l n (Open r part) (Bring offer block) s f = plainly true l n (Open r part) (Bring offer block) (open_wants r.stage part true (Bring offer block)) s f
act_both true l n (Open r part) (Garbled why) s f = plainly true l n (Open r part) (Garbled why) (open_wants r.stage part true (Garbled why)) s f
act_both true l n (Open r part) Closing s f = plainly true l n (Open r part) Closing (open_wants r.stage part true Closing) s f
act_both true l n (Open r part) LocalClose s f = plainly true l n (Open r part) LocalClose (open_wants r.stage part true LocalClose) s f

-- what is brought, and that it is handed up once, is all of what is handed up
kind_of : Brings → ℕ
kind_of NoMessage = 0
kind_of (StillToCome left) = 1
kind_of (Complete message) = 2

none_up : (up : List (List ℕ)) → length up ≡ 0 → up ≡ []
none_up [] e = refl
none_up (m ∷ up) e = absurd (omega arith)

whole_of : (a : Answer) (m : List ℕ) (up : List (List ℕ)) (b : List ℕ) → brought_by a (m ∷ up) ≡ Complete b → m ≡ b
unfolding brought_by
whole_of (Ready level) m up b e = cc
whole_of (Opened n) m up b e = cc
whole_of (Declined n why) m up b e = cc
whole_of (Held n left) m up b e = cc
whole_of (Message n len) m up b e = cc
whole_of (Closed n) m up b e = cc
whole_of (Ignored n) m up b e = cc
whole_of (Refused why concern) m up b e = cc

all_up : (a : Answer) (up : List (List ℕ)) (b : Brings) → brought_by a up ≡ b → length up ≡ once b → up ≡ hands_up b
unfolding once hands_up
all_up a up NoMessage e h = none_up up h
all_up a up (StillToCome left) e h = none_up up h
all_up a [] (Complete b) e h = absurd (omega arith)
all_up a (m ∷ up) (Complete b) e h = let r : up ≡ [] = none_up up (omega arith) in let q : m ≡ b = whole_of a m up b e in cc

pub act_told :
    (full : Bool) (l n : ℕ) (v : View) (a : Act) → SoundView v → FineBlock (Of n a)
    → told_by (act l n (room_flag full) v a) ≡ told_if full n (join_of v) a
unfolding told_if
act_told full l n v a s f =
    let b = act_both full l n v a s f in
    same_told b.speaks.answers b.speaks.replies (all_up _ _ (joins_if full (join_of v) a).brings b.agrees.brings b.speaks.hands)

-- ---- a channel's own events, alone, with their flags

pub run_told :
    (l : ℕ) (v : View) (is : List (Input Event Bool)) → AllFine (events_in is) → SoundView v
    → alone_outs (chan_next l) (chan_out l) v is ≡ told_with (join_of v) (events_in is) (flags_in is)
unfolding told_with
run_told l v [] f s = refl
run_told l v (i ∷ is) f s = go i.event i.flag f.0 (λ w t. run_told l w is f.1 t)
  where
    go :
        (e : Event) (full : Bool) → FineBlock e
        → ((w : View) → SoundView w → alone_outs (chan_next l) (chan_out l) w is ≡ told_with (join_of w) (events_in is) (flags_in is))
        → chan_out l full v e ∷ alone_outs (chan_next l) (chan_out l) (chan_next l full v e) is ≡ told_with (join_of v) (e ∷ events_in is) (full ∷ flags_in is)
    go (Unreadable why) full z later = ap (λ (r : List Told). tells_none (Refused why None) ∷ r) (later v s)
    go (Capabilities version) full z later = ap (λ (r : List Told). tells_none (Refused WrongTime None) ∷ r) (later v s)
    go (Of n a) full z later =
        let b = act_both full l n v a s z in
        let rest = later (act l n (room_flag full) v a).view b.agrees.sound in
        rw (act_told full l n v a s z, rest, b.agrees.stands)

-- and where they leave it
abbrev pub left_with : ℕ → View → List Event → List Bool → View
left_with l v [] fs = v
left_with l v (e ∷ es) fs = left_with l (chan_next l (flag fs) v e) es (flags fs)

pub run_left :
    (l : ℕ) (v : View) (is : List (Input Event Bool)) → alone_final (chan_next l) v is ≡ left_with l v (events_in is) (flags_in is)
run_left l v [] = refl
run_left l v (i ∷ is) = run_left l (chan_next l i.flag v i.event) is

-- what the steps say brings what the joining brings
block_brings : (n : ℕ) (why : Refusal) (b : Brings) → brought_by (answered n why b) (hands_up b) ≡ b
unfolding brought_by answered hands_up
block_brings n why NoMessage = refl
block_brings n why (StillToCome left) = refl
block_brings n why (Complete message) = refl

act_brings : (n : ℕ) (j : Join) (a : Act) → brought (told_if false n j a) ≡ (joins j a).brings
unfolding told_if says_if joins_if step_says joins brought_by hands_up
act_brings n Off BadCreate = refl
act_brings n Off (Create true pri) = refl
act_brings n Off (Create false pri) = refl
act_brings n Off (Bring offer block) = block_brings n (why_not Off offer) (joins Off (Bring offer block)).brings
act_brings n Off (Garbled why) = refl
act_brings n Off Closing = refl
act_brings n Off LocalClose = refl
act_brings n Waiting BadCreate = refl
act_brings n Waiting (Create listed pri) = refl
act_brings n Waiting (Bring offer block) = block_brings n (why_not Waiting offer) (joins Waiting (Bring offer block)).brings
act_brings n Waiting (Garbled why) = refl
act_brings n Waiting Closing = refl
act_brings n Waiting LocalClose = refl
act_brings n (Gathering wanted got) BadCreate = refl
act_brings n (Gathering wanted got) (Create listed pri) = refl
act_brings n (Gathering wanted got) (Bring offer block) = block_brings n (why_not (Gathering wanted got) offer) (joins (Gathering wanted got) (Bring offer block)).brings
act_brings n (Gathering wanted got) (Garbled why) = refl
act_brings n (Gathering wanted got) Closing = refl
act_brings n (Gathering wanted got) LocalClose = refl
act_brings n Dead BadCreate = refl
act_brings n Dead (Create listed pri) = refl
act_brings n Dead (Bring offer block) = block_brings n (why_not Dead offer) (joins Dead (Bring offer block)).brings
act_brings n Dead (Garbled why) = refl
act_brings n Dead Closing = refl
act_brings n Dead LocalClose = refl

pub hands_once : (b : Brings) → length (hands_up b) ≡ once b
unfolding hands_up once
hands_once NoMessage = refl
hands_once (StillToCome left) = refl
hands_once (Complete message) = refl

-- what it is told brings what the joining with flags brings
pub told_brings : (n : ℕ) (full : Bool) (j : Join) (a : Act) → brought (told_if full n j a) ≡ (joins_if full j a).brings
unfolding told_if says_if joins_if brought_by hands_up
told_brings n full j a = go (full && wants_room j a)
  where
    go :
        (t : Bool)
        → brought_by (cond t (says (Declined n Full) (create_response_bytes n FULL)) (step_says n j a)).answer (hands_up (cond t (still Off) (joins j a)).brings) ≡ (cond t (still Off) (joins j a)).brings
    go true = refl
    go false = act_brings n j a

pub with_brings : (j : Join) (es : List Event) (fs : List Bool) → map brought (told_with j es fs) ≡ join_with j es fs
unfolding told_with join_with brought_by
with_brings j [] fs = refl
with_brings j (Unreadable why ∷ es) fs = ap (λ (r : List Brings). NoMessage ∷ r) (with_brings j es (flags fs))
with_brings j (Capabilities version ∷ es) fs = ap (λ (r : List Brings). NoMessage ∷ r) (with_brings j es (flags fs))
with_brings j (Of n a ∷ es) fs = rw (told_brings n (flag fs) j a, with_brings (joins_if (flag fs) j a).join es (flags fs))

-- and hands up each message once
pub with_once : (j : Join) (es : List Event) (fs : List Bool) → map handed (told_with j es fs) ≡ map once (join_with j es fs)
unfolding told_with join_with told_if once
with_once j [] fs = refl
with_once j (Unreadable why ∷ es) fs = ap (λ (r : List ℕ). 0 ∷ r) (with_once j es (flags fs))
with_once j (Capabilities version ∷ es) fs = ap (λ (r : List ℕ). 0 ∷ r) (with_once j es (flags fs))
with_once j (Of n a ∷ es) fs = rw (hands_once (joins_if (flag fs) j a).brings, with_once (joins_if (flag fs) j a).join es (flags fs))

-- flags that are all false are none
pub unflagged : {X : Type 0} (xs : List X) (j : Join) (es : List Event) → told_with j es (map (λ (x : X). false) xs) ≡ told_with j es []
unfolding told_with
unflagged [] j es = refl
unflagged (x ∷ xs) j [] = refl
unflagged (x ∷ xs) j (Unreadable why ∷ es) = ap (λ (r : List Told). tells_none (Refused why None) ∷ r) (unflagged xs j es)
unflagged (x ∷ xs) j (Capabilities version ∷ es) = ap (λ (r : List Told). tells_none (Refused WrongTime None) ∷ r) (unflagged xs j es)
unflagged (x ∷ xs) j (Of n a ∷ es) = ap (λ (r : List Told). told_if false n j a ∷ r) (unflagged xs (joins_if false j a).join es)
