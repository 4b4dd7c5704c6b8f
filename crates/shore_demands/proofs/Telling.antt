-- One number's rules tell what `told_alone` says, and stand where `links` says: the joining is the client's, cited and not shown anew.
-- Assumes nothing.
use Rattle.std.specs.Prelude.{Option, None, Some}
use mathlib.Core.Path.{◌≡◌, refl, ap, ◌∙◌}
use mathlib.Core.Logic.{⊎_elim}
use mathlib.Core.Bool.{Bool, true, false, cond}
use mathlib.Core.List.{List, [], ◌∷◌, map}
use Prim.Native.Nat.{ℕ, ◌≤◌, ◌<◌}
use lib.ListN.{length}
use lib.IntN.{ℤ}
use Rattle.paper.specs.Sizes.{PART, PDU_MAX}
use Rattle.paper.specs.declared.Refusal.{Refusal}
use Rattle.paper.specs.declared.Refusal.TheVariants.{TooLong}
use Rattle.lists.proofs.Cases.{lt_or_le}
use Rattle.lists.proofs.Laid.{length_zeros}
use Rattle.reading.specs.Reading.{read_pdu}
use Rattle.reading.specs.Garbled.{carries}
use Rattle.reading.specs.declared.Pdu.{Pdu}
use Rattle.reading.specs.declared.Pdu.TheVariants.{CreateRequest, CreateResponse, DataFirst, Data, Close, CapsRequest, CapsResponse}
use Rattle.reading.specs.declared.Pdu.TheVariants.{Refused as Unread}
use Rattle.reading.proofs.Placed.{Placed, placed}
use Rattle.channel.specs.declared.Record.{Record}
use Rattle.channel.specs.declared.Answer.{Answer}
use Rattle.channel.specs.declared.Answer.TheVariants as client
use Rattle.channel.specs.Channel.{Act, BadCreate, Create, Bring, Garbled, Closing, LocalClose, View, Shut, Open, NoRoom, restaged, landed, act}
use Rattle.channel.specs.Channel.{opening as openings}
use Rattle.table.specs.Sound.{good_stage}
use Rattle.client.specs.Events as theirs
use Rattle.shore.specs.declared.Said.TheVariants.{Opened, Declined}
use Rattle.shore.specs.Saying.{said_as}
use Rattle.shore.specs.Rules.{Deed, Answered, Acts, Does, does, is_below_zero, awaited_record, settled_record, settled, unawaited, sent_for, common, asks}
use Rattle.shore.specs.Rules.{deed}
use Rattle.shore.specs.Events.{Event, Unreadable, Asking, Response, Opening, Of, unread, event_of}
use Rattle.demands.specs.Runs as runs
use Rattle.demands.specs.Joining as joining
use Rattle.demands.specs.Joining.{Join, Off, Waiting, Gathering, Dead, NoMessage, joins, joins_if, once}
use Rattle.demands.specs.Telling.{step_says, says_if, hands_up, told_if}
use Rattle.demands.proofs.Traces.{Input, events_in, alone_final, alone_outs}
use Rattle.demands.proofs.Machine as machine
use Rattle.demands.proofs.Joined.{join_at, join_of, SoundView, FineBlock, block_fits, long_unread}
use Rattle.demands.proofs.Telling.{act_both, act_told, told_brings, hands_once}
use Rattle.shore_demands.specs.Runs.{Entry, requests, receives, opens, closes, Told, event_in}
use Rattle.shore_demands.specs.Alone.{Link, Awaits, As, links_act, links, link_all, tells, join_for, sent_alone, says_alone, told_alone, brought_by, brought}
use Rattle.shore_demands.specs.Alone.{handed}
use Rattle.shore_demands.proofs.Machine.{up_said, told_by, same_told, plain, next_in, told_in, chan_next, chan_out}

-- ---- where a view stands

-- awaited, or where its joining stands
abbrev pub link_of : View → Link
link_of Shut = As Off
link_of (Open r part) = cond r.awaited Awaits (As (join_at r.stage part))

-- whether it is awaited
abbrev pub marked : View → Bool
marked Shut = false
marked (Open r part) = r.awaited

-- a number that is not awaited is where its joining stands
link_open : (v : View) → marked v ≡ false → link_of v ≡ As (join_of v)
link_open Shut h = refl
link_open (Open r part) h = rw h

-- the common rules mark none
pub act_unmarked : (l n : ℕ) (v : View) (a : Act) → marked v ≡ false → marked (act l n NoRoom v a).view ≡ false
unfolding act openings restaged landed
act_unmarked l n v BadCreate h = h
act_unmarked l n Shut (Create true pri) h = refl
act_unmarked l n Shut (Create false pri) h = refl
act_unmarked l n (Open r b) (Create listed pri) h = h
act_unmarked l n Shut (Bring offer bytes) h = refl
act_unmarked l n (Open r b) (Bring offer bytes) h = h
act_unmarked l n Shut (Garbled why) h = refl
act_unmarked l n (Open r b) (Garbled why) h = h
act_unmarked l n Shut Closing h = refl
act_unmarked l n (Open r b) Closing h = refl
act_unmarked l n Shut LocalClose h = refl
act_unmarked l n (Open r b) LocalClose h = refl

-- ---- one event

-- what reading makes sure of a block
abbrev pub FineBlocks : Event → Type 0
FineBlocks (Unreadable why) = Unit {0}
FineBlocks (Asking version charges) = Unit {0}
FineBlocks (Response version) = Unit {0}
FineBlocks (Opening name class) = Unit {0}
FineBlocks (Of n (Answered status)) = Unit {0}
FineBlocks (Of n (Acts a)) = FineBlock (theirs.Of n a)

-- what is done is what the number alone should be told, and it stands there
record Says (d : Does) (t : Told) (k : Link) : Type 0 where
  pub told : told_by d ≡ t
  pub stands : link_of d.view ≡ k
  pub sound : SoundView d.view

-- what the client end is told, told at this end
abbrev pub retold : Act → runs.Told → Told
retold a t = record { said = said_as t.answer; sent = sent_for a t.reply; message = t.message }

-- an open number, or one that is not: the client's joining
plain_says :
    (l n m : ℕ) (v : View) (a : Act) → marked v ≡ false → SoundView v → FineBlock (theirs.Of m a)
    → Says (common Shut a (act l n NoRoom v a)) (retold a (told_if true n (join_of v) a)) (As (joins_if true (join_of v) a).join)
unfolding common
plain_says l n m v a h s f =
    let d = act l n NoRoom v a in
    let b = act_both true l n v a s f in
    record {
      told = same_told refl refl (up_said d.view d.answer) ∙ ap (retold a) (act_told true l n v a s f);
      stands = link_open d.view (act_unmarked l n v a h) ∙ ap As b.agrees.stands;
      sound = b.agrees.sound;
    }

-- a number that is not open hands nothing up
none_up : (l n : ℕ) (w : View) (a : Act) → let d = act l n NoRoom Shut a in machine.up w d.answer ≡ machine.up d.view d.answer
unfolding act openings
none_up l n w BadCreate = refl
none_up l n w (Create true pri) = refl
none_up l n w (Create false pri) = refl
none_up l n w (Bring offer bytes) = refl
none_up l n w (Garbled why) = refl
none_up l n w Closing = refl
none_up l n w LocalClose = refl

-- an awaited number: told as one that is not open, and it stays
awaited_says :
    (l n m : ℕ) (w : View) (a : Act) → link_of w ≡ Awaits → SoundView w → FineBlock (theirs.Of m a)
    → let d = act l n NoRoom Shut a in Says (does w (said_as d.answer) (sent_for a d.reply)) (retold a (told_if true n Off a)) Awaits
awaited_says l n m w a h s f =
    let d = act l n NoRoom Shut a in
    record {
      told = same_told refl refl (up_said w d.answer ∙ none_up l n w a) ∙ ap (retold a) (act_told true l n Shut a tt f);
      stands = h;
      sound = s;
    }

-- only a local close of an open number sends
sent_alone_law : (n : ℕ) (j : Join) (a : Act) → sent_for a (says_if true n j a).reply ≡ sent_alone n j a
unfolding says_if step_says
sent_alone_law n j BadCreate = refl
sent_alone_law n j (Create listed pri) = refl
sent_alone_law n j (Bring offer bytes) = refl
sent_alone_law n j (Garbled why) = refl
sent_alone_law n j Closing = refl
sent_alone_law n Off LocalClose = refl
sent_alone_law n Waiting LocalClose = refl
sent_alone_law n (Gathering wanted got) LocalClose = refl
sent_alone_law n Dead LocalClose = refl

-- what is told at this end, with what is sent by itself
abbrev told_as : ℕ → Join → Act → Told
told_as n j a =
    record { said = said_as (says_if true n j a).answer; sent = sent_alone n j a; message = hands_up (joins_if true j a).brings }

sharper : (n : ℕ) (j : Join) (a : Act) (d : Does) (k : Link) → Says d (retold a (told_if true n j a)) k → Says d (told_as n j a) k
unfolding told_if
sharper n j a d k z = record { told = z.told ∙ same_told refl (sent_alone_law n j a) refl; stands = z.stands; sound = z.sound }

-- a Create response
settled_says :
    (l n m : ℕ) (r : Record) (part : List ℕ) (status : ℤ) → SoundView (Open r part)
    → Says (settled n r part status) (says_alone l n Awaits (Of m (Answered status))) (links Awaits (Of m (Answered status))).link
unfolding settled settled_record says_alone links good_stage
settled_says l n m r part status s = go (is_below_zero status)
  where
    go :
        (t : Bool)
        → Says (cond t (does Shut (Declined n) []) (does (Open (settled_record r) part) (Opened n) [])) (tells (cond t (Declined n) (Opened n)) [])
        (cond t (As Off) (As Waiting))
    go true = record { told = refl; stands = refl; sound = tt }
    go false = record { told = refl; stands = refl; sound = (s.0, refl) }

-- one for a number not awaited
unawaited_says : (l n m : ℕ) (v : View) (j : Join) (status : ℤ) → link_of v ≡ As j → SoundView v
    → Says (unawaited n v) (says_alone l n (As j) (Of m (Answered status))) (links (As j) (Of m (Answered status))).link
unfolding says_alone links
unawaited_says l n m v j status h s = record { told = refl; stands = h; sound = s }

-- every deed
deed_says :
    (l n m : ℕ) (v : View) (d : Deed) → SoundView v → FineBlocks (Of m d)
    → Says (deed l n v d) (says_alone l n (link_of v) (Of m d)) (links (link_of v) (Of m d)).link
unfolding deed common says_alone links
deed_says l n m Shut (Answered status) s f = unawaited_says l n m Shut Off status refl tt
deed_says l n m (Open r part) (Answered status) s f = go r.awaited refl
  where
    go :
        (t : Bool) → r.awaited ≡ t
        → Says (cond t (settled n r part status) (unawaited n (Open r part)))
        (says_alone l n (cond t Awaits (As (join_at r.stage part))) (Of m (Answered status)))
        (links (cond t Awaits (As (join_at r.stage part))) (Of m (Answered status))).link
    go true e = settled_says l n m r part status s
    go false e = unawaited_says l n m (Open r part) (join_at r.stage part) status (link_open (Open r part) e) s
deed_says l n m Shut (Acts a) s f = sharper n Off a _ _ (plain_says l n m Shut a refl s f)
deed_says l n m (Open r part) (Acts a) s f = go r.awaited refl
  where
    went : Bool → Does
    went t =
        let d = act l n NoRoom (cond t Shut (Open r part)) a in
        does (cond t (Open r part) d.view) (said_as d.answer) (sent_for a d.reply)

    at : Bool → Link
    at t = cond t Awaits (As (join_at r.stage part))

    go : (t : Bool) → r.awaited ≡ t → Says (went t) (says_alone l n (at t) (Of m (Acts a))) (links (at t) (Of m (Acts a))).link
    go true e = sharper n Off a _ _ (awaited_says l n m (Open r part) a (rw e) s f)
    go false e = sharper n (join_at r.stage part) a _ _ (plain_says l n m (Open r part) a e s f)

-- every event of the number
event_says :
    (l n : ℕ) (v : View) (e : Event) → SoundView v → FineBlocks e
    → (told_in n (plain l) v e ≡ says_alone l n (link_of v) e)
    × ((link_of (next_in n (plain l) v e) ≡ (links (link_of v) e).link) × SoundView (next_in n (plain l) v e))
unfolding says_alone links asks awaited_record good_stage
event_says l n v (Unreadable why) s f = (refl, (refl, s))
event_says l n v (Asking version charges) s f = (refl, (refl, s))
event_says l n v (Response version) s f = (refl, (refl, s))
event_says l n v (Opening name class) s f = (refl, (refl, (length_zeros PART, refl)))
event_says l n v (Of m d) s f = let z = deed_says l n m v d s f in (z.told, (z.stands, z.sound))

-- ---- a number's own events, alone

-- their blocks are as reading makes them
abbrev pub AllFine : List Event → Type 0
AllFine [] = Unit {0}
AllFine (e ∷ es) = FineBlocks e × AllFine es

-- they are told what the number alone should be told
pub run_told :
    (l n : ℕ) (v : View) (is : List (Input Event (Unit {0}))) → AllFine (events_in is) → SoundView v
    → alone_outs (chan_next l n) (chan_out l n) v is ≡ told_alone l n (link_of v) (events_in is)
unfolding told_alone
run_told l n v [] f s = refl
run_told l n v (i ∷ is) f s =
    let z = event_says l n v i.event s f.0 in
    rw (run_told l n (next_in n (plain l) v i.event) is f.1 z.1.1, z.0, z.1.0)

-- and where they leave it
abbrev pub left_alone : ℕ → ℕ → View → List Event → View
left_alone l n v [] = v
left_alone l n v (e ∷ es) = left_alone l n (next_in n (plain l) v e) es

pub run_left : (l n : ℕ) (v : View) (is : List (Input Event (Unit {0}))) → alone_final (chan_next l n) v is ≡ left_alone l n v (events_in is)
run_left l n v [] = refl
run_left l n v (i ∷ is) = run_left l n (next_in n (plain l) v i.event) is

-- ---- what is told brings what the joining brings

-- what the common rules answer brings the same at this end
said_brings : (a : Answer) (ups : List (List ℕ)) → brought_by (said_as a) ups ≡ joining.brought_by a ups
unfolding said_as brought_by joining.brought_by
said_brings (client.Ready level) ups = refl
said_brings (client.Opened n) ups = refl
said_brings (client.Declined n why) ups = refl
said_brings (client.Held n left) ups = refl
said_brings (client.Message n len) [] = refl
said_brings (client.Message n len) (m ∷ ups) = refl
said_brings (client.Closed n) ups = refl
said_brings (client.Ignored n) ups = refl
said_brings (client.Refused why concern) ups = refl

-- a number that is not open brings nothing
off_brings : (a : Act) → (joins_if true Off a).brings ≡ NoMessage
unfolding joins_if joins
off_brings BadCreate = refl
off_brings (Create true pri) = refl
off_brings (Create false pri) = refl
off_brings (Bring offer block) = refl
off_brings (Garbled why) = refl
off_brings Closing = refl
off_brings LocalClose = refl

-- an awaited one neither
link_brings : (k : Link) (a : Act) → (joins_if true (join_for k) a).brings ≡ (links_act k a).brings
link_brings Awaits a = off_brings a
link_brings (As j) a = refl

-- nor does the answer to a Create response
answer_brings : (t : Bool) (n : ℕ) → brought_by (cond t (Declined n) (Opened n)) [] ≡ NoMessage
unfolding brought_by
answer_brings true n = refl
answer_brings false n = refl

-- one event: what it brings, and that it is handed up once
says_brings : (l n : ℕ) (k : Link) (e : Event) → brought (says_alone l n k e) ≡ (links k e).brings
unfolding says_alone links brought_by told_if
says_brings l n k (Unreadable why) = refl
says_brings l n k (Asking version charges) = refl
says_brings l n k (Response version) = refl
says_brings l n k (Opening name class) = refl
says_brings l n Awaits (Of m (Answered status)) = answer_brings (is_below_zero status) n
says_brings l n (As j) (Of m (Answered status)) = refl
says_brings l n k (Of m (Acts a)) =
    said_brings (says_if true n (join_for k) a).answer (hands_up (joins_if true (join_for k) a).brings)
    ∙ told_brings n true (join_for k) a ∙ link_brings k a

says_once : (l n : ℕ) (k : Link) (e : Event) → handed (says_alone l n k e) ≡ once (links k e).brings
unfolding says_alone links once
says_once l n k (Unreadable why) = refl
says_once l n k (Asking version charges) = refl
says_once l n k (Response version) = refl
says_once l n k (Opening name class) = refl
says_once l n Awaits (Of m (Answered status)) = refl
says_once l n (As j) (Of m (Answered status)) = refl
says_once l n k (Of m (Acts a)) = hands_once (joins_if true (join_for k) a).brings ∙ ap once (link_brings k a)

-- all of them
pub alone_brings : (l n : ℕ) (k : Link) (es : List Event) → map brought (told_alone l n k es) ≡ link_all k es
unfolding told_alone link_all
alone_brings l n k [] = refl
alone_brings l n k (e ∷ es) = rw (says_brings l n k e, alone_brings l n (links k e).link es)

pub alone_once : (l n : ℕ) (k : Link) (es : List Event) → map handed (told_alone l n k es) ≡ map once (link_all k es)
unfolding told_alone link_all
alone_once l n k [] = refl
alone_once l n k (e ∷ es) = rw (says_once l n k e, alone_once l n (links k e).link es)

-- ---- what is read in a PDU

-- a PDU that is refused
unread_blocks : (why : Refusal) (carried : Option ℕ) → FineBlocks (unread why carried)
unfolding unread
unread_blocks why None = tt
unread_blocks why (Some n) = tt

-- a PDU that is not too long
short_blocks : (pdu : List ℕ) → length pdu ≤ PDU_MAX → (p : Pdu) → Placed pdu p → FineBlocks (event_of pdu p)
unfolding event_of
short_blocks pdu k (CreateRequest n class name) h = tt
short_blocks pdu k (CreateResponse n status) h = tt
short_blocks pdu k (DataFirst n len block) h = block_fits pdu block h k
short_blocks pdu k (Data n block) h = block_fits pdu block h k
short_blocks pdu k (Close n) h = tt
short_blocks pdu k (CapsRequest version charges) h = tt
short_blocks pdu k (CapsResponse version) h = tt
short_blocks pdu k (Unread why) h = unread_blocks why (carries pdu)

-- one that is
long_block : (pdu : List ℕ) → FineBlocks (event_of pdu (Unread TooLong))
unfolding event_of
long_block pdu = unread_blocks TooLong (carries pdu)

-- each PDU
read_blocks : (pdu : List ℕ) → FineBlocks (event_of pdu (read_pdu false pdu))
read_blocks pdu =
    ⊎_elim
    (λ (h : PDU_MAX < length pdu). rw (long_unread false pdu h) (long_block pdu))
    (λ (h : length pdu ≤ PDU_MAX). short_blocks pdu h (read_pdu false pdu) (placed pdu false))
    (lt_or_le PDU_MAX (length pdu))

-- each call
pub call_blocks : (a : Entry) → FineBlocks (event_in a)
unfolding event_in
call_blocks (requests version charges) = tt
call_blocks (receives pdu) = read_blocks pdu
call_blocks (opens name class) = tt
call_blocks (closes n) = tt
