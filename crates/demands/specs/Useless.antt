-- Managers that nobody would want, as values of the record: the paper's five, three more (6 to 8), and eight that are
-- wrong only at times (9 to 16). All but the first two are a manager that has both demands and minds no stranger,
-- `right`, with one thing made wrong.
use Rattle.std.specs.Prelude.{ℕ, ◌≡◌, Bool, true, false, cond, List, [], ◌∷◌, eqb, length, None}
use Rattle.paper.specs.declared.Refusal.{Refusal}
use Rattle.lists.specs.Bytes.{zeros}
use Rattle.channel.specs.declared.Decline.TheVariants.{Unlisted, Full}
use Rattle.channel.specs.declared.Answer.{Answer}
use Rattle.channel.specs.declared.Answer.TheVariants.{Ready, Opened, Declined, Held, Message, Closed, Ignored, Refused}
use Rattle.channel.specs.Channel.{Act, BadCreate, Create, Bring, Garbled, Closing, LocalClose}
use Rattle.connection.specs.States.{State}
use Rattle.client.specs.Events.{Event, Unreadable, Capabilities, Of}
use Rattle.client.specs.Client.{stepped}
use Rattle.demands.specs.Runs.{Call, Told, event_in, event_meets_full}
use Rattle.demands.specs.Joining.{Join, Off, Waiting, Gathering, Dead}
use Rattle.demands.specs.Telling.{tells_none}
use Rattle.demands.specs.Managers.{Manager, Stand, put, all_off, Sight, at_start, sight_next, sight_told}
use Rattle.demands.specs.Managers.{paper_start, Demand2Of, Demand3Of, StrangersOf}

-- ---- answers by their kind

-- a refusal or a decline
abbrev pub is_no : Answer → Bool
is_no (Ready level) = false
is_no (Opened n) = false
is_no (Declined n why) = true
is_no (Held n left) = false
is_no (Message n len) = false
is_no (Closed n) = false
is_no (Ignored n) = false
is_no (Refused why concern) = true

-- a message
abbrev pub is_message : Answer → Bool
is_message (Ready level) = false
is_message (Opened n) = false
is_message (Declined n why) = false
is_message (Held n left) = false
is_message (Message n len) = true
is_message (Closed n) = false
is_message (Ignored n) = false
is_message (Refused why concern) = false

-- a count still to come
abbrev pub is_held : Answer → Bool
is_held (Ready level) = false
is_held (Opened n) = false
is_held (Declined n why) = false
is_held (Held n left) = true
is_held (Message n len) = false
is_held (Closed n) = false
is_held (Ignored n) = false
is_held (Refused why concern) = false

-- declined, full
abbrev pub is_full : Answer → Bool
is_full (Ready level) = false
is_full (Opened n) = false
is_full (Declined n Unlisted) = false
is_full (Declined n Full) = true
is_full (Held n left) = false
is_full (Message n len) = false
is_full (Closed n) = false
is_full (Ignored n) = false
is_full (Refused why concern) = false

-- ---- 1: it refuses or declines everything

-- any manager that never answers otherwise
abbrev pub OnlyNo : {S : Type 0} → Manager S → Type 0
OnlyNo {S} m = (s : S) (c : Call) → is_no (m.tells s c).answer ≡ true

unfoldable pub refuses_all : Refusal → Manager (Unit {0})
refuses_all why =
    record { begin = tt; again = λ s. s; next = λ s c. s; tells = λ s c. tells_none (Refused why None) }

-- ---- 2: it gives one fixed answer

-- any manager whose answer is always this one, whatever it replies and hands up
abbrev pub Always : {S : Type 0} → Manager S → Answer → Type 0
Always {S} m a = (s : S) (c : Call) → (m.tells s c).answer ≡ a

unfoldable pub fixed : Told → Manager (Unit {0})
fixed t = record { begin = tt; again = λ s. s; next = λ s c. s; tells = λ s c. t }

-- ---- the manager from which the others are made

-- what a manager keeps, beside the paper's steps on the events so far
pub record Beside (S : Type 0) : Type 0 where
  pub paper : State
  pub kept : S

abbrev pub fresh : {S : Type 0} → S → Beside S
fresh s = record { paper = paper_start; kept = s }

unfoldable pub beside_next : {S : Type 0} → (Bool → S → Event → S) → Beside S → Event → Beside S
beside_next next b e =
    record { paper = (stepped b.paper e).state; kept = next (event_meets_full b.paper e) b.kept e }

unfoldable pub beside_told : {S : Type 0} → (Bool → S → Event → Told) → Beside S → Event → Told
beside_told tells b e = tells (event_meets_full b.paper e) b.kept e

-- a manager by what it does with an event and with whether that met a full table. A new Start begins it anew
unfoldable pub manager_by : {S : Type 0} → S → (Bool → S → Event → S) → (Bool → S → Event → Told) → Manager (Beside S)
manager_by s next tells =
    record {
      begin = fresh s;
      again = λ b. fresh s;
      next = λ b c. beside_next next b (event_in c.asked);
      tells = λ b c. beside_told tells b (event_in c.asked);
    }

-- as it should be
unfoldable pub right : Manager (Beside Sight)
right = manager_by at_start sight_next sight_told

-- the same with a memory M of what it told, that spoils what it tells
pub record With (M : Type 0) : Type 0 where
  pub sight : Sight
  pub memory : M

unfoldable pub warp_next : {M : Type 0} → (M → Event → Told → M) → Bool → With M → Event → With M
warp_next remember full w e =
    record { sight = sight_next full w.sight e; memory = remember w.memory e (sight_told full w.sight e) }

unfoldable pub warp_told : {M : Type 0} → (M → Event → Told → Told) → Bool → With M → Event → Told
warp_told spoil full w e = spoil w.memory e (sight_told full w.sight e)

unfoldable pub warped :
    {M : Type 0} → M → (M → Event → Told → M) → (M → Event → Told → Told) → Manager (Beside (With M))
warped m remember spoil = manager_by (record { sight = at_start; memory = m }) (warp_next remember) (warp_told spoil)

-- the same with nothing to remember
abbrev pub forget : Unit {0} → Event → Told → Unit {0}
forget m e t = m

abbrev pub always : (Event → Told → Told) → Unit {0} → Event → Told → Told
always spoil m e t = spoil e t

unfoldable pub respelled : (Event → Told → Told) → Manager (Beside (With (Unit {0})))
respelled spoil = warped tt forget (always spoil)

-- the same with a mark, set by an answer of a kind, from which on it spoils
abbrev pub noted : (Answer → Bool) → Bool → Event → Told → Bool
noted sets was e t = cond (sets t.answer) true was

abbrev pub from_then : (Told → Told) → Bool → Event → Told → Told
from_then spoil was e t = cond was (spoil t) t

unfoldable pub spoils_after : (Answer → Bool) → (Told → Told) → Manager (Beside (With Bool))
spoils_after sets spoil = warped false (noted sets) (from_then spoil)

-- ---- 3: it never stores, so that what it hands up are zeros

abbrev pub blanked : List (List ℕ) → List (List ℕ)
blanked [] = []
blanked (message ∷ rest) = zeros (length message) ∷ blanked rest

abbrev pub blank_told : Told → Told
blank_told t = record { answer = t.answer; reply = t.reply; message = blanked t.message }

unfoldable pub storeless : Manager (Beside (With (Unit {0})))
storeless = respelled (λ e t. blank_told t)

-- ---- 4: it joins the first message properly, and later only reports lengths

unfoldable pub first_only : Manager (Beside (With Bool))
first_only = spoils_after is_message blank_told

-- ---- 5: its count still to come is invented

abbrev pub recounted : ℕ → Answer → Answer
recounted count (Ready level) = Ready level
recounted count (Opened n) = Opened n
recounted count (Declined n why) = Declined n why
recounted count (Held n left) = Held n count
recounted count (Message n len) = Message n len
recounted count (Closed n) = Closed n
recounted count (Ignored n) = Ignored n
recounted count (Refused why concern) = Refused why concern

abbrev pub recount_told : ℕ → Told → Told
recount_told count t = record { answer = recounted count t.answer; reply = t.reply; message = t.message }

unfoldable pub invents : ℕ → Manager (Beside (With (Unit {0})))
invents count = respelled (λ e t. recount_told count t)

-- ---- 6: it hands each message up twice

abbrev pub doubled : List (List ℕ) → List (List ℕ)
doubled [] = []
doubled (message ∷ rest) = message ∷ message ∷ doubled rest

abbrev pub double_told : Told → Told
double_told t = record { answer = t.answer; reply = t.reply; message = doubled t.message }

unfoldable pub twice : Manager (Beside (With (Unit {0})))
twice = respelled (λ e t. double_told t)

-- ---- 7: it keeps a channel's part over a reopening

-- an opening goes on with what was left
abbrev pub reopened : Join → Join → Join
reopened (Gathering wanted got) Waiting = Gathering wanted got
reopened Off j = j
reopened Waiting j = j
reopened Dead j = j
reopened (Gathering wanted got) Off = Off
reopened (Gathering wanted got) (Gathering w g) = Gathering w g
reopened (Gathering wanted got) Dead = Dead

-- what it has in mind: where each number stood when it was closed
unfoldable pub kept_memory : Sight → Stand → Event → Stand
kept_memory had left (Unreadable why) = left
kept_memory had left (Capabilities version) = left
kept_memory had left (Of n BadCreate) = left
kept_memory had left (Of n (Create listed pri)) = put n Off left
kept_memory had left (Of n (Bring offer block)) = left
kept_memory had left (Of n (Garbled why)) = left
kept_memory had left (Of n Closing) = put n (had.stand n) left
kept_memory had left (Of n LocalClose) = put n (had.stand n) left

unfoldable pub kept_stand : Stand → Stand → Event → Stand
kept_stand left now (Unreadable why) = now
kept_stand left now (Capabilities version) = now
kept_stand left now (Of n BadCreate) = now
kept_stand left now (Of n (Create listed pri)) = put n (reopened (left n) (now n)) now
kept_stand left now (Of n (Bring offer block)) = now
kept_stand left now (Of n (Garbled why)) = now
kept_stand left now (Of n Closing) = now
kept_stand left now (Of n LocalClose) = now

unfoldable pub kept_next : Bool → With Stand → Event → With Stand
kept_next full w e =
    record {
      sight = record {
        ready = (sight_next full w.sight e).ready;
        stand = kept_stand w.memory (sight_next full w.sight e).stand e;
      };
      memory = kept_memory w.sight w.memory e;
    }

unfoldable pub keeps : Manager (Beside (With Stand))
keeps = manager_by (record { sight = at_start; memory = all_off }) kept_next (λ full w e. sight_told full w.sight e)

-- ---- 8: an event of one channel changes another's stage: what the others had gathered is lost

abbrev pub lost : Join → Join
lost Off = Off
lost Waiting = Waiting
lost (Gathering wanted got) = Waiting
lost Dead = Dead

unfoldable pub lost_by : Event → Stand → Stand
lost_by (Unreadable why) now = now
lost_by (Capabilities version) now = now
lost_by (Of n a) now = λ m. cond (eqb m n) (now m) (lost (now m))

unfoldable pub disturb_next : Bool → Sight → Event → Sight
disturb_next full s e = record { ready = (sight_next full s e).ready; stand = lost_by e (sight_next full s e).stand }

unfoldable pub disturbs : Manager (Beside Sight)
disturbs = manager_by at_start disturb_next sight_told

-- ---- 9: at every unreadable PDU it hands the last message up again

abbrev pub last_of : List (List ℕ) → List (List ℕ) → List (List ℕ)
last_of old [] = old
last_of old (m ∷ up) = m ∷ up

unfoldable pub replays : List (List ℕ) → Event → Told → Told
replays old (Unreadable why) t = record { answer = t.answer; reply = t.reply; message = old }
replays old (Capabilities version) t = t
replays old (Of n a) t = t

abbrev pub last_told : List (List ℕ) → Event → Told → List (List ℕ)
last_told old e t = last_of old t.message

unfoldable pub replayer : Manager (Beside (With (List (List ℕ))))
replayer = warped [] last_told replays

-- ---- 10: right until a table was full; from then on each message goes up twice

unfoldable pub until_full : Manager (Beside (With Bool))
until_full = spoils_after is_full double_told

-- ---- 11: it never declines for full

unfoldable pub never_declines : Manager (Beside Sight)
never_declines = manager_by at_start (λ full. sight_next false) (λ full. sight_told false)

-- ---- 12: right at first; from the first count on, every count still to come is invented

unfoldable pub invents_later : ℕ → Manager (Beside (With Bool))
invents_later count = spoils_after is_held (recount_told count)

-- ---- 13: it answers a Capabilities request with the server's version and not the smaller of it and 2

abbrev pub releveled : Event → Answer → Answer
releveled (Unreadable why) a = a
releveled (Capabilities version) (Ready level) = Ready version
releveled (Capabilities version) (Opened n) = Opened n
releveled (Capabilities version) (Declined n why) = Declined n why
releveled (Capabilities version) (Held n left) = Held n left
releveled (Capabilities version) (Message n len) = Message n len
releveled (Capabilities version) (Closed n) = Closed n
releveled (Capabilities version) (Ignored n) = Ignored n
releveled (Capabilities version) (Refused why concern) = Refused why concern
releveled (Of n a) b = b

abbrev pub relevel_told : Event → Told → Told
relevel_told e t = record { answer = releveled e t.answer; reply = t.reply; message = t.message }

unfoldable pub wrong_level : Manager (Beside (With (Unit {0})))
wrong_level = respelled relevel_told

-- ---- 14: right from the first Start on; over a new one it keeps what was being gathered

abbrev pub kept_over : Beside Sight → Beside Sight
kept_over b = fresh (record { ready = false; stand = b.kept.stand })

unfoldable pub goes_on_over : Manager (Beside Sight)
goes_on_over = record { begin = right.begin; again = kept_over; next = right.next; tells = right.tells }

-- ---- 15: it forgets a garbled block, as the base did: for it that is a PDU of no channel

abbrev pub forgotten : ℕ → Act → Event
forgotten n BadCreate = Of n BadCreate
forgotten n (Create listed pri) = Of n (Create listed pri)
forgotten n (Bring offer block) = Of n (Bring offer block)
forgotten n (Garbled why) = Unreadable why
forgotten n Closing = Of n Closing
forgotten n LocalClose = Of n LocalClose

abbrev pub as_the_base_did : Event → Event
as_the_base_did (Unreadable why) = Unreadable why
as_the_base_did (Capabilities version) = Capabilities version
as_the_base_did (Of n a) = forgotten n a

unfoldable pub forgets_next : Bool → Sight → Event → Sight
forgets_next full s e = sight_next full s (as_the_base_did e)

unfoldable pub forgets_told : Bool → Sight → Event → Told
forgets_told full s e = sight_told full s (as_the_base_did e)

unfoldable pub forgets : Manager (Beside Sight)
forgets = manager_by at_start forgets_next forgets_told

-- ---- 16: it makes room: a Create that meets a full table is opened, and every other channel is dropped for it

unfoldable pub room_next : Bool → Sight → Event → Sight
room_next full s (Unreadable why) = sight_next false s (Unreadable why)
room_next full s (Capabilities version) = sight_next false s (Capabilities version)
room_next full s (Of n a) =
    cond full (record { ready = true; stand = put n Waiting all_off }) (sight_next false s (Of n a))

unfoldable pub makes_room : Manager (Beside Sight)
makes_room = manager_by at_start room_next (λ full. sight_told false)

-- ---- none has demand 2, and none demand 3 but for those that are wrong only after a full table or in the level,
-- which demand 3 doesn't see: it supposes no full table, and begins behind the Capabilities request

abbrev pub HasNeither : {S : Type 0} → Manager S → Type 0
HasNeither m = (Demand2Of m → ⊥) × (Demand3Of m → ⊥)

abbrev pub Only3 : {S : Type 0} → Manager S → Type 0
Only3 m = (Demand2Of m → ⊥) × Demand3Of m

-- of these the ones in which, once a table is full, a stranger changes what a channel is told
abbrev pub Only3NotStrangers : {S : Type 0} → Manager S → Type 0
Only3NotStrangers m = Only3 m × (StrangersOf m → ⊥)

pub record UselessManagersHaveThemNot : Type 1 where
  -- the paper's five
  pub refuses_or_declines_everything : {S : Type 0} (m : Manager S) → OnlyNo m → HasNeither m
  pub gives_one_fixed_answer : {S : Type 0} (m : Manager S) (a : Answer) → Always m a → HasNeither m
  pub never_stores : HasNeither storeless
  pub joins_the_first_only : HasNeither first_only
  pub invents_its_count : (count : ℕ) → HasNeither (invents count)
  -- three more
  pub hands_up_twice : HasNeither twice
  pub keeps_over_a_reopening : HasNeither keeps
  pub disturbs_another_channel : HasNeither disturbs
  -- wrong at times
  pub replays_at_unreadable_pdus : HasNeither replayer
  pub invents_its_count_later : (count : ℕ) → HasNeither (invents_later count)
  pub goes_on_over_a_new_start : HasNeither goes_on_over
  pub forgets_a_garbled_block : HasNeither forgets
  pub right_until_full : Only3NotStrangers until_full
  pub makes_room_by_dropping_others : Only3NotStrangers makes_room
  pub never_declines_for_full : Only3 never_declines
  pub answers_a_wrong_level : Only3 wrong_level
  -- and the manager that 3 to 16 are made from has all
  pub without_the_fault : Demand2Of right × Demand3Of right × StrangersOf right
