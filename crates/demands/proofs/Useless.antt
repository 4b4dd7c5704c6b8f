-- None of the useless managers has demand 2, and of the sixteen only those that are wrong after a full table or in the level have
-- demand 3 (proofs/Unseen); strangers refute two of these. A few runs do it, with PUMP as the one listener; each refutation looks at
-- one place of a run.
-- Assumes nothing.
use Rattle.std.specs.Prelude.{None, Some}
use Prim.Native.Nat.{ℕ, zero, suc, ◌+◌}
use mathlib.Core.Path.{◌≡◌, refl, sym, ap, ◌∙◌, subst}
use mathlib.Core.Bool.{Bool, true, false}
use mathlib.Core.List.{List, [], ◌∷◌, map}
use native.Mathlib.Omega.{arith}
use lib.ListN.{length}
use Rattle.paper.specs.Sizes.{PDU_MAX, MESSAGE_MAX, LIST_MAX, PARTS}
use Rattle.paper.specs.Statuses.{OPENED, FULL}
use Rattle.paper.specs.declared.Refusal.{Refusal}
use Rattle.paper.specs.declared.Refusal.TheVariants.{CutShort, NoCommand, IsSpoiled}
use Rattle.lists.specs.Bytes.{zeros}
use Rattle.lists.specs.Places.{place}
use Rattle.lists.proofs.Cases.{true_not_false}
use Rattle.numbers.specs.Numbers.{little, value_of, value_at, width_of}
use Rattle.reading.specs.Reading.{named_for, create_request, data_first, closing, after_number, bad_length_width, numbered, by_command, read_pdu}
use Rattle.reading.specs.Said.{bytes_at}
use Rattle.reading.specs.Garbled.{brings_block, whole_in, carries_by, carries}
use Rattle.laying.specs.Laying.{create_response_bytes, close_bytes}
use Rattle.listeners.specs.Listeners.{names, ended, none_empty, same_bytes, is_one_of, all_names, good_list, is_listed}
use Rattle.channel.specs.declared.Offer.TheVariants.{First, More}
use Rattle.channel.specs.declared.Decline.TheVariants.{Full}
use Rattle.channel.specs.declared.Answer.{Answer}
use Rattle.channel.specs.declared.Answer.TheVariants.{Ready, Opened, Declined, Held, Message, Closed, Ignored, Refused}
use Rattle.channel.specs.Stages.{added, took_first, took}
use Rattle.channel.specs.Channel.{Create, Bring, Garbled, Closing, opened_record, restaged, opening, stage_after, part_after, answer_to, landed, act}
use Rattle.channel.specs.Answers.{number_of, decline_number}
use Rattle.table.specs.Table.{empty_table, holds, is_free, number_place, free_place, record_at, with_record}
use Rattle.connection.specs.States.{State, view_at, view, room_at, room_in, wrote, save}
use Rattle.client.specs.Events.{Event, Unreadable, Capabilities, Of, create_act, unread, event_of, is_of}
use Rattle.client.specs.Client.{finished, acted, readied, stepped}
use Rattle.demands.specs.Trace.{cons_if, keep, final, seen}
use Rattle.demands.specs.Runs.{Call, Told, event_in, is_event_of, events_of, own_events, full_table, asks_room, event_meets_full}
use Rattle.demands.specs.Joining.{Off, Gathering, Brings, NoMessage, StillToCome, Complete, gathered, starts_with, goes_on, joins, joins_if, join_with, join_all, brought_by, brought, once, handed}
use Rattle.demands.specs.Telling.{why_not, answered, step_says, says_if, hands_up, told_if, tells_none}
use Rattle.demands.specs.Managers.{Manager, ReachedBy, at_first_law, called, first_start, new_start, every_told, tells_to, Sight, at_start, sight_next, sight_told, ready_told, paper_start, should_tell, nobodys, is_nobodys, Roomy, stray_up, AllEmpty, Orders, Demand2Of, Demand3Of, paper_next, paper_after, flags_for, StrangersOf}
use Rattle.demands.specs.Useless.{beside_next, is_no, is_message, is_held, is_full, OnlyNo, refuses_all, Always, fixed, Beside, fresh, manager_by, right, warp_next, warp_told, warped, forget, always, respelled, noted, from_then, spoils_after, blank_told, storeless, first_only, recount_told, invents, double_told, twice, kept_memory, kept_stand, kept_next, keeps, lost_by, disturb_next, disturbs, last_told, replays, replayer, until_full, never_declines, invents_later, relevel_told, wrong_level, kept_over, goes_on_over, forgets_next, forgets_told, forgets, room_next, makes_room, HasNeither}
use Rattle.demands.specs.Examples.{call, PUMP, asks, hello, opens, closed, begins, brings, garbles, replies, hands}
use Rattle.demands.specs.Examples.{beside_few, beside_many, behind_sixteen}
use Rattle.demands.proofs.Ready.{hello_read}
use Rattle.demands.proofs.Examples as examples
use Rattle.demands.proofs.Examples.{opened, few_events, few_flags, many_events, many_flags, behind_events, behind_flags}
use Rattle.demands.proofs.Examples.{paper_ready, paper_ready_law, Ran, flags_for_law, own_are}
use Rattle.demands.proofs.Third.{own_map, pick, seen_pick, seen_map, marks, nobody_marks, tail, two_gives_three}
use Rattle.demands.proofs.ByFlags.{run_by, final_by, full_from, roomy_run, should_by, calls_by, told_by_law, comes_to_law, respoken, warped_by}

-- ---- the runs

-- a few calls on numbers 5 and 6
short : List Call
short =
    opens 5
    ∷ opens 6
    ∷ brings 5 (7 ∷ 8 ∷ [])
    ∷ asks (0x80 ∷ 5 ∷ [])
    ∷ begins 5 3 (1 ∷ [])
    ∷ brings 6 (9 ∷ [])
    ∷ brings 5 (2 ∷ [])
    ∷ brings 5 (3 ∷ [])
    ∷ begins 5 4 (1 ∷ [])
    ∷ closed 5
    ∷ opens 5
    ∷ brings 5 (2 ∷ 3 ∷ 4 ∷ [])
    ∷ garbles 5
    ∷ brings 5 (6 ∷ [])
    ∷ []

short_events : List Event
short_events =
    Of 5 (Create true 0)
    ∷ Of 6 (Create true 0)
    ∷ Of 5 (Bring More (7 ∷ 8 ∷ []))
    ∷ Unreadable NoCommand
    ∷ Of 5 (Bring (First 3) (1 ∷ []))
    ∷ Of 6 (Bring More (9 ∷ []))
    ∷ Of 5 (Bring More (2 ∷ []))
    ∷ Of 5 (Bring More (3 ∷ []))
    ∷ Of 5 (Bring (First 4) (1 ∷ []))
    ∷ Of 5 Closing
    ∷ Of 5 (Create true 0)
    ∷ Of 5 (Bring More (2 ∷ 3 ∷ 4 ∷ []))
    ∷ Of 5 (Garbled CutShort)
    ∷ Of 5 (Bring More (6 ∷ []))
    ∷ []

short_read : events_of short ≡ short_events
unfolding short short_events opens closed begins brings garbles asks PUMP call event_in event_of unread carries carries_by brings_block whole_in create_act read_pdu by_command numbered bad_length_width after_number closing data_first create_request named_for bytes_at little value_of value_at width_of place names ended none_empty same_bytes is_one_of all_names good_list is_listed PDU_MAX LIST_MAX
short_read = refl

with_hello : (xs : List Call) (es : List Event) → events_of xs ≡ es → events_of (hello ∷ xs) ≡ Capabilities 3 ∷ es
with_hello xs es e = ap (λ (x : Event). x ∷ events_of xs) hello_read ∙ ap (λ (l : List Event). Capabilities 3 ∷ l) e

-- the paper's flags in them
short_roomy : Roomy paper_start (Capabilities 3 ∷ short_events)
unfolding short_events paper_start readied stepped acted finished save wrote view view_at room_in room_at number_place free_place record_at with_record empty_table holds is_free place act landed stage_after part_after answer_to restaged took took_first added opening opened_record event_meets_full asks_room full_table PARTS MESSAGE_MAX
short_roomy = (refl, (refl, (refl, (refl, (refl, (refl, (refl, (refl, (refl, (refl, (refl, (refl, (refl, (refl, (refl, tt)))))))))))))))

-- and in the examples' runs, behind the Capabilities request
flags_behind : {xs : List Call} {es : List Event} {fs : List Bool} → Ran xs es fs → full_from paper_start (Capabilities 3 ∷ es) ≡ false ∷ fs
unfolding event_meets_full
flags_behind r = rw paper_ready_law (ap (λ (fs : List Bool). false ∷ fs) r.full)

-- ---- what should be told in them

opened_told : ℕ → Told
opened_told n = replies (Opened n) (create_response_bytes n OPENED)

short_told : List Told
short_told =
    ready_told 3
    ∷ opened_told 5
    ∷ opened_told 6
    ∷ hands 5 (7 ∷ 8 ∷ [])
    ∷ tells_none (Refused NoCommand None)
    ∷ tells_none (Held 5 2)
    ∷ hands 6 (9 ∷ [])
    ∷ tells_none (Held 5 1)
    ∷ hands 5 (1 ∷ 2 ∷ 3 ∷ [])
    ∷ tells_none (Held 5 3)
    ∷ replies (Closed 5) (close_bytes 5)
    ∷ opened_told 5
    ∷ hands 5 (2 ∷ 3 ∷ 4 ∷ [])
    ∷ tells_none (Refused CutShort None)
    ∷ tells_none (Refused IsSpoiled (Some 5))
    ∷ []

behind_told : List Told
behind_told =
    ready_told 3
    ∷ opened_told 1 ∷ opened_told 2 ∷ opened_told 3 ∷ opened_told 4 ∷ opened_told 6 ∷ opened_told 7 ∷ opened_told 8 ∷ opened_told 9
    ∷ opened_told 10 ∷ opened_told 11 ∷ opened_told 12 ∷ opened_told 13 ∷ opened_told 14 ∷ opened_told 15 ∷ opened_told 16 ∷ opened_told 17
    ∷ replies (Declined 5 Full) (create_response_bytes 5 FULL)
    ∷ hands 6 (7 ∷ 8 ∷ [])
    ∷ []

short_run : run_by sight_next sight_told at_start (Capabilities 3 ∷ short_events) [] ≡ short_told
unfolding short_told short_events replies hands opened_told sight_next sight_told told_if says_if joins_if hands_up step_says answered why_not joins starts_with goes_on gathered MESSAGE_MAX
short_run = refl

behind_run : run_by sight_next sight_told at_start (Capabilities 3 ∷ behind_events) (full_from paper_start (Capabilities 3 ∷ behind_events)) ≡ behind_told
unfolding behind_told behind_events behind_flags opened replies hands opened_told sight_next sight_told told_if says_if joins_if hands_up step_says answered why_not joins starts_with goes_on gathered MESSAGE_MAX
behind_run = ap (run_by sight_next sight_told at_start (Capabilities 3 ∷ behind_events)) (flags_behind examples.behind)

-- what they bring on 5
short_brings : List Brings
short_brings =
    NoMessage ∷ Complete (7 ∷ 8 ∷ []) ∷ StillToCome 2 ∷ StillToCome 1 ∷ Complete (1 ∷ 2 ∷ 3 ∷ []) ∷ StillToCome 3
    ∷ NoMessage ∷ NoMessage ∷ Complete (2 ∷ 3 ∷ 4 ∷ []) ∷ NoMessage ∷ NoMessage ∷ []

own_brings : join_all Off (own_events 5 short) ≡ short_brings
unfolding short_events short_brings join_with joins_if joins starts_with goes_on gathered MESSAGE_MAX
own_brings = ap (join_all Off) (own_map 5 short ∙ ap (keep (is_of 5)) short_read)

-- ---- what a manager that has demand 3 tells in the short run

short_roomy_calls : Roomy paper_start (events_of (hello ∷ short))
short_roomy_calls = subst (λ (es : List Event). Roomy paper_start es) (sym (with_hello short short_events short_read)) short_roomy

module _ {S : Type 0} (m : Manager S) (d : Demand3Of m) where
  in_short : Orders m (m.next m.begin hello) short short
  unfolding Demand3Of
  in_short = d m.begin first_start hello 3 hello_read short short (λ n. refl) short_roomy_calls short_roomy_calls

  -- on 5
  on_five : tells_to m (m.next m.begin hello) 5 short ≡ pick (map (is_of 5) short_events) (tail (every_told m m.begin (hello ∷ short)))
  unfolding tells_to every_told
  on_five =
      seen_pick m.next (is_event_of 5) m.tells (m.next m.begin hello) short
      ∙ ap (λ (b : List Bool). pick b (seen m.next (λ c. true) m.tells (m.next m.begin hello) short)) (marks 5 short ∙ ap (map (is_of 5)) short_read)

  brings_on_five : map brought (pick (map (is_of 5) short_events) (tail (every_told m m.begin (hello ∷ short)))) ≡ short_brings
  brings_on_five = ap (map brought) (sym on_five) ∙ (in_short.each 5).joined ∙ own_brings

  once_on_five : map handed (pick (map (is_of 5) short_events) (tail (every_told m m.begin (hello ∷ short)))) ≡ map once short_brings
  once_on_five = ap (map handed) (sym on_five) ∙ (in_short.each 5).each_once ∙ ap (map once) own_brings

  -- and at the unreadable PDU
  strays_are : (s : S) → stray_up m s short ≡ map (λ (t : Told). t.message) (pick (map nobodys short_events) (every_told m s short))
  unfolding stray_up every_told
  strays_are s =
      seen_map m.next is_nobodys m.tells (λ (t : Told). t.message) s short
      ∙ ap (map (λ (t : Told). t.message)) (seen_pick m.next is_nobodys m.tells s short
      ∙ ap (λ (b : List Bool). pick b (seen m.next (λ c. true) m.tells s short)) (nobody_marks short ∙ ap (map nobodys) short_read))

  strays_in_short : AllEmpty (map (λ (t : Told). t.message) (pick (map nobodys short_events) (tail (every_told m m.begin (hello ∷ short)))))
  unfolding every_told
  strays_in_short = subst AllEmpty (strays_are (m.next m.begin hello)) in_short.no_strays

-- ---- looking at one place of a run

abbrev brings_at : ℕ → List Brings → Brings
brings_at k [] = NoMessage
brings_at zero (b ∷ bs) = b
brings_at (suc k) (b ∷ bs) = brings_at k bs

abbrev sum : List ℕ → ℕ
sum [] = 0
sum (b ∷ bs) = b + sum bs

-- a count, or the sum of a message's bytes
abbrev weight : Brings → ℕ
weight NoMessage = 0
weight (StillToCome left) = left
weight (Complete message) = sum message

abbrev weight_at : ℕ → List Brings → ℕ
weight_at k bs = weight (brings_at k bs)

-- an answer's number, and how many messages go up with it
abbrev number_at : ℕ → List Told → ℕ
number_at k [] = 0
number_at zero (t ∷ ts) = number_of t.answer
number_at (suc k) (t ∷ ts) = number_at k ts

abbrev ups_at : ℕ → List Told → ℕ
ups_at k [] = 0
ups_at zero (t ∷ ts) = length t.message
ups_at (suc k) (t ∷ ts) = ups_at k ts

-- what doesn't have demand 3 doesn't have demand 2
pub neither : {S : Type 0} (m : Manager S) → (Demand3Of m → ⊥) → HasNeither m
neither m h = (λ d. h (two_gives_three m d), h)

-- ---- 1 and 2: any manager that answers so

abbrev AllAre : (Brings → Type 0) → List Brings → Type 0
AllAre P [] = Unit {0}
AllAre P (b ∷ bs) = P b × AllAre P bs

-- what is so at every call is so of all that a channel is told
all_are :
    {S : Type 0} (m : Manager S) (P : Brings → Type 0) → ((s : S) (c : Call) → P (brought (m.tells s c)))
    → (n : ℕ) (s : S) (xs : List Call) → AllAre P (map brought (seen m.next (is_event_of n) m.tells s xs))
all_are m P h n s [] = tt
all_are m P h n s (c ∷ xs) = go (is_event_of n c) (all_are m P h n (m.next s c) xs)
  where
    go :
        (t : Bool) → AllAre P (map brought (seen m.next (is_event_of n) m.tells (m.next s c) xs))
        → AllAre P (map brought (cons_if t (m.tells s c) (seen m.next (is_event_of n) m.tells (m.next s c) xs)))
    go true r = (h s c, r)
    go false r = r

all_short :
    {S : Type 0} (m : Manager S) → Demand3Of m → (P : Brings → Type 0) → ((s : S) (c : Call) → P (brought (m.tells s c)))
    → AllAre P short_brings
unfolding tells_to
all_short m d P h = subst (AllAre P) (((in_short m d).each 5).joined ∙ own_brings) (all_are m P h 5 (m.next m.begin hello) short)

abbrev kind : Brings → ℕ
kind NoMessage = 0
kind (StillToCome left) = 1
kind (Complete message) = 2

-- a refusal or a decline brings nothing
no_brings : (a : Answer) (up : List (List ℕ)) → is_no a ≡ true → kind (brought_by a up) ≡ 0
unfolding brought_by
no_brings (Ready level) up h = refl
no_brings (Opened n) up h = refl
no_brings (Declined n why) up h = refl
no_brings (Held n left) up h = absurd (true_not_false (sym h))
no_brings (Message n len) up h = absurd (true_not_false (sym h))
no_brings (Closed n) up h = refl
no_brings (Ignored n) up h = refl
no_brings (Refused why concern) up h = refl

pub only_no_not_3 : {S : Type 0} (m : Manager S) → OnlyNo m → Demand3Of m → ⊥
unfolding short_brings
only_no_not_3 m h d =
    let all = all_short m d (λ (b : Brings). kind b ≡ 0) (λ s c. no_brings (m.tells s c).answer (m.tells s c).message (h s c)) in
    let z : ◌≡◌ {A = ℕ} 2 0 = all.1.0 in
    omega arith

pub refuses_all_not_3 : (why : Refusal) → Demand3Of (refuses_all why) → ⊥
unfolding refuses_all
refuses_all_not_3 why = only_no_not_3 (refuses_all why) (λ s c. refl)

-- one answer is a count at every call, or at none
abbrev Allows : Answer → Brings → Type 0
Allows (Ready level) b = kind b ≡ 0
Allows (Opened n) b = kind b ≡ 0
Allows (Declined n why) b = kind b ≡ 0
Allows (Held n left) b = kind b ≡ 1
Allows (Message n len) b = kind b ≡ 1 → ⊥
Allows (Closed n) b = kind b ≡ 0
Allows (Ignored n) b = kind b ≡ 0
Allows (Refused why concern) b = kind b ≡ 0

allowed : (a : Answer) (up : List (List ℕ)) → Allows a (brought_by a up)
unfolding brought_by
allowed (Ready level) up = refl
allowed (Opened n) up = refl
allowed (Declined n why) up = refl
allowed (Held n left) up = refl
allowed (Message n len) [] = λ z. omega arith
allowed (Message n len) (m ∷ up) = λ z. omega arith
allowed (Closed n) up = refl
allowed (Ignored n) up = refl
allowed (Refused why concern) up = refl

-- none allows a message and a count
not_both : (a : Answer) (message : List ℕ) (left : ℕ) → Allows a (Complete message) → Allows a (StillToCome left) → ⊥
not_both (Ready level) message left p q = omega arith
not_both (Opened n) message left p q = omega arith
not_both (Declined n why) message left p q = omega arith
not_both (Held n l) message left p q = omega arith
not_both (Message n len) message left p q = q refl
not_both (Closed n) message left p q = omega arith
not_both (Ignored n) message left p q = omega arith
not_both (Refused why concern) message left p q = omega arith

pub always_not_3 : {S : Type 0} (m : Manager S) (a : Answer) → Always m a → Demand3Of m → ⊥
unfolding short_brings
always_not_3 m a h d =
    let all = all_short m d (Allows a) (λ s c. subst (λ (x : Answer). Allows a (brought_by x (m.tells s c).message)) (sym (h s c)) (allowed a (m.tells s c).message)) in
    not_both a _ _ all.1.0 all.1.1.0

pub fixed_not_3 : (t : Told) → Demand3Of (fixed t) → ⊥
unfolding fixed
fixed_not_3 t = always_not_3 (fixed t) t.answer (λ s c. refl)

-- ---- 3 to 16: the right manager with one thing made wrong, in the short run

module _ {S : Type 0} (s : S) (next : Bool → S → Event → S) (tells : Bool → S → Event → Told) where
  -- what it tells
  in_run :
      (xs : List Call) (es : List Event) → events_of xs ≡ es
      → every_told (manager_by s next tells) (fresh s) (hello ∷ xs) ≡ run_by next tells s (Capabilities 3 ∷ es) (full_from paper_start (Capabilities 3 ∷ es))
  in_run xs es e =
      told_by_law next tells s (fresh s) (hello ∷ xs)
      ∙ ap (λ (l : List Event). run_by next tells s l (full_from paper_start l)) (with_hello xs es e)

  tells_short : every_told (manager_by s next tells) (fresh s) (hello ∷ short) ≡ run_by next tells s (Capabilities 3 ∷ short_events) []
  tells_short = in_run short short_events short_read ∙ roomy_run next tells paper_start s (Capabilities 3 ∷ short_events) short_roomy

  three_brings :
      Demand3Of (manager_by s next tells)
      → map brought (pick (map (is_of 5) short_events) (tail (run_by next tells s (Capabilities 3 ∷ short_events) []))) ≡ short_brings
  unfolding manager_by
  three_brings d = ap (λ (l : List Told). map brought (pick (map (is_of 5) short_events) (tail l))) (sym tells_short) ∙ brings_on_five (manager_by s next tells) d

-- and one that spoils what the right one tells
module _ {M : Type 0} (m : M) (remember : M → Event → Told → M) (spoil : M → Event → Told → Told) where
  tells_spoiled : every_told (warped m remember spoil) (warped m remember spoil).begin (hello ∷ short) ≡ respoken remember spoil m (Capabilities 3 ∷ short_events) short_told
  unfolding warped manager_by
  tells_spoiled =
      tells_short (record { sight = at_start; memory = m }) (warp_next remember) (warp_told spoil)
      ∙ warped_by remember spoil (record { sight = at_start; memory = m }) (Capabilities 3 ∷ short_events) []
      ∙ ap (respoken remember spoil m (Capabilities 3 ∷ short_events)) short_run

  spoiled_brings :
      Demand3Of (warped m remember spoil)
      → map brought (pick (map (is_of 5) short_events) (tail (respoken remember spoil m (Capabilities 3 ∷ short_events) short_told))) ≡ short_brings
  spoiled_brings d = ap (λ (l : List Told). map brought (pick (map (is_of 5) short_events) (tail l))) (sym tells_spoiled) ∙ brings_on_five (warped m remember spoil) d

  spoiled_once :
      Demand3Of (warped m remember spoil)
      → map handed (pick (map (is_of 5) short_events) (tail (respoken remember spoil m (Capabilities 3 ∷ short_events) short_told))) ≡ map once short_brings
  spoiled_once d = ap (λ (l : List Told). map handed (pick (map (is_of 5) short_events) (tail l))) (sym tells_spoiled) ∙ once_on_five (warped m remember spoil) d

  spoiled_strays :
      Demand3Of (warped m remember spoil)
      → AllEmpty (map (λ (t : Told). t.message) (pick (map nobodys short_events) (tail (respoken remember spoil m (Capabilities 3 ∷ short_events) short_told))))
  spoiled_strays d = subst (λ (l : List Told). AllEmpty (map (λ (t : Told). t.message) (pick (map nobodys short_events) (tail l)))) tells_spoiled (strays_in_short (warped m remember spoil) d)

-- 3: what it hands up are zeros
pub storeless_not_3 : Demand3Of storeless → ⊥
unfolding storeless respelled short_events short_told short_brings replies hands opened_told zeros brought_by
storeless_not_3 d =
    let z : ◌≡◌ {A = ℕ} 0 15 = ap (weight_at 1) (spoiled_brings tt forget (always (λ e t. blank_told t)) d) in
    omega arith

-- 4: so from the second message on
pub first_only_not_3 : Demand3Of first_only → ⊥
unfolding first_only spoils_after short_events short_told short_brings replies hands opened_told zeros brought_by
first_only_not_3 d =
    let z : ◌≡◌ {A = ℕ} 0 6 = ap (weight_at 4) (spoiled_brings false (noted is_message) (from_then blank_told) d) in
    omega arith

-- 5: the counts 2 and 3 would be one
pub invents_not_3 : (count : ℕ) → Demand3Of (invents count) → ⊥
unfolding invents respelled short_events short_told short_brings replies hands opened_told brought_by
invents_not_3 count d =
    let e = spoiled_brings tt forget (always (λ e t. recount_told count t)) d in
    let y : count ≡ 2 = ap (weight_at 2) e in
    let z : count ≡ 3 = ap (weight_at 5) e in
    omega arith

-- 6: six messages in place of three
pub twice_not_3 : Demand3Of twice → ⊥
unfolding twice respelled short_events short_told short_brings replies hands opened_told once
twice_not_3 d =
    let z : ◌≡◌ {A = ℕ} 6 3 = ap sum (spoiled_once tt forget (always (λ e t. double_told t)) d) in
    omega arith

-- 9: a message at the unreadable PDU
pub replayer_not_3 : Demand3Of replayer → ⊥
unfolding replayer replays short_events short_told replies hands opened_told
replayer_not_3 d =
    let z : ◌≡◌ {A = ℕ} 1 0 = ap (λ (l : List (List ℕ)). length l) (spoiled_strays [] last_told replays d).0 in
    omega arith

-- 12: the second count and the third would be one
pub invents_later_not_3 : (count : ℕ) → Demand3Of (invents_later count) → ⊥
unfolding invents_later spoils_after short_events short_told short_brings replies hands opened_told brought_by
invents_later_not_3 count d =
    let e = spoiled_brings false (noted is_held) (from_then (recount_told count)) d in
    let y : count ≡ 1 = ap (weight_at 3) e in
    let z : count ≡ 3 = ap (weight_at 5) e in
    omega arith

-- 7: the bytes from before the close
pub keeps_not_3 : Demand3Of keeps → ⊥
unfolding keeps kept_next kept_stand kept_memory short_events short_brings brought_by sight_next sight_told told_if says_if joins_if hands_up step_says answered why_not joins starts_with goes_on gathered MESSAGE_MAX
keeps_not_3 d =
    let z : ◌≡◌ {A = ℕ} 10 9 = ap (weight_at 8) (three_brings _ kept_next (λ full w e. sight_told full w.sight e) d) in
    omega arith

-- 15: the Data behind a Data First that is cut off goes up
pub forgets_not_3 : Demand3Of forgets → ⊥
unfolding forgets forgets_next forgets_told short_events short_brings brought_by sight_next sight_told told_if says_if joins_if hands_up step_says answered why_not joins starts_with goes_on gathered MESSAGE_MAX
forgets_not_3 d =
    let z : ◌≡◌ {A = ℕ} 6 0 = ap (weight_at 10) (three_brings at_start forgets_next forgets_told d) in
    omega arith

-- 8: what 5 had gathered is lost
pub disturbs_not_3 : Demand3Of disturbs → ⊥
unfolding disturbs disturb_next lost_by short_events short_brings brought_by sight_next sight_told told_if says_if joins_if hands_up step_says answered why_not joins starts_with goes_on gathered MESSAGE_MAX
disturbs_not_3 d =
    let z : ◌≡◌ {A = ℕ} 2 1 = ap (weight_at 3) (three_brings at_start disturb_next sight_told d) in
    omega arith

-- ---- demand 2, where demand 3 doesn't see it

module _ {S : Type 0} (s : S) (next : Bool → S → Event → S) (tells : Bool → S → Event → Told) (d : Demand2Of (manager_by s next tells)) where
  tells_right :
      (xs : List Call) (es : List Event) → events_of xs ≡ es
      → run_by next tells s (Capabilities 3 ∷ es) (full_from paper_start (Capabilities 3 ∷ es)) ≡ run_by sight_next sight_told at_start (Capabilities 3 ∷ es) (full_from paper_start (Capabilities 3 ∷ es))
  unfolding Demand2Of manager_by
  tells_right xs es e =
      sym (in_run s next tells xs es e) ∙ d (fresh s) first_start (hello ∷ xs)
      ∙ ap (should_tell paper_start at_start) (with_hello xs es e) ∙ should_by paper_start at_start (Capabilities 3 ∷ es)

module _ {M : Type 0} (m : M) (remember : M → Event → Told → M) (spoil : M → Event → Told → Told) (d : Demand2Of (warped m remember spoil)) where
  spoils_nothing : respoken remember spoil m (Capabilities 3 ∷ behind_events) behind_told ≡ behind_told
  unfolding warped
  spoils_nothing =
      ap (respoken remember spoil m (Capabilities 3 ∷ behind_events)) (sym behind_run)
      ∙ sym (warped_by remember spoil (record { sight = at_start; memory = m }) (Capabilities 3 ∷ behind_events) (full_from paper_start (Capabilities 3 ∷ behind_events)))
      ∙ tells_right (record { sight = at_start; memory = m }) (warp_next remember) (warp_told spoil) d behind_sixteen behind_events (examples.behind).read ∙ behind_run

-- 10: after the full table a message goes up twice
pub until_full_not_2 : Demand2Of until_full → ⊥
unfolding until_full spoils_after behind_events opened behind_told replies hands opened_told
until_full_not_2 d =
    let z : ◌≡◌ {A = ℕ} 2 1 = ap (ups_at 18) (spoils_nothing false (noted is_full) (from_then double_told) d) in
    omega arith

-- 13: the level is wrong at the first call
pub wrong_level_not_2 : Demand2Of wrong_level → ⊥
unfolding wrong_level respelled behind_events opened behind_told replies hands opened_told number_of
wrong_level_not_2 d =
    let z : ◌≡◌ {A = ℕ} 3 2 = ap (number_at 0) (spoils_nothing tt forget (always relevel_told) d) in
    omega arith

-- 11: the seventeenth is opened
pub never_declines_not_2 : Demand2Of never_declines → ⊥
unfolding never_declines behind_events opened behind_told replies opened_told number_of decline_number sight_next sight_told told_if says_if joins_if hands_up step_says answered why_not joins starts_with goes_on gathered MESSAGE_MAX
never_declines_not_2 d =
    let z : ◌≡◌ {A = ℕ} 0 2 = ap (number_at 17) (tells_right at_start (λ full. sight_next false) (λ full. sight_told false) d behind_sixteen behind_events (examples.behind).read ∙ behind_run) in
    omega arith

-- 16: so is it here
pub makes_room_not_2 : Demand2Of makes_room → ⊥
unfolding makes_room room_next behind_events behind_flags opened behind_told replies opened_told number_of decline_number sight_next
    sight_told told_if says_if joins_if hands_up step_says answered why_not joins starts_with goes_on gathered MESSAGE_MAX
makes_room_not_2 d =
    let told = ap (run_by room_next (λ full. sight_told false) at_start (Capabilities 3 ∷ behind_events)) (sym (flags_behind examples.behind)) ∙ tells_right at_start room_next (λ full. sight_told false) d behind_sixteen behind_events (examples.behind).read ∙ behind_run in
    let z : ◌≡◌ {A = ℕ} 0 2 = ap (number_at 17) told in
    omega arith

-- ---- strangers, where demand 3 doesn't see it: channel 5 beside few, and beside many

paper_after_law : paper_after (hello ∷ []) ≡ paper_ready
paper_after_law = ap (paper_next paper_start) hello_read ∙ paper_ready_law

paper_on : (paper_after (hello ∷ [])).table.ready ≡ true
unfolding paper_ready readied
paper_on = ap (λ (p : State). p.table.ready) paper_after_law

paper_flags :
    {xs : List Call} {es : List Event} {fs : List Bool} (r : Ran xs es fs) (n : ℕ)
    → flags_for n (paper_after (hello ∷ [])) (events_of xs) ≡ pick (map (is_of n) es) fs
paper_flags r n = rw (paper_after_law, r.read) (flags_for_law r n)

module _ {S : Type 0} (s : S) (next : Bool → S → Event → S) (tells : Bool → S → Event → Told) where
  -- what such a manager tells 5
  five :
      {xs : List Call} {es : List Event} {fs : List Bool} → Ran xs es fs
      → tells_to (manager_by s next tells) ((manager_by s next tells).next (fresh s) hello) 5 xs
      ≡ pick (map (is_of 5) es) (run_by next tells (next false s (Capabilities 3)) es fs)
  unfolding tells_to manager_by beside_next event_meets_full
  five {xs = xs} r =
      let b = beside_next next (fresh s) (event_in hello.asked) in
      seen_pick (manager_by s next tells).next (is_event_of 5) (manager_by s next tells).tells b xs
      ∙ rw (marks 5 xs, calls_by next tells b xs, r.read, paper_after_law, r.full, hello_read)

  -- to one that has the property, few and many are the same
  same_five :
      StrangersOf (manager_by s next tells)
      → pick (map (is_of 5) few_events) (run_by next tells (next false s (Capabilities 3)) few_events few_flags)
      ≡ pick (map (is_of 5) many_events) (run_by next tells (next false s (Capabilities 3)) many_events many_flags)
  unfolding StrangersOf manager_by few_events many_events few_flags many_flags opened
  same_five d =
      let own = own_are examples.few 5 ∙ sym (own_are examples.many 5) in
      let full = paper_flags examples.few 5 ∙ sym (paper_flags examples.many 5) in
      sym (five examples.few) ∙ d (fresh s) first_start (hello ∷ []) paper_on 5 beside_few beside_many own full ∙ five examples.many

-- 10: beside many the first message goes up twice
pub until_full_not : StrangersOf until_full → ⊥
unfolding until_full spoils_after warped warp_next warp_told few_events many_events few_flags many_flags opened sight_next sight_told
    told_if says_if joins_if hands_up step_says answered why_not joins starts_with goes_on gathered MESSAGE_MAX
until_full_not d =
    let z : ◌≡◌ {A = ℕ} 1 2 = ap (ups_at 2) (same_five (record { sight = at_start; memory = false }) (warp_next (noted is_full)) (warp_told (from_then double_told)) d) in
    omega arith

-- 16: beside many the second block of the message is refused: 5 isn't open
pub makes_room_not : StrangersOf makes_room → ⊥
unfolding makes_room room_next few_events many_events few_flags many_flags opened number_of sight_next sight_told told_if says_if joins_if
    hands_up step_says answered why_not joins starts_with goes_on gathered MESSAGE_MAX
makes_room_not d =
    let z : ◌≡◌ {A = ℕ} 3 8 = ap (number_at 2) (same_five at_start room_next (λ full. sight_told false) d) in
    omega arith

-- ---- 14: it goes on over a new Start

before : List Call
before = hello ∷ opens 5 ∷ begins 5 4 (1 ∷ []) ∷ []

before_events : List Event
before_events = Capabilities 3 ∷ Of 5 (Create true 0) ∷ Of 5 (Bring (First 4) (1 ∷ [])) ∷ []

before_read : events_of before ≡ before_events
unfolding before before_events opens begins asks PUMP call event_in event_of create_act read_pdu by_command numbered bad_length_width after_number data_first create_request named_for bytes_at little value_of value_at width_of place names ended none_empty same_bytes is_one_of all_names good_list is_listed PDU_MAX LIST_MAX
before_read = with_hello (opens 5 ∷ begins 5 4 (1 ∷ []) ∷ []) (Of 5 (Create true 0) ∷ Of 5 (Bring (First 4) (1 ∷ [])) ∷ []) refl

-- it stands in the middle of a message
before_flags : full_from paper_start before_events ≡ false ∷ false ∷ false ∷ []
unfolding before_events paper_start readied stepped acted finished save wrote view view_at room_in room_at number_place free_place record_at with_record empty_table holds is_free place act landed stage_after part_after answer_to restaged took took_first added opening opened_record event_meets_full asks_room full_table PARTS MESSAGE_MAX
before_flags = refl

at_the_end : Beside Sight
at_the_end = final right.next right.begin before

in_the_middle : at_the_end.kept.stand 5 ≡ Gathering 4 (1 ∷ [])
unfolding at_the_end right manager_by before_events sight_next joins_if joins starts_with gathered MESSAGE_MAX
in_the_middle =
    ap (λ (s : Sight). s.stand 5)
    (comes_to_law sight_next sight_told at_start (fresh at_start) before
    ∙ ap (λ (es : List Event). final_by sight_next at_start es (full_from paper_start es)) before_read
    ∙ ap (final_by sight_next at_start before_events) before_flags)

-- then a new Start, a Capabilities request, and a block
behind : Call
behind = brings 5 (9 ∷ [])

then_events : List Event
then_events = Capabilities 3 ∷ Of 5 (Bring More (9 ∷ [])) ∷ []

then_read : events_of (hello ∷ behind ∷ []) ≡ then_events
unfolding then_events behind brings asks PUMP call event_in event_of read_pdu by_command numbered bad_length_width after_number bytes_at little value_of value_at width_of PDU_MAX
then_read = with_hello (behind ∷ []) (Of 5 (Bring More (9 ∷ [])) ∷ []) refl

then_roomy : Roomy paper_start then_events
unfolding then_events paper_start readied stepped acted finished save wrote view view_at room_in room_at number_place free_place record_at with_record empty_table holds is_free place act event_meets_full asks_room full_table PARTS
then_roomy = (refl, (refl, tt))

then_roomy_calls : Roomy paper_start (events_of (hello ∷ behind ∷ []))
then_roomy_calls = subst (λ (es : List Event). Roomy paper_start es) (sym then_read) then_roomy

reached_run : {S : Type 0} (m : Manager S) (s : S) → ReachedBy m s → (xs : List Call) → ReachedBy m (final m.next s xs)
reached_run m s r [] = r
reached_run m s r (c ∷ xs) = reached_run m (m.next s c) (called c r) xs

was_reached : ReachedBy goes_on_over at_the_end
unfolding goes_on_over at_the_end
was_reached = reached_run goes_on_over right.begin at_first_law before

-- what it tells then
goes_on_tells : every_told goes_on_over (kept_over at_the_end) (hello ∷ behind ∷ []) ≡ run_by sight_next sight_told (kept_over at_the_end).kept then_events []
unfolding every_told goes_on_over right manager_by
goes_on_tells =
    calls_by sight_next sight_told (kept_over at_the_end) (hello ∷ behind ∷ [])
    ∙ ap (λ (es : List Event). run_by sight_next sight_told (kept_over at_the_end).kept es (full_from paper_start es)) then_read
    ∙ roomy_run sight_next sight_told paper_start (kept_over at_the_end).kept then_events then_roomy

second : List Told → Brings
second [] = NoMessage
second (t ∷ []) = NoMessage
second (t ∷ u ∷ ts) = brought u

counts_on : second (run_by sight_next sight_told (kept_over at_the_end).kept then_events []) ≡ StillToCome 2
unfolding second then_events sight_next sight_told told_if says_if joins_if hands_up step_says answered why_not joins goes_on gathered brought_by
counts_on = rw in_the_middle

then_own : own_events 5 (behind ∷ []) ≡ Of 5 (Bring More (9 ∷ [])) ∷ []
unfolding then_events
then_own = own_map 5 (behind ∷ []) ∙ ap (λ (es : List Event). keep (is_of 5) (tail es)) then_read

own_is : is_event_of 5 behind ≡ true
unfolding is_event_of then_events
own_is = ap (λ (es : List Event). first_of_5 (tail es)) then_read
  where
    first_of_5 : List Event → Bool
    first_of_5 [] = false
    first_of_5 (e ∷ es) = is_of 5 e

-- on 5 it tells one thing, which is the second of all
tells_one :
    {S : Type 0} (m : Manager S) (s : S)
    → weight_at 0 (map brought (tells_to m (m.next s hello) 5 (behind ∷ []))) ≡ weight (second (every_told m s (hello ∷ behind ∷ [])))
unfolding tells_to every_told second
tells_one m s = rw own_is

pub goes_on_not_3 : Demand3Of goes_on_over → ⊥
unfolding Demand3Of goes_on_over join_with joins_if joins
goes_on_not_3 d =
    let s = kept_over at_the_end in
    let o = d s (new_start was_reached) hello 3 hello_read (behind ∷ []) (behind ∷ []) (λ n. refl) then_roomy_calls then_roomy_calls in
    let none : weight_at 0 (map brought (tells_to goes_on_over (goes_on_over.next s hello) 5 (behind ∷ []))) ≡ 0 = ap (weight_at 0) ((o.each 5).joined ∙ ap (join_all Off) then_own) in
    let two = ap weight (ap second goes_on_tells ∙ counts_on) in
    let z : ◌≡◌ {A = ℕ} 0 2 = sym none ∙ tells_one goes_on_over s ∙ two in
    omega arith
