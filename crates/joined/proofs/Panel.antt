-- Each event at the panel keeps the tie of every number, and no Create finds its number open.
-- Assumes nothing.
use mathlib.Core.Path.{◌≡◌, refl, sym, ap, ◌∙◌}
use mathlib.Core.Bool.{Bool, true, false, not, cond, ◌||◌, false≢true}
use mathlib.Core.List.{List, [], ◌∷◌, ◌++◌, append-nil}
use Prim.Native.Nat.{ℕ, ◌+◌, ◌≤◌, ◌<◌}
use native.Mathlib.Omega.{arith}
use borrow.Author.Tests.{eqb-true, eq-eqb}
use lib.Dec.{eqb, ltb, lit<}
use lib.IntN.{ℤ}
use lib.ListN.{length, take}
use mir.Syntax.{w32}
use mir.Val.{SFits}
use Rattle.paper.specs.Sizes.{REPLY_MIN, MESSAGE_MAX}
use Rattle.paper.specs.Statuses.{OPENED, UNLISTED, FULL}
use Rattle.paper.specs.Refusals.{refusal_number}
use Rattle.paper.specs.declared.Refusal.{Refusal}
use Rattle.paper.specs.declared.Refusal.TheVariants.{WrongTime}
use Rattle.lists.proofs.Cases.{choice}
use Rattle.lists.proofs.Laid.{front}
use Rattle.numbers.specs.Numbers.{NUMBERS}
use Rattle.reading.specs.Grammar.{Value, create_request_law, create_response_law, data_first_law, data_block, close, capabilities_request}
use Rattle.reading.specs.Grammar.{capabilities_response}
use Rattle.laying.specs.Laying.{create_response_bytes, close_bytes}
use Rattle.listeners.specs.Listeners.{good_list, is_listed}
use Rattle.channel.specs.declared.Stage.{Stage}
use Rattle.channel.specs.declared.Stage.TheVariants.{Idle, Joining, Spoiled}
use Rattle.channel.specs.declared.Offer.{Offer}
use Rattle.channel.specs.declared.Offer.TheVariants.{First, More}
use Rattle.channel.specs.declared.Took.{Took}
use Rattle.channel.specs.declared.Answer.{Answer}
use Rattle.channel.specs.declared.Answer.TheVariants.{Ready, Opened, Declined, Held, Message, Closed, Ignored, Refused}
use Rattle.channel.specs.Stages.{added, took_first, took}
use Rattle.channel.specs.Turns.{OUR_VERSION}
use Rattle.channel.specs.Channel.{Act, BadCreate, Create, Bring, Garbled, Closing, LocalClose, View, Shut, Open, Room, NoRoom}
use Rattle.channel.specs.Channel.{Spare, opening, answer_to, landed, act}
use Rattle.deciding.specs.Deciding.{too_soon}
use Rattle.table.specs.Table.{number_place, record_at}
use Rattle.connection.specs.States.{State, view_at, view, room_in, FineAct, Steady}
use Rattle.client.specs.Events.{Event, Unreadable, Capabilities, Of, create_act}
use Rattle.client.specs.Client.{Stepped, readied, acted, finished, stepped, Whole, whole_of}
use Rattle.client.proofs.Steps.{too_early, too_late, made_ready}
use Rattle.steps.specs.States.{Calm, FineEvent, ruled}
use Rattle.steps.proofs.Channels.{step_own, step_answer, step_reply, step_other}
use Rattle.steps.proofs.Calm.{sane_steady}
use Rattle.steps.proofs.Widths.{event_of_value}
use Rattle.shore.specs.Rules.{is_below_zero}
use Rattle.demands.specs.Runs.{Call, gives, event_in}
use Rattle.demands.proofs.Machine.{act_short, call_step}
use Rattle.joined.specs.Ends.{post, has_view}
use Rattle.joined.proofs.Ties.{Stand, Down, Asks, Ends, Up, Over, tie, says, never_nine, panel_asked, panel_ended}
use Rattle.joined.proofs.Ties.{panel_ignores, panel_closes_law}
use Rattle.joined.proofs.Queues.{AllSent, marks_post, post_sent, post_says, post_silent, none_either, down_of, up_of, ups}
use Rattle.joined.proofs.Bytes.{response_short, close_sent, created_sent, response_sent, Within}

-- ---- what a channel's rules reply

pub data Reply (n : ℕ) (bytes : List ℕ) : Type 0 where
  none : bytes ≡ [] → Reply n bytes
  created : (status : ℤ) → SFits w32 status → bytes ≡ create_response_bytes n status → Reply n bytes
  closed : bytes ≡ close_bytes n → Reply n bytes

-- the statuses are of 32 bits
opened_fits : SFits w32 OPENED
opened_fits = record { sfits = lit< tt }

-- no listener
unlisted_fits : SFits w32 UNLISTED
unlisted_fits = record { sfits = lit< tt }

-- no record
full_fits : SFits w32 FULL
full_fits = record { sfits = lit< tt }

-- an opening replies
opening_reply : (l n pri : ℕ) (room : Room) → Reply n (opening l n pri room).reply
unfolding opening
opening_reply l n pri NoRoom = created FULL full_fits refl
opening_reply l n pri (Spare part) = created OPENED opened_fits refl

-- every act replies with one of the three
pub act_reply : (l n : ℕ) (room : Room) (v : View) (a : Act) → Reply n (act l n room v a).reply
unfolding act landed
act_reply l n room Shut BadCreate = none refl
act_reply l n room Shut (Create true pri) = opening_reply l n pri room
act_reply l n room Shut (Create false pri) = created UNLISTED unlisted_fits refl
act_reply l n room Shut (Bring offer bytes) = none refl
act_reply l n room Shut (Garbled why) = none refl
act_reply l n room Shut Closing = none refl
act_reply l n room Shut LocalClose = none refl
act_reply l n room (Open r part) BadCreate = none refl
act_reply l n room (Open r part) (Create listed pri) = none refl
act_reply l n room (Open r part) (Bring offer bytes) = none refl
act_reply l n room (Open r part) (Garbled why) = none refl
act_reply l n room (Open r part) Closing = closed refl
act_reply l n room (Open r part) LocalClose = closed refl

-- it is read as it says, and is of its own number only
pub reply_sent : {n : ℕ} {bytes : List ℕ} → n < NUMBERS → Reply n bytes → AllSent false (post [] bytes)
reply_sent small (none e) = rw e tt
reply_sent {n} small (created status fits e) = rw e (post_sent (created_sent n small status fits))
reply_sent {n} small (closed e) = rw e (post_sent (close_sent false n small))

-- to no other number
reply_other : {m : ℕ} {bytes : List ℕ} (n : ℕ) → m < NUMBERS → Reply m bytes → eqb m n ≡ false → ups n (post [] bytes) ≡ []
reply_other n small (none e) h = rw e
reply_other {m} n small (created status fits e) h = rw e (post_says (up_of n) (created_sent m small status fits) ∙ rw h)
reply_other {m} n small (closed e) h = rw e (post_says (up_of n) (close_sent false m small) ∙ rw h)

-- what a Create response says of its number
created_says :
    (n : ℕ) → n < NUMBERS → (status : ℤ) → SFits w32 status → ups n (post [] (create_response_bytes n status)) ≡ says (not (is_below_zero status)) ∷ []
created_says n small status fits = post_says (up_of n) (created_sent n small status fits) ∙ rw (eq-eqb n n refl)

-- and a Close
closed_says : (n : ℕ) → n < NUMBERS → ups n (post [] (close_bytes n)) ≡ Over ∷ []
closed_says n small = post_says (up_of n) (close_sent false n small) ∙ rw (eq-eqb n n refl)

-- ---- one number: an act that takes so much of what is on its way to the panel, with its reply behind all else

-- the tie goes on
abbrev Law : Act → List Down → Type 0
Law a x =
    (l n : ℕ) → n < NUMBERS → (room : Room) (v : View) (s : Stand) (q : List Down) (r : List Up) → tie s (has_view v) (x ++ q) r ≡ true
    → tie s (has_view (act l n room v a).view) q (r ++ ups n (post [] (act l n room v a).reply)) ≡ true

-- a Create
create_law : (listed : Bool) (pri : ℕ) → Law (Create listed pri) (Asks ∷ [])
unfolding act opening
create_law true pri l n small NoRoom Shut s q r h = rw (created_says n small FULL full_fits) (panel_asked false s q r h)
create_law true pri l n small (Spare part) Shut s q r h = rw (created_says n small OPENED opened_fits) (panel_asked true s q r h)
create_law false pri l n small room Shut s q r h = rw (created_says n small UNLISTED unlisted_fits) (panel_asked false s q r h)
create_law listed pri l n small room (Open x part) s q r h = absurd (false≢true (never_nine s q r h))

-- a Close
close_law : Law Closing (Ends ∷ [])
unfolding act
close_law l n small room Shut s q r h = panel_ignores s q r h
close_law l n small room (Open x part) s q r h = rw (closed_says n small) (panel_ended s q r h)

-- a close by the host
local_law : Law LocalClose []
unfolding act
local_law l n small room Shut s q r h = rw (append-nil r) h
local_law l n small room (Open x part) s q r h = rw (closed_says n small) (panel_closes_law s q r h)

-- data
bring_law : (offer : Offer) (bytes : List ℕ) → Law (Bring offer bytes) []
unfolding act landed
bring_law offer bytes l n small room Shut s q r h = rw (append-nil r) h
bring_law offer bytes l n small room (Open x part) s q r h = rw (append-nil r) h

-- ---- the Capabilities request

-- it leaves every number
readied_view : (n : ℕ) (p : State) (version : ℕ) → view n (readied p version).state ≡ view n p
unfolding readied view view_at number_place record_at
readied_view n p version = refl

-- its reply says nothing of a number
readied_says : (n : ℕ) (p : State) (version : ℕ) (u : List (List ℕ)) → ups n (post u (readied p version).reply) ≡ ups n u
unfolding readied
readied_says n p version u = post_silent (up_of n) u response_sent refl

-- a Create request with a list within its rule
create_act_law : (list name : List ℕ) (pri : ℕ) → good_list list ≡ true → create_act list name pri ≡ Create (is_listed list name) pri
unfolding create_act
create_act_law list name pri good = rw good

-- ---- answers other than refusals 9 and 16

-- neither of the two
abbrev pub fair : Answer → Bool
fair (Ready level) = true
fair (Opened n) = true
fair (Declined n why) = true
fair (Held n left) = true
fair (Message n len) = true
fair (Closed n) = true
fair (Ignored n) = true
fair (Refused why concern) = not (eqb (refusal_number why) 9 || eqb (refusal_number why) 16)

module _ (n : ℕ) where
  -- of a block
  abbrev Fair : Took → Type 0
  Fair t = fair (answer_to n t) ≡ true

  -- a block that is added
  added_fair : (wanted held len : ℕ) → Fair (added wanted held len)
  unfolding answer_to added
  added_fair wanted held len = choice Fair (ltb wanted (held + len)) (λ e. refl) (λ e. choice Fair (eqb (held + len) wanted) (λ f. refl) (λ f. refl))

  -- a block in any stage
  took_fair : (stage : Stage) (offer : Offer) (len : ℕ) → Fair (took stage offer len)
  unfolding answer_to took took_first
  took_fair Spoiled offer len = refl
  took_fair (Joining wanted held) (First most) len = refl
  took_fair (Joining wanted held) More len = added_fair wanted held len
  took_fair Idle (First most) len = choice Fair (ltb MESSAGE_MAX most) (λ e. refl) (λ e. added_fair most 0 len)
  took_fair Idle More len = refl

-- data gets neither
pub bring_fair : (l n : ℕ) (room : Room) (v : View) (offer : Offer) (bytes : List ℕ) → fair (act l n room v (Bring offer bytes)).answer ≡ true
unfolding act landed
bring_fair l n room Shut offer bytes = refl
bring_fair l n room (Open r part) offer bytes = took_fair n r.stage offer (length bytes)

-- a Close gets neither
pub close_fair : (l n : ℕ) (room : Room) (v : View) → fair (act l n room v Closing).answer ≡ true
unfolding act
close_fair l n room Shut = refl
close_fair l n room (Open r part) = refl

-- a Create gets neither where its number is tied
created_fair :
    (l n : ℕ) (room : Room) (v : View) (listed : Bool) (pri : ℕ) (s : Stand) (q : List Down) (r : List Up) → tie s (has_view v) (Asks ∷ q) r ≡ true
    → fair (act l n room v (Create listed pri)).answer ≡ true
unfolding act opening
created_fair l n NoRoom Shut true pri s q r h = refl
created_fair l n (Spare part) Shut true pri s q r h = refl
created_fair l n room Shut false pri s q r h = refl
created_fair l n room (Open x part) listed pri s q r h = absurd (false≢true (never_nine s q r h))

-- ---- what a step replies

-- an event of a number is of one that four bytes hold
abbrev pub Small : Event → Type 0
Small (Unreadable why) = Unit {0}
Small (Capabilities version) = Unit {0}
Small (Of n a) = n < NUMBERS

-- what is on its way is of such a number
pub taken_small : (list : List ℕ) (v : Value) → Within v → Small (event_of_value list v)
unfolding event_of_value
taken_small list (create_request_law m pri name) w = w
taken_small list (create_response_law m status) w = tt
taken_small list (data_first_law m len block) w = w
taken_small list (data_block m block) w = w
taken_small list (close m) w = w
taken_small list (capabilities_request version charges) w = tt
taken_small list (capabilities_response version) w = tt

-- at most nine bytes
step_short : (p : State) (e : Event) → length (stepped p e).reply ≤ REPLY_MIN
unfolding stepped readied acted finished
step_short p (Unreadable why) = omega arith
step_short p (Capabilities version) =
    choice (λ (s : Stepped). length s.reply ≤ REPLY_MIN) p.table.ready (λ e. omega arith) (λ e. response_short OUR_VERSION)
step_short p (Of n a) =
    choice (λ (s : Stepped). length s.reply ≤ REPLY_MIN) p.table.ready (λ e. act_short p.table.level n (room_in p) (view n p) a) (λ e. omega arith)

-- which the shore can read
pub step_sent : (p : State) (e : Event) → Small e → AllSent false (post [] (stepped p e).reply)
unfolding stepped readied acted finished
step_sent p (Unreadable why) z = tt
step_sent p (Capabilities version) z =
    choice (λ (s : Stepped). AllSent false (post [] s.reply)) p.table.ready (λ e. tt) (λ e. post_sent response_sent)
step_sent p (Of n a) z =
    choice (λ (s : Stepped). AllSent false (post [] s.reply)) p.table.ready
    (λ e. reply_sent z (act_reply p.table.level n (room_in p) (view n p) a)) (λ e. tt)

-- what isn't made ready replies nothing
pub step_unready : (p : State) (e : Event) → p.table.ready ≡ false → (stepped p e).state.table.ready ≡ false → (stepped p e).reply ≡ []
unfolding stepped readied
step_unready p (Unreadable why) u h = refl
step_unready p (Capabilities version) u h = absurd (false≢true (sym h ∙ rw u))
step_unready p (Of n a) u h = rw u

-- a call is a step, and what is sent is its reply
pub call_reply :
    (p : State) (c : Call) → Calm p
    → take (gives p c.asked c.reply).result.sent (gives p c.asked c.reply).reply ≡ (stepped p (event_in c.asked)).reply
unfolding whole_of
call_reply p c g =
    let e = event_in c.asked in
    ap (λ (w : Whole). take w.result.sent w.reply) (call_step p c g.sane)
    ∙ front c.reply (stepped p e).reply (omega (arith, step_short p e, c.enough))

-- ---- every number, at any calm panel

-- a number after a step
abbrev pub After : ℕ → Stand → List Down → List (List ℕ) → Stepped → Type 0
After n s q u r = tie s (has_view (view n r.state)) q (ups n (post u r.reply)) ≡ true

module _ (p : State) (c : Calm p) where
  -- an event that takes x n of what is on its way of a number n
  abbrev pub Keeps : Event → (ℕ → List Down) → Type 0
  Keeps e x =
      (n : ℕ) → (p.table.ready ≡ false → x n ≡ []) → (s : Stand) (q : List Down) (u : List (List ℕ))
      → tie s (has_view (view n p)) (x n ++ q) (ups n u) ≡ true → After n s q u (stepped p e)

  -- an act, by its law
  acts : (m : ℕ) (a : Act) (x : List Down) → m < NUMBERS → FineAct a → Law a x → Keeps (Of m a) (λ n. cond (eqb m n) x [])
  acts m a x small fine law n early s q u h = go p.table.ready refl
    where
      replied : Steady p → ups n (post u (stepped p (Of m a)).reply) ≡ ups n u ++ ups n (post [] (ruled m p a).reply)
      replied g = rw (step_reply p g m a) (marks_post false (up_of n) u (ruled m p a).reply)

      by :
          Steady p → (t : Bool) → eqb m n ≡ t → tie s (has_view (view n p)) (cond t x [] ++ q) (ups n u) ≡ true → After n s q u (stepped p (Of m a))
      by g true e k =
          let same : m ≡ n = eqb-true m n e in
          rw (replied g, ← same, step_own p g m a fine) (law p.table.level m small (room_in p) (view m p) s q (ups m u) (rw (← same) at k))
      by g false e k =
          let none = reply_other n small (act_reply p.table.level m (room_in p) (view m p) a) e in
          rw (replied g, step_other n p g (Of m a) fine e, none, append-nil (ups n u)) k

      go : (t : Bool) → p.table.ready ≡ t → After n s q u (stepped p (Of m a))
      go true e = by (sane_steady p c.sane e) (eqb m n) refl h
      go false e = rw (too_early p m a e) (rw (early e) at h)

  -- that takes nothing
  acts_none : (m : ℕ) (a : Act) → m < NUMBERS → FineAct a → Law a [] → Keeps (Of m a) (λ n. [])
  acts_none m a small fine law n early s q u h =
      acts m a [] small fine law n (λ e. none_either (eqb m n)) s q u (rw (none_either {A = Down} (eqb m n)) h)

  -- data
  brings : (m : ℕ) (offer : Offer) (bytes : List ℕ) → m < NUMBERS → Keeps (Of m (Bring offer bytes)) (λ n. [])
  brings m offer bytes small = acts_none m (Bring offer bytes) small tt (bring_law offer bytes)

  -- its host closes
  pub closes : (m : ℕ) → m < NUMBERS → Keeps (Of m LocalClose) (λ n. [])
  closes m small = acts_none m LocalClose small tt local_law

  -- a PDU that is none of a server's
  strays : (why : Refusal) → Keeps (Unreadable why) (λ n. [])
  unfolding stepped
  strays why n early s q u h = h

  -- a Capabilities request
  readies : (version : ℕ) → Keeps (Capabilities version) (λ n. [])
  readies version n early s q u h = go p.table.ready refl
    where
      go : (t : Bool) → p.table.ready ≡ t → After n s q u (stepped p (Capabilities version))
      go true e = rw (too_late p version e) h
      go false e = rw (made_ready p version e, readied_view n p version, readied_says n p version u) h

  -- it takes a PDU, with a list within its rule
  pub takes :
      (list : List ℕ) → good_list list ≡ true → (v : Value) → Within v → FineEvent (event_of_value list v) → Keeps (event_of_value list v) (λ n. down_of n v)
  unfolding event_of_value
  takes list good (create_request_law m pri name) small fine =
      rw (create_act_law list name pri good)
      (acts m (Create (is_listed list name) pri) (Asks ∷ []) small (rw (create_act_law list name pri good) at fine) (create_law (is_listed list name) pri))
  takes list good (create_response_law m status) small fine = strays WrongTime
  takes list good (data_first_law m len block) small fine = brings m (First len) block small
  takes list good (data_block m block) small fine = brings m More block small
  takes list good (close m) small fine = acts m Closing (Ends ∷ []) small tt close_law
  takes list good (capabilities_request version charges) small fine = readies version
  takes list good (capabilities_response version) small fine = strays WrongTime

  -- ---- refusals 9 and 16 are not among its answers

  -- an act that gets neither of them
  acts_fair :
      (m : ℕ) (a : Act) → ((l : ℕ) (room : Room) → fair (act l m room (view m p) a).answer ≡ true) → too_soon a ≡ WrongTime
      → fair (stepped p (Of m a)).answer ≡ true
  acts_fair m a f soon = go p.table.ready refl
    where
      go : (t : Bool) → p.table.ready ≡ t → fair (stepped p (Of m a)).answer ≡ true
      go true e = rw (step_answer p (sane_steady p c.sane e) m a) (f p.table.level (room_in p))
      go false e = rw (too_early p m a e, soon)

  -- the Capabilities request
  readies_fair : (version : ℕ) → fair (stepped p (Capabilities version)).answer ≡ true
  unfolding readied
  readies_fair version = go p.table.ready refl
    where
      go : (t : Bool) → p.table.ready ≡ t → fair (stepped p (Capabilities version)).answer ≡ true
      go true e = rw (too_late p version e)
      go false e = rw (made_ready p version e)

  -- for what is on its way: of a Create the number is shut
  module _ (list : List ℕ) (good : good_list list ≡ true) (s : ℕ → Stand) (q : ℕ → List Down) (r : ℕ → List Up) where
    -- a Create
    create_fair :
        (m pri : ℕ) (listed : Bool) → tie (s m) (has_view (view m p)) (cond (eqb m m) (Asks ∷ []) [] ++ q m) (r m) ≡ true
        → fair (stepped p (Of m (Create listed pri))).answer ≡ true
    unfolding too_soon
    create_fair m pri listed h =
        let asked : tie (s m) (has_view (view m p)) (Asks ∷ q m) (r m) ≡ true = rw (eq-eqb m m refl) at h in
        acts_fair m (Create listed pri) (λ l room. created_fair l m room (view m p) listed pri (s m) (q m) (r m) asked) refl

    -- any PDU
    pub takes_fair :
        (v : Value) → ((n : ℕ) → tie (s n) (has_view (view n p)) (down_of n v ++ q n) (r n) ≡ true) → fair (stepped p (event_of_value list v)).answer ≡ true
    unfolding event_of_value too_soon stepped
    takes_fair (create_request_law m pri name) h = rw (create_act_law list name pri good) (create_fair m pri (is_listed list name) (h m))
    takes_fair (create_response_law m status) h = refl
    takes_fair (data_first_law m len block) h = acts_fair m (Bring (First len) block) (λ l room. bring_fair l m room (view m p) (First len) block) refl
    takes_fair (data_block m block) h = acts_fair m (Bring More block) (λ l room. bring_fair l m room (view m p) More block) refl
    takes_fair (close m) h = acts_fair m Closing (λ l room. close_fair l m room (view m p)) refl
    takes_fair (capabilities_request version charges) h = readies_fair version
    takes_fair (capabilities_response version) h = refl
