-- Each event at the shore keeps the tie of every number, and no Create response finds its number not awaited.
-- Assumes nothing.
use mathlib.Core.Path.{◌≡◌, refl, ap, ◌∙◌}
use mathlib.Core.Logic.{⊎_elim}
use mathlib.Core.Bool.{Bool, true, false, not, cond, ◌||◌}
use mathlib.Core.List.{List, [], ◌∷◌, ◌++◌, append-nil}
use Prim.Native.Nat.{ℕ, ◌≤◌, ◌<◌}
use native.Mathlib.Omega.{arith}
use borrow.Author.Tests.{eqb-true, eq-eqb}
use lib.Dec.{eqb}
use lib.IntN.{ℤ, pos, negsuc}
use Rattle.paper.specs.Sizes.{PARTS}
use Rattle.paper.specs.Refusals.{refusal_number}
use Rattle.paper.specs.declared.Refusal.{Refusal}
use Rattle.paper.specs.declared.Refusal.TheVariants.{WrongTime}
use Rattle.lists.proofs.Cases.{choice, and_false}
use Rattle.numbers.specs.Numbers.{NUMBERS}
use Rattle.reading.specs.declared.Charges.{Charges}
use Rattle.reading.specs.Grammar.{Value, create_request_law, create_response_law, data_first_law, data_block, close, capabilities_request}
use Rattle.reading.specs.Grammar.{capabilities_response, SmallCharges}
use Rattle.laying.specs.Laying.{create_request_bytes, close_bytes, caps_request_bytes}
use Rattle.writing.specs.Writing.{bad_capabilities}
use Rattle.channel.specs.declared.Offer.{Offer}
use Rattle.channel.specs.declared.Offer.TheVariants.{First, More}
use Rattle.channel.specs.declared.Record.{Record}
use Rattle.channel.specs.declared.Answer.{Answer}
use Rattle.channel.specs.declared.Answer.TheVariants as client
use Rattle.channel.specs.Channel.{Act, BadCreate, Create, Bring, Garbled, Closing, LocalClose, View, Shut, Open, NoRoom, landed, act}
use Rattle.deciding.specs.Deciding.{too_soon}
use Rattle.table.specs.declared.Table.{Table}
use Rattle.table.specs.Table.{number_place, record_at}
use Rattle.connection.specs.States.{state_of, view_at, view, Steady}
use Rattle.steps.specs.States.{Calm}
use Rattle.steps.proofs.Calm.{sane_steady}
use Rattle.shore.specs.declared.Said.{Said}
use Rattle.shore.specs.declared.Said.TheVariants.{Asked, Ready, Awaited, Opened, Declined, Held, Message, Closed, Ignored, Refused}
use Rattle.shore.specs.Saying.{said_as}
use Rattle.shore.specs.Rules.{Deed, Answered, Acts, Does, is_below_zero, awaited_record, settled, settled_record, unawaited, as_open}
use Rattle.shore.specs.Rules.{common, deed}
use Rattle.shore.specs.Events.{Event, Unreadable, Asking, Response, Opening, Of}
use Rattle.shore.specs.Shore.{Standing, state_in, Stepped, refused, asking, readied, responded, level_between, number_next, class_in}
use Rattle.shore.specs.Shore.{opening, done, finished, too_soon_for, stepped}
use Rattle.shore.proofs.Least.{least_range}
use Rattle.shore_demands.specs.Runs.{granted, is_of}
use Rattle.shore_demands.proofs.Frame.{ruled, FineEvent, step_own, step_said, step_sent, step_other, Grants, denied_or_granted}
use Rattle.shore_demands.proofs.Frame.{waiting, next_shut, open_own}
use Rattle.joined.specs.Ends.{post}
use Rattle.joined.proofs.Ties.{Stand, Vacant, Waits, Opens, Down, Asks, Ends, Up, Yes, No, Over, tie, says, took}
use Rattle.joined.proofs.Ties.{shore_takes_law, never_sixteen, shore_asks, shore_ends}
use Rattle.shore_demands.proofs.Values.{event_of_value as said_by}
use Rattle.joined.proofs.Queues.{Sent, AllSent, marks_post, post_sent, post_says, post_silent, none_either, down_of, up_of, downs}
use Rattle.joined.proofs.Bytes.{close_sent, create_sent, request_sent, Within}
use Rattle.joined.proofs.Panel.{fair, bring_fair, close_fair}

-- how a number stands
abbrev pub stand_if : Bool → Stand
stand_if true = Waits
stand_if false = Opens

-- by its record
abbrev pub stand_of : View → Stand
stand_of Shut = Vacant
stand_of (Open r part) = stand_if r.awaited

-- ---- what a number's rules send: a Close of its own or nothing

pub data Sending (n : ℕ) (bytes : List ℕ) : Type 0 where
  none : bytes ≡ [] → Sending n bytes
  closed : bytes ≡ close_bytes n → Sending n bytes

-- a close by the host
closing_sends : (l n : ℕ) (v : View) → Sending n (act l n NoRoom v LocalClose).reply
unfolding act
closing_sends l n Shut = none refl
closing_sends l n (Open r part) = closed refl

-- what both ends have in common
common_sends : (l n : ℕ) (v : View) (a : Act) → Sending n (common v a (act l n NoRoom (as_open v) a)).sent
unfolding common
common_sends l n v BadCreate = none refl
common_sends l n v (Create listed pri) = none refl
common_sends l n v (Bring offer bytes) = none refl
common_sends l n v (Garbled why) = none refl
common_sends l n v Closing = none refl
common_sends l n v LocalClose = closing_sends l n (as_open v)

-- a response is taken in silence
settled_silent : (n : ℕ) (r : Record) (part : List ℕ) (status : ℤ) → (settled n r part status).sent ≡ []
unfolding settled
settled_silent n r part (pos k) = refl
settled_silent n r part (negsuc k) = refl

-- of any number
answer_silent : (l n : ℕ) (v : View) (status : ℤ) → (deed l n v (Answered status)).sent ≡ []
unfolding deed
answer_silent l n Shut status = refl
answer_silent l n (Open r part) status = choice (λ (d : Does). d.sent ≡ []) r.awaited (λ e. settled_silent n r part status) (λ e. refl)

-- every deed sends one of the two
pub deed_sends : (l n : ℕ) (v : View) (d : Deed) → Sending n (deed l n v d).sent
unfolding deed
deed_sends l n Shut (Answered status) = none (answer_silent l n Shut status)
deed_sends l n (Open r part) (Answered status) = none (answer_silent l n (Open r part) status)
deed_sends l n Shut (Acts a) = common_sends l n Shut a
deed_sends l n (Open r part) (Acts a) = common_sends l n (Open r part) a

-- the panel can read it
pub sending_sent : {n : ℕ} {bytes : List ℕ} → n < NUMBERS → Sending n bytes → AllSent true (post [] bytes)
sending_sent small (none e) = rw e tt
sending_sent {n} small (closed e) = rw e (post_sent (close_sent true n small))

-- it is of no other number
sending_other : {m : ℕ} {bytes : List ℕ} (n : ℕ) → m < NUMBERS → Sending m bytes → eqb m n ≡ false → downs n (post [] bytes) ≡ []
sending_other n small (none e) h = rw e
sending_other {m} n small (closed e) h = rw e (post_says (down_of n) (close_sent true m small) ∙ rw h)

-- ---- one number: a deed that takes so much of what is on its way to the shore, with what it sends behind all else

-- the tie goes on
abbrev Law : Deed → List Up → Type 0
Law d y =
    (l n : ℕ) → n < NUMBERS → (v : View) (p : Bool) (q : List Down) (r : List Up) → tie (stand_of v) p q (y ++ r) ≡ true
    → tie (stand_of (deed l n v d).view) p (q ++ downs n (post [] (deed l n v d).sent)) r ≡ true

-- a response, by whether it opens
answered_stand : (l n : ℕ) (v : View) (status : ℤ) → stand_of (deed l n v (Answered status)).view ≡ took (stand_of v) (says (not (is_below_zero status)))
unfolding deed settled settled_record
answered_stand l n Shut status = refl
answered_stand l n (Open r part) (pos k) = go r.awaited refl
  where
    go : (t : Bool) → r.awaited ≡ t → stand_of (cond t (settled n r part (pos k)) (unawaited n (Open r part))).view ≡ took (stand_if t) Yes
    go true e = refl
    go false e = rw e
answered_stand l n (Open r part) (negsuc k) = go r.awaited refl
  where
    go : (t : Bool) → r.awaited ≡ t → stand_of (cond t (settled n r part (negsuc k)) (unawaited n (Open r part))).view ≡ took (stand_if t) No
    go true e = refl
    go false e = rw e

-- a Create response
answered_law : (status : ℤ) → Law (Answered status) (says (not (is_below_zero status)) ∷ [])
answered_law status l n small v p q r h =
    rw (answered_stand l n v status, answer_silent l n v status, append-nil q) (shore_takes_law (stand_of v) (says (not (is_below_zero status))) p q r h)

-- a Close frees an open number, and is passed by an awaited one
closed_stand : (l n : ℕ) (v : View) → stand_of (deed l n v (Acts Closing)).view ≡ took (stand_of v) Over
unfolding deed common act
closed_stand l n Shut = refl
closed_stand l n (Open r part) = go r.awaited refl
  where
    go : (t : Bool) → r.awaited ≡ t → stand_of (cond t (Open r part) (act l n NoRoom (cond t Shut (Open r part)) Closing).view) ≡ took (stand_if t) Over
    go true e = rw e
    go false e = refl

-- what is received sends nothing
close_silent : (l n : ℕ) (v : View) → (deed l n v (Acts Closing)).sent ≡ []
unfolding deed common
close_silent l n Shut = refl
close_silent l n (Open r part) = refl

-- data neither
bring_silent : (l n : ℕ) (v : View) (offer : Offer) (bytes : List ℕ) → (deed l n v (Acts (Bring offer bytes))).sent ≡ []
unfolding deed common
bring_silent l n Shut offer bytes = refl
bring_silent l n (Open r part) offer bytes = refl

-- a Close
closed_law : Law (Acts Closing) (Over ∷ [])
closed_law l n small v p q r h = rw (closed_stand l n v, close_silent l n v, append-nil q) (shore_takes_law (stand_of v) Over p q r h)

-- data moves no number
bring_stand : (l n : ℕ) (v : View) (offer : Offer) (bytes : List ℕ) → stand_of (deed l n v (Acts (Bring offer bytes))).view ≡ stand_of v
unfolding deed common act landed
bring_stand l n Shut offer bytes = refl
bring_stand l n (Open r part) offer bytes = go r.awaited
  where
    go :
        (t : Bool) → stand_of (cond t (Open r part) (act l n NoRoom (cond t Shut (Open r part)) (Bring offer bytes)).view) ≡ stand_if r.awaited
    go true = refl
    go false = refl

-- data
bring_law : (offer : Offer) (bytes : List ℕ) → Law (Acts (Bring offer bytes)) []
bring_law offer bytes l n small v p q r h = rw (bring_stand l n v offer bytes, bring_silent l n v offer bytes, append-nil q) h

-- the host closes: an open number only
closed_says : (n : ℕ) → n < NUMBERS → downs n (post [] (close_bytes n)) ≡ Ends ∷ []
closed_says n small = post_says (down_of n) (close_sent true n small) ∙ rw (eq-eqb n n refl)

-- a close by the host
local_law : Law (Acts LocalClose) []
unfolding deed common act
local_law l n small Shut p q r h = rw (append-nil q) h
local_law l n small (Open x part) p q r h = go x.awaited refl h
  where
    go :
        (t : Bool) → x.awaited ≡ t → tie (stand_if t) p q r ≡ true
        → tie (stand_of (cond t (Open x part) (act l n NoRoom (cond t Shut (Open x part)) LocalClose).view)) p
        (q ++ downs n (post [] (act l n NoRoom (cond t Shut (Open x part)) LocalClose).reply)) r ≡ true
    go true e k = rw (append-nil q, e) k
    go false e k = rw (closed_says n small) (shore_ends p q r k)

-- ---- answers other than refusals 9 and 16

-- neither of the two
abbrev pub fair_said : Said → Bool
fair_said (Asked version) = true
fair_said (Ready level) = true
fair_said (Awaited n) = true
fair_said (Opened n) = true
fair_said (Declined n) = true
fair_said (Held n left) = true
fair_said (Message n len) = true
fair_said (Closed n) = true
fair_said (Ignored n) = true
fair_said (Refused why concern) = not (eqb (refusal_number why) 9 || eqb (refusal_number why) 16)

-- what both ends have in common, said here
said_fair : (a : Answer) → fair_said (said_as a) ≡ fair a
unfolding said_as
said_fair (client.Ready level) = refl
said_fair (client.Opened n) = refl
said_fair (client.Declined n why) = refl
said_fair (client.Held n left) = refl
said_fair (client.Message n len) = refl
said_fair (client.Closed n) = refl
said_fair (client.Ignored n) = refl
said_fair (client.Refused why concern) = refl

-- an act that gets neither of them
acted_fair : (l n : ℕ) (v : View) (a : Act) → fair (act l n NoRoom (as_open v) a).answer ≡ true → fair_said (deed l n v (Acts a)).said ≡ true
unfolding deed common
acted_fair l n Shut a h = said_fair (act l n NoRoom Shut a).answer ∙ h
acted_fair l n (Open r part) a h = said_fair (act l n NoRoom (as_open (Open r part)) a).answer ∙ h

-- an awaited number that is opened or freed
settled_fair : (n : ℕ) (r : Record) (part : List ℕ) (status : ℤ) → fair_said (settled n r part status).said ≡ true
unfolding settled
settled_fair n r part (pos k) = refl
settled_fair n r part (negsuc k) = refl

-- a response to an awaited number
answered_fair : (l n : ℕ) (v : View) (status : ℤ) → stand_of v ≡ Waits → fair_said (deed l n v (Answered status)).said ≡ true
unfolding deed
answered_fair l n Shut status e = let z : ◌≡◌ {A = ℕ} 0 1 = cc in absurd (omega arith)
answered_fair l n (Open r part) status e = go r.awaited e
  where
    go : (t : Bool) → stand_if t ≡ Waits → fair_said (cond t (settled n r part status) (unawaited n (Open r part))).said ≡ true
    go true e = settled_fair n r part status
    go false e = let z : ◌≡◌ {A = ℕ} 0 1 = cc in absurd (omega arith)

-- ---- steps

-- not ready, an event of a number is refused
too_early : (st : Standing) (m : ℕ) (d : Deed) → st.shore.table.ready ≡ false → stepped st (Of m d) ≡ refused st (too_soon_for d)
unfolding stepped
too_early st m d e = rw e

-- made ready, every number is as it was
readied_view : (n : ℕ) (t : Table) (level : ℕ) (store : List ℕ) → view n (state_of (readied t level) store) ≡ view n (state_of t store)
unfolding readied view view_at number_place record_at
readied_view n t level store = refl

-- a number of a local open is at most 17
pub next_small : (st : Standing) → number_next st < NUMBERS
unfolding PARTS
next_small st = omega (arith, (least_range st.shore.table).1)

-- an event of another number
of_other : (st : Standing) (m n : ℕ) (d : Deed) → eqb m n ≡ false → is_of n st (Of m d) ≡ false
unfolding is_of
of_other st m n d e = e

-- the request is of no number
request_says :
    (n version : ℕ) (charges : Charges) → SmallCharges charges → bad_capabilities version charges ≡ false → (q : List (List ℕ))
    → downs n (post q (caps_request_bytes version charges)) ≡ downs n q
request_says n version charges small good q = post_silent (down_of n) q (request_sent version charges small good) refl

-- a local open that isn't refused: what it sends, and how its number and the others stand then
module _ (st : Standing) (name : List ℕ) (class : ℕ) where
  -- the Create request
  pub open_sent : Grants st name class (opening st name class) → Sent true (opening st name class).sent
  open_sent o =
      rw (ap (λ (s : Stepped). s.sent) o.is) (create_sent (number_next st) (class_in st class) name (next_small st) o.good o.short)

  -- it asks for its number
  open_says :
      Grants st name class (opening st name class) → (n : ℕ) (t : Bool) → eqb (number_next st) n ≡ t → (q : List (List ℕ))
      → downs n (post q (opening st name class).sent) ≡ downs n q ++ cond t (Asks ∷ []) []
  open_says o n t e q =
      let bytes = create_request_bytes (number_next st) (class_in st class) name in
      ap (λ (s : Stepped). downs n (post q s.sent)) o.is ∙ marks_post true (down_of n) q bytes
      ∙ ap (λ (l : List Down). downs n q ++ l)
      (post_says (down_of n) (create_sent (number_next st) (class_in st class) name (next_small st) o.good o.short) ∙ rw e)

  -- which is awaited
  waiting_stand : stand_of (waiting st name class) ≡ Waits
  unfolding awaited_record
  waiting_stand = refl

  -- every other number is as it was
  open_other :
      Steady (state_in st) → (n : ℕ) → eqb (number_next st) n ≡ false → view n (state_in (opening st name class).state) ≡ view n (state_in st)
  unfolding stepped is_of
  open_other g n e = step_other n st g (Opening name class) (rw e (and_false (granted st name class)))

-- ---- what a step sends

-- an event of a number is of one that four bytes hold, the request's charges are of two bytes, a version is from 1 on
abbrev pub Fine : Event → Type 0
Fine (Unreadable why) = Unit {0}
Fine (Asking version charges) = SmallCharges charges
Fine (Response version) = 1 ≤ version
Fine (Opening name class) = Unit {0}
Fine (Of n d) = n < NUMBERS

-- as the steps need it
pub fine_event : (e : Event) → Fine e → FineEvent e
fine_event (Unreadable why) z = tt
fine_event (Asking version charges) z = tt
fine_event (Response version) z = z
fine_event (Opening name class) z = tt
fine_event (Of n d) z = tt

-- what is on its way is such an event
pub taken_fine : (v : Value) → Within v → Fine (said_by v)
taken_fine (create_request_law m pri name) w = tt
taken_fine (create_response_law m status) w = w
taken_fine (data_first_law m len block) w = w
taken_fine (data_block m block) w = w
taken_fine (close m) w = w
taken_fine (capabilities_request version charges) w = tt
taken_fine (capabilities_response version) w = w

-- the panel can read it
pub step_sends : (st : Standing) (e : Event) → Fine e → AllSent true (post [] (stepped st e).sent)
unfolding stepped asking responded done finished
step_sends st (Unreadable why) z = tt
step_sends st (Asking version charges) z =
    choice (λ (s : Stepped). AllSent true (post [] s.sent)) (not (eqb st.shore.asked 0)) (λ e. tt)
    (λ e. choice (λ (s : Stepped). AllSent true (post [] s.sent)) (bad_capabilities version charges) (λ f. tt)
    (λ f. post_sent (request_sent version charges z f)))
step_sends st (Response version) z =
    choice (λ (s : Stepped). AllSent true (post [] s.sent)) (st.shore.table.ready || eqb st.shore.asked 0) (λ e. tt) (λ e. tt)
step_sends st (Opening name class) z = ⊎_elim (λ d. rw d.is tt) (λ o. post_sent (open_sent st name class o)) (denied_or_granted st name class)
step_sends st (Of n d) z =
    choice (λ (s : Stepped). AllSent true (post [] s.sent)) st.shore.table.ready
    (λ e. sending_sent z (deed_sends st.shore.table.level n (view n (state_in st)) d)) (λ e. tt)

-- not ready, nothing is sent of any number
pub step_unready :
    (st : Standing) (e : Event) → Fine e → st.shore.table.ready ≡ false → (n : ℕ) (q : List (List ℕ)) → downs n (post q (stepped st e).sent) ≡ downs n q
unfolding stepped asking responded opening
step_unready st (Unreadable why) z u n q = refl
step_unready st (Asking version charges) z u n q =
    choice (λ (s : Stepped). downs n (post q s.sent) ≡ downs n q) (not (eqb st.shore.asked 0)) (λ e. refl)
    (λ e. choice (λ (s : Stepped). downs n (post q s.sent) ≡ downs n q) (bad_capabilities version charges) (λ f. refl)
    (λ f. request_says n version charges z f q))
step_unready st (Response version) z u n q =
    choice (λ (s : Stepped). downs n (post q s.sent) ≡ downs n q) (st.shore.table.ready || eqb st.shore.asked 0) (λ e. refl) (λ e. refl)
step_unready st (Opening name class) z u n q = rw u
step_unready st (Of m d) z u n q = rw u

-- ---- every number, at any calm shore

-- a number after a step
abbrev pub After : ℕ → Bool → List (List ℕ) → List Up → Stepped → Type 0
After n p q r s = tie (stand_of (view n (state_in s.state))) p (downs n (post q s.sent)) r ≡ true

module _ (st : Standing) (c : Calm (state_in st)) where
  -- an event that takes y n of what is on its way of a number n; not ready, every number is vacant
  abbrev pub Keeps : Event → (ℕ → List Up) → Type 0
  Keeps e y =
      (n : ℕ) → (st.shore.table.ready ≡ false → view n (state_in st) ≡ Shut) → (p : Bool) (q : List (List ℕ)) (r : List Up)
      → tie (stand_of (view n (state_in st))) p (downs n q) (y n ++ r) ≡ true
      → After n p q r (stepped st e)

  -- a vacant number passes what is taken
  abbrev Passed : List Up → Type 0
  Passed y = (p : Bool) (q : List Down) (r : List Up) → tie Vacant p q (y ++ r) ≡ true → tie Vacant p q r ≡ true

  -- a deed, by its law
  acts : (m : ℕ) (d : Deed) (y : List Up) → m < NUMBERS → Law d y → Passed y → Keeps (Of m d) (λ n. cond (eqb m n) y [])
  acts m d y small law pass n still p q r h = go st.shore.table.ready refl
    where
      sent : Steady (state_in st) → downs n (post q (stepped st (Of m d)).sent) ≡ downs n q ++ downs n (post [] (ruled m st d).sent)
      sent g = rw (step_sent st g m d) (marks_post true (down_of n) q (ruled m st d).sent)

      by : Steady (state_in st) → (t : Bool) → eqb m n ≡ t → tie (stand_of (view n (state_in st))) p (downs n q) (cond t y [] ++ r) ≡ true
          → After n p q r (stepped st (Of m d))
      by g true e k =
          let same : m ≡ n = eqb-true m n e in
          rw (sent g, ← same, step_own st g m d) (law st.shore.table.level m small (view m (state_in st)) p (downs m q) r (rw (← same) at k))
      by g false e k =
          let none = sending_other n small (deed_sends st.shore.table.level m (view m (state_in st)) d) e in
          rw (sent g, step_other n st g (Of m d) (of_other st m n d e), none, append-nil (downs n q)) k

      vacant : view n (state_in st) ≡ Shut → (t : Bool) → tie (stand_of (view n (state_in st))) p (downs n q) (cond t y [] ++ r) ≡ true
          → tie (stand_of (view n (state_in st))) p (downs n q) r ≡ true
      vacant e true k = rw e (pass p (downs n q) r (rw e at k))
      vacant e false k = k

      go : (t : Bool) → st.shore.table.ready ≡ t → After n p q r (stepped st (Of m d))
      go true e = by (sane_steady (state_in st) c.sane e) (eqb m n) refl h
      go false e = rw (too_early st m d e) (vacant (still e) (eqb m n) h)

  -- that takes nothing
  acts_none : (m : ℕ) (d : Deed) → m < NUMBERS → Law d [] → Keeps (Of m d) (λ n. [])
  acts_none m d small law n still p q r h = acts m d [] small law (λ p q r h. h) n still p q r (rw (none_either {A = Up} (eqb m n)) h)

  -- the host closes
  pub closes : (m : ℕ) → m < NUMBERS → Keeps (Of m (Acts LocalClose)) (λ n. [])
  closes m small = acts_none m (Acts LocalClose) small local_law

  -- a PDU that is none of a client's
  strays : (why : Refusal) → Keeps (Unreadable why) (λ n. [])
  unfolding stepped
  strays why n still p q r h = h

  -- a Capabilities response
  readies : (version : ℕ) → Keeps (Response version) (λ n. [])
  unfolding stepped responded
  readies version n still p q r h =
      choice (After n p q r) (st.shore.table.ready || eqb st.shore.asked 0) (λ e. h)
      (λ e. rw (readied_view n st.shore.table (level_between st.shore.asked version) st.store) h)

  -- the request
  pub asks : (version : ℕ) (charges : Charges) → SmallCharges charges → Keeps (Asking version charges) (λ n. [])
  unfolding stepped asking
  asks version charges small n still p q r h =
      choice (After n p q r) (not (eqb st.shore.asked 0)) (λ e. h)
      (λ e. choice (After n p q r) (bad_capabilities version charges) (λ f. h) (λ f. rw (request_says n version charges small f q) h))

  -- a local open
  pub opens : (name : List ℕ) (class : ℕ) → Keeps (Opening name class) (λ n. [])
  unfolding stepped
  opens name class n still p q r h = ⊎_elim (λ d. rw d.is h) (λ o. by o (eqb (number_next st) n) refl) (denied_or_granted st name class)
    where
      by :
          Grants st name class (opening st name class) → (t : Bool) → eqb (number_next st) n ≡ t
          → After n p q r (opening st name class)
      by o true e =
          let g = sane_steady (state_in st) c.sane o.ready in
          let same : number_next st ≡ n = eqb-true (number_next st) n e in
          rw (open_says st name class o n true e q, ← same, open_own st name class g o, waiting_stand st name class)
          (shore_asks p (downs (number_next st) q) r (rw (← same, next_shut st name class g o) at h))
      by o false e =
          let g = sane_steady (state_in st) c.sane o.ready in
          rw (open_says st name class o n false e q, append-nil (downs n q), open_other st name class g n e) h

  -- it takes a PDU
  pub takes : (v : Value) → Within v → Keeps (said_by v) (λ n. up_of n v)
  takes (create_request_law m pri name) small = strays WrongTime
  takes (create_response_law m status) small =
      acts m (Answered status) (says (not (is_below_zero status)) ∷ []) small (answered_law status) (shore_takes_law Vacant (says (not (is_below_zero status))))
  takes (data_first_law m len block) small = acts_none m (Acts (Bring (First len) block)) small (bring_law (First len) block)
  takes (data_block m block) small = acts_none m (Acts (Bring More block)) small (bring_law More block)
  takes (close m) small = acts m (Acts Closing) (Over ∷ []) small closed_law (shore_takes_law Vacant Over)
  takes (capabilities_request version charges) small = strays WrongTime
  takes (capabilities_response version) small = readies version

  -- ---- refusals 9 and 16 are not among its answers

  -- a deed that gets neither of them
  acts_fair :
      (m : ℕ) (d : Deed) → fair_said (deed st.shore.table.level m (view m (state_in st)) d).said ≡ true → too_soon_for d ≡ WrongTime
      → fair_said (stepped st (Of m d)).said ≡ true
  acts_fair m d f soon = go st.shore.table.ready refl
    where
      go : (t : Bool) → st.shore.table.ready ≡ t → fair_said (stepped st (Of m d)).said ≡ true
      go true e = rw (step_said st (sane_steady (state_in st) c.sane e) m d) f
      go false e = rw (too_early st m d e, soon)

  -- data
  bring_said : (m : ℕ) (offer : Offer) (bytes : List ℕ) → fair_said (stepped st (Of m (Acts (Bring offer bytes)))).said ≡ true
  unfolding too_soon_for too_soon
  bring_said m offer bytes =
      let v = view m (state_in st) in
      let l = st.shore.table.level in
      acts_fair m (Acts (Bring offer bytes)) (acted_fair l m v (Bring offer bytes) (bring_fair l m NoRoom (as_open v) offer bytes)) refl

  -- for what is on its way: of a response the number is awaited
  module _ (p : ℕ → Bool) (q : ℕ → List Down) (r : ℕ → List Up) where
    -- a Create response
    answer_said :
        (m : ℕ) (status : ℤ)
        → tie (stand_of (view m (state_in st))) (p m) (q m) (cond (eqb m m) (says (not (is_below_zero status)) ∷ []) [] ++ r m) ≡ true
        → fair_said (stepped st (Of m (Answered status))).said ≡ true
    unfolding too_soon_for
    answer_said m status h =
        let v = view m (state_in st) in
        let waits = never_sixteen (stand_of v) (not (is_below_zero status)) (p m) (q m) (r m) (rw (eq-eqb m m refl) at h) in
        acts_fair m (Answered status) (answered_fair st.shore.table.level m v status waits) refl

    -- any PDU
    pub takes_fair :
        (v : Value) → ((n : ℕ) → tie (stand_of (view n (state_in st))) (p n) (q n) (up_of n v ++ r n) ≡ true) → fair_said (stepped st (said_by v)).said ≡ true
    unfolding stepped responded too_soon_for too_soon
    takes_fair (create_request_law m pri name) h = refl
    takes_fair (create_response_law m status) h = answer_said m status (h m)
    takes_fair (data_first_law m len block) h = bring_said m (First len) block
    takes_fair (data_block m block) h = bring_said m More block
    takes_fair (close m) h =
        let v = view m (state_in st) in
        let l = st.shore.table.level in
        acts_fair m (Acts Closing) (acted_fair l m v Closing (close_fair l m NoRoom (as_open v))) refl
    takes_fair (capabilities_request version charges) h = refl
    takes_fair (capabilities_response version) h =
        choice (λ (s : Stepped). fair_said s.said ≡ true) (st.shore.table.ready || eqb st.shore.asked 0) (λ e. refl) (λ e. refl)
