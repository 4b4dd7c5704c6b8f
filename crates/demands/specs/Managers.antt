-- Demands 2 and 3, and strangers' channels, as properties of any manager: a record of functions on values, with states
-- of any type. They are stated on what the host is told alone: answers, replies and messages. What a call should be told
-- is said by the events alone: whether a Capabilities request came, where each number's joining stands, and whether the
-- paper's own steps on the events before it met a full table. No table, no record and no store of the manager's is looked
-- at.
use Rattle.std.specs.Prelude.{ℕ, ◌≡◌, Bool, true, false, cond, List, [], ◌∷◌, map, eqb, None}
use Rattle.paper.specs.Sizes.{STORE}
use Rattle.paper.specs.declared.Refusal.TheVariants.{WrongTime}
use Rattle.lists.specs.Bytes.{zeros}
use Rattle.laying.specs.Laying.{caps_response_bytes}
use Rattle.channel.specs.declared.Answer.TheVariants.{Ready, Refused}
use Rattle.deciding.specs.Deciding.{too_soon, level_for}
use Rattle.table.specs.Table.{empty_table}
use Rattle.connection.specs.States.{State, state_of}
use Rattle.client.specs.Events.{Event, Unreadable, Capabilities, Of, is_of}
use Rattle.channel.specs.Turns.{OUR_VERSION}
use Rattle.client.specs.Client.{stepped}
use Rattle.demands.specs.Trace.{final, seen, Never}
use Rattle.demands.specs.Runs.{Call, Told, after, told, event_in, is_event_of, events_of, own_events, event_meets_full, started_on}
use Rattle.demands.specs.Joining.{Join, Off, joins_if, join_all, brought, once, handed}
use Rattle.demands.specs.Orders.{TwoOrders}
use Rattle.demands.specs.Telling.{told_if, tells_none}

-- ---- managers

-- a manager with states in S
pub record Manager (S : Type 0) : Type 0 where
  -- as its first Start left it
  pub begin : S
  -- as a new Start on what it holds leaves it
  pub again : S → S
  pub next : S → Call → S
  pub tells : S → Call → Told

-- ours, on a store
unfoldable pub ours : List ℕ → Manager State
ours store = record { begin = started_on store; again = λ st. started_on st.store; next = after; tells = told }

-- a state that calls and new Starts reach
pub data ReachedBy {S : Type 0} (m : Manager S) : S → Type 0 where
  at_first_law : ReachedBy m m.begin
  called : {s : S} (c : Call) → ReachedBy m s → ReachedBy m (m.next s c)
  restarted : {s : S} → ReachedBy m s → ReachedBy m (m.again s)

-- a state that a Start left: the first, or a new one after any calls
pub data JustStarted {S : Type 0} (m : Manager S) : S → Type 0 where
  first_start : JustStarted m m.begin
  new_start : {s : S} → ReachedBy m s → JustStarted m (m.again s)

-- what it tells from a state on, call by call
unfoldable pub every_told : {S : Type 0} → Manager S → S → List Call → List Told
every_told m s xs = seen m.next (λ c. true) m.tells s xs

-- what it tells one channel, in the channel's order
unfoldable pub tells_to : {S : Type 0} → Manager S → S → ℕ → List Call → List Told
tells_to m s n xs = seen m.next (is_event_of n) m.tells s xs

-- ---- what it should tell

-- where each number's joining stands
abbrev pub Stand : Type 0
Stand = ℕ → Join

abbrev pub put : ℕ → Join → Stand → Stand
put n j s = λ m. cond (eqb m n) j (s m)

abbrev pub all_off : Stand
all_off = λ n. Off

-- what the events so far make of the connection
pub record Sight : Type 0 where
  pub ready : Bool
  pub stand : Stand

abbrev pub at_start : Sight
at_start = record { ready = false; stand = all_off }

unfoldable pub sight_next : Bool → Sight → Event → Sight
sight_next full s (Unreadable why) = s
sight_next full s (Capabilities version) = record { ready = true; stand = s.stand }
sight_next full s (Of n a) =
    cond s.ready (record { ready = true; stand = put n (joins_if full (s.stand n) a).join s.stand }) s

-- "Capabilities request: ready. The level in use is the smaller of the server's version and 2."
abbrev pub ready_told : ℕ → Told
ready_told version =
    record { answer = Ready (level_for version); reply = caps_response_bytes OUR_VERSION; message = [] }

unfoldable pub sight_told : Bool → Sight → Event → Told
sight_told full s (Unreadable why) = tells_none (Refused why None)
sight_told full s (Capabilities version) = cond s.ready (tells_none (Refused WrongTime None)) (ready_told version)
sight_told full s (Of n a) = cond s.ready (told_if full n (s.stand n) a) (tells_none (Refused (too_soon a) None))

-- the paper's steps on the events, for the full table alone
unfoldable pub paper_start : State
paper_start = state_of empty_table (zeros STORE)

abbrev pub paper_next : State → Event → State
paper_next p e = (stepped p e).state

-- call by call, from a state of the paper's and what the events so far made
unfoldable pub should_tell : State → Sight → List Event → List Told
should_tell p s [] = []
should_tell p s (e ∷ es) =
    sight_told (event_meets_full p e) s e ∷ should_tell (paper_next p e) (sight_next (event_meets_full p e) s e) es

-- ---- demand 2: from every Start on, every call of every run is told so

unfoldable pub Demand2Of : {S : Type 0} → Manager S → Type 0
Demand2Of {S} m =
    (s : S) → JustStarted m s → (xs : List Call) → every_told m s xs ≡ should_tell paper_start at_start (events_of xs)

-- ---- demand 3: just made ready, two orders, no full table

-- an event of no channel
abbrev pub nobodys : Event → Bool
nobodys (Unreadable why) = true
nobodys (Capabilities version) = true
nobodys (Of n a) = false

unfoldable pub is_nobodys : Call → Bool
is_nobodys c = nobodys (event_in c.asked)

-- no event of the run meets a full table, by the paper's steps
abbrev pub Roomy : State → List Event → Type 0
Roomy p es = Never paper_next event_meets_full p es

-- the channel gets the same in both orders, and its messages are those of the joining, each once
pub record OrdersAlike {S : Type 0} (m : Manager S) (s : S) (xs ys : List Call) (n : ℕ) : Type 0 where
  pub same_told : tells_to m s n xs ≡ tells_to m s n ys
  pub joined : map brought (tells_to m s n xs) ≡ join_all Off (own_events n xs)
  pub each_once : map handed (tells_to m s n xs) ≡ map once (join_all Off (own_events n xs))

-- "exactly those [..] each once": an event of no channel hands up nothing
unfoldable pub stray_up : {S : Type 0} → Manager S → S → List Call → List (List (List ℕ))
stray_up m s xs = seen m.next is_nobodys (λ t c. (m.tells t c).message) s xs

abbrev pub AllEmpty : List (List (List ℕ)) → Type 0
AllEmpty [] = Unit {0}
AllEmpty (up ∷ ups) = (up ≡ []) × AllEmpty ups

pub record Orders {S : Type 0} (m : Manager S) (s : S) (xs ys : List Call) : Type 0 where
  pub each : (n : ℕ) → OrdersAlike m s xs ys n
  pub no_strays : AllEmpty (stray_up m s xs)

unfoldable pub Demand3Of : {S : Type 0} → Manager S → Type 0
Demand3Of {S} m =
    (s : S) → JustStarted m s
    → (c : Call) (version : ℕ) → event_in c.asked ≡ Capabilities version
    → (xs ys : List Call) → TwoOrders xs ys
    → Roomy paper_start (events_of (c ∷ xs)) → Roomy paper_start (events_of (c ∷ ys))
    → Orders m (m.next s c) xs ys

-- ---- strangers: from one ready state, reached from a Start by calls, two runs with the same events of one channel, each of which
-- meets a full table in both or in neither

-- where the paper's steps stand after calls from a Start
abbrev pub paper_after : List Call → State
paper_after before = final paper_next paper_start (events_of before)

-- whether each of a channel's own events met a full table
unfoldable pub flags_for : ℕ → State → List Event → List Bool
flags_for n p es = seen paper_next (is_of n) event_meets_full p es

unfoldable pub StrangersOf : {S : Type 0} → Manager S → Type 0
StrangersOf {S} m =
    (s : S) → JustStarted m s → (before : List Call) → (paper_after before).table.ready ≡ true
    → (n : ℕ) (xs ys : List Call) → own_events n xs ≡ own_events n ys
    → flags_for n (paper_after before) (events_of xs) ≡ flags_for n (paper_after before) (events_of ys)
    → tells_to m (final m.next s before) n xs ≡ tells_to m (final m.next s before) n ys
