-- A connection just made ready: Start, the request sent, one accepted response. Its level is in use, its table is empty, and every state of
-- a run from it is such a state again; every state that calls reach from Start is calm.
-- Assumes nothing.
use mathlib.Core.Path.{◌≡◌, refl, ap, ◌∙◌, subst}
use mathlib.Core.Logic.{◌≢◌}
use mathlib.Core.Bool.{Bool, true, false, cond, not}
use mathlib.Core.List.{List, [], ◌∷◌}
use Prim.Native.Nat.{ℕ, ◌≤◌}
use native.Mathlib.Omega.{arith}
use borrow.Author.Tests.{eqb-true, eq-eqb, ne_eqb}
use lib.Dec.{eqb}
use lib.ListN.{length}
use Rattle.paper.specs.Sizes.{STORE}
use Rattle.lists.specs.Bytes.{zeros}
use Rattle.reading.specs.Reading.{read_pdu, bad_version}
use Rattle.reading.specs.declared.Charges.{Charges}
use Rattle.reading.specs.declared.Pdu.TheVariants.{CapsResponse}
use Rattle.reading.proofs.Placed.{good_version}
use Rattle.writing.specs.Writing.{all_zero, bad_capabilities}
use Rattle.channel.specs.Channel.{Shut}
use Rattle.table.specs.Table.{empty_table}
use Rattle.connection.specs.States.{state_of, view}
use Rattle.client.specs.Client.{store_started}
use Rattle.steps.specs.States.{Calm}
use Rattle.steps.proofs.Calm.{calm_start}
use Rattle.shore.specs.Events.{Event, Asking, Response, event_of}
use Rattle.shore.specs.Shore.{Standing, standing, state_in, with_state, asking, level_between, readied, responded, stepped, started}
use Rattle.demands.proofs.Traces.{trace_inv}
use Rattle.demands.proofs.Orders.{empty_shut, empty_unready}
use Rattle.shore_demands.specs.Runs.{requests, receives, Call, after, ends, event_in, started_on, JustReady, Running}
use Rattle.shore_demands.proofs.Frame.{FineEvent, calm_step}
use Rattle.shore_demands.proofs.Machine.{call_state, fine_call, framed}

-- ---- from Start on

-- Start's table and store, with what was asked for
abbrev empty : ℕ → Standing
empty asked = standing (record { table = empty_table; asked = asked }) (zeros STORE)

-- what Start leaves on a store of its size
pub started_is : (store : List ℕ) → length store ≡ STORE → started_on store ≡ empty 0
unfolding started_on started store_started
started_is store h = rw (eq-eqb (length store) STORE h)

-- every state that calls reach from Start, in any order, is calm
pub calm_call : (st : Standing) → Calm (state_in st) → (c : Call) → Calm (state_in (after st c))
calm_call st g c = rw (call_state st c g.sane) (calm_step st g (event_in c.asked) (fine_call c.asked))

pub calm_run : (st : Standing) → Calm (state_in st) → (xs : List Call) → Calm (state_in (ends st xs))
unfolding ends
calm_run st g [] = g
calm_run st g (c ∷ xs) = calm_run (after st c) (calm_call st g c) xs

-- and so is Start's
pub calm_started : (store : List ℕ) → length store ≡ STORE → Calm (state_in (started_on store))
calm_started store size = rw (started_is store size) calm_start

-- ---- the request, and the response

-- a version that is sent is from 1 on
good_asked : (version : ℕ) (charges : Charges) → bad_capabilities version charges ≡ false → 1 ≤ version
unfolding bad_capabilities
good_asked version charges = go (eqb version 1) refl
  where
    go : (t : Bool) → eqb version 1 ≡ t → cond t (not (all_zero charges)) (bad_version version) ≡ false → 1 ≤ version
    go true e h = omega (arith, eqb-true version 1 e)
    go false e h = (good_version version h).0

-- the request is remembered
request_state : (version : ℕ) (charges : Charges) → bad_capabilities version charges ≡ false → (stepped (empty 0) (Asking version charges)).state ≡ empty version
unfolding stepped asking
request_state version charges h = rw h

-- what the response makes of it
abbrev made : ℕ → ℕ → Standing
made asked version = with_state (empty asked) (state_of (readied empty_table (level_between asked version)) (zeros STORE))

-- once the request is sent
response_state : (asked version : ℕ) → 1 ≤ asked → (stepped (empty asked) (Response version)).state ≡ made asked version
unfolding stepped responded
response_state asked version h =
    let some : asked ≢ 0 = λ e. omega arith in
    rw (empty_unready, ne_eqb asked 0 some)

-- a response that is read
read_response : (pdu : List ℕ) (version : ℕ) → read_pdu false pdu ≡ CapsResponse version → event_in (receives pdu) ≡ Response version
unfolding event_in event_of
read_response pdu version e = rw e

-- a request that is called
event_request : (version : ℕ) (charges : Charges) → event_in (requests version charges) ≡ Asking version charges
unfolding event_in
event_request version charges = refl

module _ (st : Standing) (j : JustReady st) where
  -- a version was asked for
  asked_some : 1 ≤ j.version
  asked_some = good_asked j.version j.charges j.sent

  -- after the request
  asked_state : after (started_on j.store) j.request ≡ empty j.version
  asked_state =
      ap (λ (s : Standing). after s j.request) (started_is j.store j.size)
      ∙ call_state (empty 0) j.request calm_start.sane
      ∙ ap (λ (e : Event). (stepped (empty 0) e).state) (ap event_in j.asks ∙ event_request j.version j.charges)
      ∙ request_state j.version j.charges j.sent

  -- the response
  response_event : event_in j.response.asked ≡ Response j.theirs
  response_event = ap event_in j.answers ∙ read_response j.pdu j.theirs j.accepted

  -- the state that it is
  pub ready_state : st ≡ made j.version j.theirs
  ready_state =
      j.then ∙ ap (λ (s : Standing). after s j.response) asked_state
      ∙ call_state (empty j.version) j.response calm_start.sane
      ∙ ap (λ (e : Event). (stepped (empty j.version) e).state) response_event
      ∙ response_state j.version j.theirs asked_some

  -- it is calm
  made_calm : Calm (state_in (made j.version j.theirs))
  made_calm =
      let fine : 1 ≤ j.theirs = subst FineEvent response_event (fine_call j.response.asked) in
      subst (λ (s : Standing). Calm (state_in s)) (response_state j.version j.theirs asked_some)
      (calm_step (empty j.version) calm_start (Response j.theirs) fine)

  -- ready, and at its level
  made_running : Running (made j.version j.theirs).shore.table.level (made j.version j.theirs)
  unfolding readied
  made_running = record { calm = made_calm; ready = refl; level = refl; asked = asked_some }

  -- with no number open or awaited
  made_shut : (n : ℕ) → view n (state_in (made j.version j.theirs)) ≡ Shut
  unfolding readied
  made_shut n = empty_shut n (level_between j.version j.theirs) (zeros STORE)

  -- it is a state of a run, and no number has a record
  pub running : Running st.shore.table.level st
  running = rw ready_state made_running

  pub shut : (n : ℕ) → view n (state_in st) ≡ Shut
  shut n = rw ready_state (made_shut n)

  -- every state of a run from there is such a state again
  pub runs_on : (xs : List Call) → Running st.shore.table.level (ends st xs)
  unfolding ends
  runs_on xs = trace_inv (framed st.shore.table.level 0) st xs running
