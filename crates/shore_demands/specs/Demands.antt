-- The demands at the shore end, sentence by sentence, where "Demands 2 and 3 read 'the end's own steps'". What is said of
-- reading, writing and cutting by themselves is the same at both ends and stands on the client's page.
use Rattle.std.specs.Prelude.{ℕ, ◌≤◌, ◌<◌, ◌≡◌, ◌≢◌, true, false, ◌&&◌, List, [], ◌∷◌, ◌++◌, length, take, Option}
use Rattle.paper.specs.Sizes.{PARTS, PART, STORE, REPLY_MIN, PDU_MAX}
use Rattle.paper.specs.Rows.{first_held, comes_to}
use Rattle.paper.specs.declared.Refusal.{Refusal}
use Rattle.lists.specs.Bytes.{zeros}
use Rattle.numbers.specs.Numbers.{NUMBERS}
use Rattle.reading.specs.Reading.{read_pdu}
use Rattle.reading.specs.declared.Charges.{Charges}
use Rattle.reading.specs.Grammar.{create_request_law, close, capabilities_request, values, read_as, SmallCharges}
use Rattle.channel.specs.declared.Record.{Record}
use Rattle.channel.specs.declared.Stage.TheVariants.{Idle}
use Rattle.channel.specs.Channel.{LocalClose, Shut, Open, blank, class_at}
use Rattle.table.specs.declared.Table.{Table}
use Rattle.table.specs.Table.{empty_table, number_place, record_at}
use Rattle.table.specs.Totals.{recount}
use Rattle.table.specs.Sound.{sound_table}
use Rattle.store.specs.Parts.{part}
use Rattle.connection.specs.States.{view, Steady}
use Rattle.client.specs.Client.{bad_call, store_started}
use Rattle.steps.specs.Rows.{start_rows, start_outcome}
use Rattle.steps.specs.States.{Calm}
use Rattle.demands.specs.Joining.{Off}
use Rattle.demands.specs.Cut.{Cut, CutByUs}
use Rattle.shore.specs.declared.Shore.{Shore}
use Rattle.shore.specs.declared.Said.TheVariants.{Asked, Awaited, Closed, Refused}
use Rattle.shore.specs.Rules.{Deed, Acts, deed}
use Rattle.shore.specs.Numbers.{least_number}
use Rattle.shore.specs.Events.{Event, Of, event_of}
use Rattle.shore.specs.Shore.{Standing, state_in, stepped, bad_out, received, locally_closed}
use Rattle.shore.specs.Shore.{requested, locally_opened, started}
use Rattle.shore_demands.specs.Runs.{Call, told_to, ends, event_in, is_of, is_event_of, own_events}
use Rattle.shore_demands.specs.Runs.{started_on, JustReady, Running}
use Rattle.shore_demands.specs.Alone.{As, told_alone}
use Rattle.shore_demands.specs.Rows.{outcome_said, receive_rows, request_rows, open_rows, close_rows}
use Rattle.shore_demands.specs.Refused.{RefusedCall, RefusedSending}
use Rattle.shore_demands.specs.Orders.{TwoOrders, SameEitherWay, SameAtTheEnd, told_opening, controls, is_control}
use Rattle.shore_demands.specs.Cut.{cut_events, HandedUpOnce}

-- ======== Demand 1

-- "any order of calls"
pub record AnyOrderOfCalls : Type 0 where
  -- whatever is called, a sound table stays sound
  pub receive :
      (s : Shore) (store pdu reply : List ℕ) → length s.table.records ≡ PARTS → sound_table s.table ≡ true
      → sound_table (received s store pdu reply).result.shore.table ≡ true
  pub local_close :
      (s : Shore) (store : List ℕ) (n : ℕ) (reply : List ℕ) → length s.table.records ≡ PARTS
      → sound_table s.table ≡ true → sound_table (locally_closed s store n reply).result.shore.table ≡ true
  pub request :
      (s : Shore) (version : ℕ) (charges : Charges) (out : List ℕ) → sound_table s.table ≡ true
      → sound_table (requested s version charges out).result.shore.table ≡ true
  pub local_open :
      (s : Shore) (name : List ℕ) (class : ℕ) (out : List ℕ) → length s.table.records ≡ PARTS
      → sound_table s.table ≡ true → sound_table (locally_opened s name class out).result.shore.table ≡ true
  -- from Start, after any calls, ready or not: sixteen records, a sound table, and what is free as Start made it
  pub from_start : (store : List ℕ) → length store ≡ STORE → (xs : List Call) → Calm (state_in (ends (started_on store) xs))
  -- so that no call with a proper buffer meets refusal 1
  pub no_refusal_1 :
      (store : List ℕ) → length store ≡ STORE → (xs : List Call) (reply : List ℕ) → REPLY_MIN ≤ length reply
      → bad_call (ends (started_on store) xs).shore.table (length (ends (started_on store) xs).store) (length reply) ≡ false
  pub nor_in_writing :
      (store : List ℕ) → length store ≡ STORE → (xs : List Call) (out : List ℕ) → PDU_MAX ≤ length out
      → bad_out (ends (started_on store) xs).shore.table (length out) ≡ false

-- "Bad input gets the refusal number that the build paper lists for it."
pub record BadInputGetsItsNumber : Type 0 where
  pub start : (store : List ℕ) → start_outcome (started store).begun ≡ comes_to tt (first_held (start_rows store))
  pub receive :
      (s : Shore) (store pdu reply : List ℕ)
      → outcome_said (received s store pdu reply).result.said
      ≡ comes_to (received s store pdu reply).result.said (first_held (receive_rows s store pdu reply))
  pub local_close :
      (s : Shore) (store : List ℕ) (n : ℕ) (reply : List ℕ)
      → outcome_said (locally_closed s store n reply).result.said
      ≡ comes_to (locally_closed s store n reply).result.said (first_held (close_rows s store n reply))
  pub request :
      (s : Shore) (version : ℕ) (charges : Charges) (out : List ℕ)
      → outcome_said (requested s version charges out).result.said
      ≡ comes_to (requested s version charges out).result.said (first_held (request_rows s version charges out))
  pub local_open :
      (s : Shore) (name : List ℕ) (class : ℕ) (out : List ℕ)
      → outcome_said (locally_opened s name class out).result.said
      ≡ comes_to (locally_opened s name class out).result.said (first_held (open_rows s name class out))

-- "A refusal writes nothing [..] and changes no channel, except that three listed refusals mark the one channel concerned as
-- spoiled", and those of garbled blocks
pub record ARefusalLeavesAll : Type 0 where
  pub receive :
      (s : Shore) (store pdu reply : List ℕ) (why : Refusal) (concern : Option ℕ) → length s.table.records ≡ PARTS
      → (received s store pdu reply).result.said ≡ Refused why concern
      → RefusedCall s store reply (event_of pdu (read_pdu false pdu)) (received s store pdu reply) why concern
  pub local_close :
      (s : Shore) (store : List ℕ) (n : ℕ) (reply : List ℕ) (why : Refusal) (concern : Option ℕ)
      → length s.table.records ≡ PARTS → (locally_closed s store n reply).result.said ≡ Refused why concern
      → RefusedCall s store reply (Of n (Acts LocalClose)) (locally_closed s store n reply) why concern
  pub request :
      (s : Shore) (version : ℕ) (charges : Charges) (out : List ℕ) (why : Refusal) (concern : Option ℕ)
      → (requested s version charges out).result.said ≡ Refused why concern
      → RefusedSending s out (requested s version charges out) concern
  pub local_open :
      (s : Shore) (name : List ℕ) (class : ℕ) (out : List ℕ) (why : Refusal) (concern : Option ℕ)
      → (locally_opened s name class out).result.said ≡ Refused why concern
      → RefusedSending s out (locally_opened s name class out) concern
  pub start :
      (store : List ℕ) → length store ≢ STORE
      → ((started store).shore ≡ record { table = empty_table; asked = 0 }) × (store_started store ≡ store)

-- ======== Demand 2

-- the steps: on any sound, ready table with any store of its size
pub record StepsAreSo : Type 0 where
  -- an event of a number does what the rules of one number say
  pub own :
      (st : Standing) → Steady (state_in st) → (n : ℕ) (d : Deed)
      → view n (state_in (stepped st (Of n d)).state) ≡ (deed st.shore.table.level n (view n (state_in st)) d).view
  pub said :
      (st : Standing) → Steady (state_in st) → (n : ℕ) (d : Deed)
      → (stepped st (Of n d)).said ≡ (deed st.shore.table.level n (view n (state_in st)) d).said
  pub sent :
      (st : Standing) → Steady (state_in st) → (n : ℕ) (d : Deed)
      → (stepped st (Of n d)).sent ≡ (deed st.shore.table.level n (view n (state_in st)) d).sent
  -- and leaves every other number
  pub others :
      (n : ℕ) (st : Standing) → Steady (state_in st) → (e : Event) → is_of n st e ≡ false
      → view n (state_in (stepped st e).state) ≡ view n (state_in st)
  -- "under the smallest number from 1 up that no open or awaited channel has"
  pub smallest_has_no_record : (t : Table) → length t.records ≡ PARTS → PARTS ≤ number_place (least_number t) t
  pub each_smaller_has_one : (t : Table) (i : ℕ) → 1 ≤ i → i < least_number t → number_place i t < PARTS
  pub from_1_up : (t : Table) → 1 ≤ least_number t
  -- a status below zero and a close leave the record as Start made it, and the part zero
  pub freed :
      (st : Standing) → Steady (state_in st) → (n : ℕ) (d : Deed) (r : Record) (b : List ℕ)
      → view n (state_in st) ≡ Open r b → (deed st.shore.table.level n (Open r b) d).view ≡ Shut
      → (record_at (stepped st (Of n d)).state.shore.table (number_place n st.shore.table) ≡ blank)
      × (part (stepped st (Of n d)).state.store (number_place n st.shore.table) ≡ zeros PART)
  -- from a connection just made ready on, every number is told what its own events alone should tell it
  pub every_call :
      (st : Standing) → JustReady st → (xs : List Call) (n : ℕ)
      → told_to n st xs ≡ told_alone st.shore.table.level n (As Off) (own_events n st xs)

-- "What we write we read back as the same values": what the shore sends is read by the client
pub record WhatItSendsIsReadBack : Type 0 where
  pub request :
      (s : Shore) (version : ℕ) (charges : Charges) (out : List ℕ) → SmallCharges charges
      → (requested s version charges out).result.said ≡ Asked version
      → read_as true (take (requested s version charges out).result.sent (requested s version charges out).out)
      ≡ values (capabilities_request version charges)
  pub local_open :
      (s : Shore) (name : List ℕ) (class n : ℕ) (out : List ℕ)
      → (locally_opened s name class out).result.said ≡ Awaited n
      → read_as true (take (locally_opened s name class out).result.sent (locally_opened s name class out).out)
      ≡ values (create_request_law n (class_at s.table.level class) name)
  pub local_close :
      (s : Shore) (store : List ℕ) (n : ℕ) (reply : List ℕ) → n < NUMBERS
      → (locally_closed s store n reply).result.said ≡ Closed n
      → read_as true (take (locally_closed s store n reply).result.sent (locally_closed s store n reply).reply)
      ≡ values (close n)

-- "A message of up to 4,096 bytes, cut by us and received on an open, idle channel, is handed up once, with the same bytes."
-- Other numbers' events may stand between, local opens among them
abbrev pub CutByUsIsHandedUpOnce : Type 0
CutByUsIsHandedUpOnce =
    (n : ℕ) (m : List ℕ) (lent : ℕ → List ℕ) (cs : List Cut) → n < NUMBERS → CutByUs n m lent cs
    → (st : Standing) → Steady (state_in st)
    → (r : Record) (bytes : List ℕ) → view n (state_in st) ≡ Open r bytes → r.awaited ≡ false → r.stage ≡ Idle
    → (xs : List Call) → own_events n st xs ≡ cut_events cs
    → HandedUpOnce n m cs r st xs

-- ======== Demand 3

-- "At this end 'just made ready' is Start, the request sent, then one accepted Capabilities response"
pub record AConnectionJustMadeReady : Type 0 where
  -- there is one
  pub state : Standing
  pub is_ready : JustReady state
  -- and every state of a run from one is ready, sound, at the same level, and has what is free as Start made it
  pub runs_on : (st : Standing) → JustReady st → (xs : List Call) → Running st.shore.table.level (ends st xs)

pub record TwoOrdersMeanThis : Type 0 where
  -- what numbers local opens get hangs on the local opens, Create responses and closes alone: whatever data stands between,
  -- all local opens are told the same
  pub numbers_alike :
      (st : Standing) → JustReady st → (xs ys : List Call) → controls xs ≡ controls ys
      → told_opening st xs ≡ told_opening st ys
  -- exchanging two neighbours of which one at least is no local open, Create response or close, and which are not both events
  -- of one number, is such a reordering
  pub an_exchange :
      (st : Standing) → JustReady st → (zs ws : List Call) (x y : Call)
      → (is_control (event_in x.asked) && is_control (event_in y.asked)) ≡ false
      → ((n : ℕ) → is_event_of n (ends st zs) x ≡ true → is_event_of n (ends st zs) y ≡ true → ⊥)
      → TwoOrders st (zs ++ (x ∷ y ∷ ws)) (zs ++ (y ∷ x ∷ ws))

-- "Then each channel gets the same answers and replies, and its messages are exactly those that demand 2 gives for its own
-- events alone, each once. At the end each open channel has the same record and the same stored bytes." Totals too. A full
-- table needs no supposition here: what meets one stays in one order
pub record EitherOrderIsTheSame : Type 0 where
  pub each_channel :
      (st : Standing) → JustReady st → (xs ys : List Call) → TwoOrders st xs ys → (n : ℕ) → SameEitherWay st xs ys n
  pub at_the_end :
      (st : Standing) → JustReady st → (xs ys : List Call) → TwoOrders st xs ys → SameAtTheEnd (ends st xs) (ends st ys)

-- ======== Totals: "equal to the recount after every call of this end too"

pub record TotalsAreTheRecount : Type 0 where
  pub receive :
      (s : Shore) (store pdu reply : List ℕ) → length s.table.records ≡ PARTS → sound_table s.table ≡ true
      → (received s store pdu reply).result.shore.table.totals
      ≡ recount (received s store pdu reply).result.shore.table.records
  pub local_close :
      (s : Shore) (store : List ℕ) (n : ℕ) (reply : List ℕ) → length s.table.records ≡ PARTS
      → sound_table s.table ≡ true
      → (locally_closed s store n reply).result.shore.table.totals
      ≡ recount (locally_closed s store n reply).result.shore.table.records
  pub request :
      (s : Shore) (version : ℕ) (charges : Charges) (out : List ℕ) → sound_table s.table ≡ true
      → (requested s version charges out).result.shore.table.totals
      ≡ recount (requested s version charges out).result.shore.table.records
  pub local_open :
      (s : Shore) (name : List ℕ) (class : ℕ) (out : List ℕ) → length s.table.records ≡ PARTS
      → sound_table s.table ≡ true
      → (locally_opened s name class out).result.shore.table.totals
      ≡ recount (locally_opened s name class out).result.shore.table.records
  -- an awaited number counts for neither
  pub awaited_adds_nothing : (r : Record) → r.awaited ≡ true → recount (r ∷ []) ≡ recount []
