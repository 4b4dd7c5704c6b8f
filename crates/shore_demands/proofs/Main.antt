-- THE DEMANDS AT THE SHORE, on one page, in their own order and words. Each line has a statement, whose text stands in specs/Demands
-- under the name given, over the definitions that the contracts cite; and where its proof is. What a reader must believe is in specs/.
-- Assumes nothing.
use Rattle.shore_demands.specs.Demands.{AnyOrderOfCalls, BadInputGetsItsNumber, ARefusalLeavesAll, StepsAreSo}
use Rattle.shore_demands.specs.Demands.{WhatItSendsIsReadBack, CutByUsIsHandedUpOnce, AConnectionJustMadeReady, TwoOrdersMeanThis}
use Rattle.shore_demands.specs.Demands.{EitherOrderIsTheSame, TotalsAreTheRecount}
use Rattle.shore_demands.specs.Runs.{ends, started_on}
use Rattle.shore.proofs.Least as least
use Rattle.shore_demands.proofs.Frame as frame
use Rattle.shore_demands.proofs.Machine as machine
use Rattle.shore_demands.proofs.Ready as ready
use Rattle.shore_demands.proofs.Sound as sound
use Rattle.shore_demands.proofs.Refusals as refusals
use Rattle.shore_demands.proofs.Leaves as leaves
use Rattle.shore_demands.proofs.ReadBack as back
use Rattle.shore_demands.proofs.Orders as orders
use Rattle.shore_demands.proofs.Numbers as numbers
use Rattle.shore_demands.proofs.Cut as cut
use Rattle.shore_demands.proofs.Sanity as sanity
use Rattle.shore_demands.proofs.Totals as totals

-- ======== Demand 1

-- "Every entry open to callers takes any bytes, any lengths and any order of calls, and comes to an end."
pub any_order_of_calls : AnyOrderOfCalls
any_order_of_calls =
    record {
      receive = sound.receive_sound;
      local_close = sound.local_close_sound;
      request = sound.request_sound;
      local_open = sound.local_open_sound;
      from_start = λ store size xs. ready.calm_run _ (ready.calm_started store size) xs;
      no_refusal_1 = λ store size xs reply h. machine.not_bad (ends (started_on store) xs) (ready.calm_run _ (ready.calm_started store size) xs).sane reply h;
      nor_in_writing = λ store size xs out h. machine.not_bad_out (ends (started_on store) xs) (ready.calm_run _ (ready.calm_started store size) xs).sane out h;
    }

-- "Bad input gets the refusal number that the build paper lists for it."
pub bad_input_gets_its_number : BadInputGetsItsNumber
bad_input_gets_its_number =
    record {
      start = refusals.start_outcome_law;
      receive = refusals.receive_outcome;
      local_close = refusals.local_close_outcome;
      request = refusals.request_outcome;
      local_open = refusals.local_open_outcome;
    }

-- "A refusal writes nothing to the reply or to the message store and changes no channel, except that three listed refusals mark the
-- one channel concerned as spoiled"; with garbled blocks "Demand 1's exceptions grow by refusals 2, 3, 4 and 5 for such PDUs"
pub a_refusal_leaves_all : ARefusalLeavesAll
a_refusal_leaves_all =
    record {
      receive = leaves.receive_refused;
      local_close = leaves.local_close_refused;
      request = λ s version charges out why concern. leaves.request_refused s out why concern version charges;
      local_open = λ s name class out why concern. leaves.local_open_refused s out why concern name class;
      start = leaves.start_leaves;
    }

-- ======== Demand 2

-- "channels opened and closed, and messages cut and joined as [MS-RDPEDYC] version 17.0 and the build paper define", where "Demands 2 and
-- 3 read 'the end's own steps'"
pub steps_are_so : StepsAreSo
steps_are_so =
    record {
      own = frame.step_own;
      said = frame.step_said;
      sent = frame.step_sent;
      others = frame.step_other;
      smallest_has_no_record = least.least_none;
      each_smaller_has_one = least.least_least;
      from_1_up = λ t. (least.least_range t).0;
      freed = frame.freed;
      every_call = orders.every_call;
    }

-- "What we write we read back as the same values."
pub what_it_sends_is_read_back : WhatItSendsIsReadBack
what_it_sends_is_read_back = record { request = back.request_back; local_open = back.local_open_back; local_close = back.local_close_back }

-- "A message of up to 4,096 bytes, cut by us and received on an open, idle channel, is handed up once, with the same bytes."
pub cut_by_us_is_handed_up_once : CutByUsIsHandedUpOnce
cut_by_us_is_handed_up_once = cut.cut_and_joined

-- ======== Demand 3

-- "At this end 'just made ready' is Start, the request sent, then one accepted Capabilities response"
pub a_connection_just_made_ready : AConnectionJustMadeReady
a_connection_just_made_ready = record { state = sanity.just_ready; is_ready = sanity.just_ready_law; runs_on = ready.runs_on }

-- "here local opens, Create responses and closes of either kind stay in one order among themselves"
pub two_orders_mean_this : TwoOrdersMeanThis
two_orders_mean_this = record { numbers_alike = numbers.numbers_alike; an_exchange = numbers.an_exchange }

-- "Then each channel gets the same answers and replies, and its messages are exactly those that demand 2 gives for its own events alone,
-- each once. At the end each open channel has the same record and the same stored bytes."
pub either_order_is_the_same : EitherOrderIsTheSame
either_order_is_the_same =
    record { each_channel = orders.each_channel; at_the_end = orders.at_the_end }

-- ======== Totals

-- "equal to the recount after every call of this end too"
pub totals_are_the_recount : TotalsAreTheRecount
totals_are_the_recount =
    record {
      receive = totals.received_totals;
      local_close = totals.closed_totals;
      request = totals.requested_totals;
      local_open = totals.opened_totals;
      awaited_adds_nothing = totals.awaited_adds_nothing;
    }

-- One outcome for each input, of every public function: proofs/OneOutcome
