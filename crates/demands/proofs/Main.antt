-- THE DEMANDS, on one page, in their own order and words. Each line has a statement, whose text stands in specs/ of
-- this crate under the name given, over the definitions that the contracts cite; and where its proof is. What a
-- reader must believe is in specs/. Assumes nothing.
use Rattle.demands.specs.Demand1.{AnyOrderOfCalls, BadInputGetsItsNumber, ARefusalLeavesAll}
use Rattle.demands.specs.Demand2.{PdusAreReadSo, PdusAreWrittenSo, StepsAreSo, WhatWeWriteWeReadBack, CutByUsIsHandedUpOnce}
use Rattle.demands.specs.Demand3.{AConnectionJustMadeReady, TwoOrdersMeanThis, EitherOrderIsTheSame, NothingTwice}
use Rattle.demands.specs.Garbled.{WhichAreGarbled, AGarbledBlockSpoils, NoHalfMessageIsHandedUp}
use Rattle.demands.specs.Strict.{OneMeaningOneByteString, StrictBesidePlain, WhatWeWriteIsStrict}
use Rattle.demands.specs.Counts.{CountIsMessages}
use Rattle.demands.specs.Totals.{TotalsAreTheRecount}
use Rattle.demands.specs.Strangers.{StrangersChannels}
use Rattle.demands.specs.Useless.{UselessManagersHaveThemNot, right}
use Rattle.demands.specs.Starred.{Starred}
use Rattle.demands.specs.Examples.{just_ready}
use mathlib.Core.Bool.{true}
use Rattle.numbers.proofs.Widths as widths
use Rattle.reading.proofs.Placed.{placed}
use Rattle.reading.proofs.Grammar as grammar
use Rattle.reading.proofs.Layouts as layouts
use Rattle.reading.proofs.Garbled as carried
use Rattle.reading.proofs.Strict as strict
use Rattle.laying.proofs.Encoded as encoded
use Rattle.writing.specs.ReadBack.{ReadsBack, StrictBack}
use Rattle.writing.proofs.SameValues as same-values
use Rattle.writing.proofs.Refusals as writing
use Rattle.cutting.proofs.Refusals as cutting
use Rattle.reading.specs.Reading.{read_pdu}
use Rattle.table.proofs.Soundness as soundness
use Rattle.steps.proofs.Calm as calm
use Rattle.steps.proofs.Refusals as refusals
use Rattle.steps.proofs.Leaves as leaves
use Rattle.steps.proofs.Channels as channels
use Rattle.steps.proofs.Touches as touches
use Rattle.steps.proofs.Widths as values
use Rattle.steps.proofs.Garbled as blocks
use Rattle.demands.proofs.Orders as orders
use Rattle.demands.proofs.Twice as twice
use Rattle.demands.proofs.Strangers as strangers
use Rattle.demands.proofs.Examples as examples
use Rattle.demands.proofs.Sanity as sanity
use Rattle.demands.proofs.Cut as cut
use Rattle.demands.proofs.Ready as ready
use Rattle.demands.proofs.Garbled as garbled
use Rattle.demands.proofs.Managers as managers
use Rattle.demands.proofs.Strict as strictness
use Rattle.demands.proofs.Counts as counts
use Rattle.demands.proofs.Totals as totals
use Rattle.demands.proofs.Third as third
use Rattle.demands.proofs.ByFlags as right-one
use Rattle.demands.proofs.Useless as useless
use Rattle.demands.proofs.Unseen as unseen
use Rattle.demands.proofs.Starred as stars

-- ======== Demand 1

-- "Every entry open to callers takes any bytes, any lengths and any order of calls, and comes to an end."
pub any_order_of_calls : AnyOrderOfCalls
any_order_of_calls =
    record {
      receive = calm.receive_sound;
      local_close = calm.local_close_sound;
      from_start = λ store size xs. orders.calm_run _ (orders.calm_started store size) xs;
      no_refusal_1 = orders.never_refusal_1;
    }

-- "Bad input gets the refusal number that the build paper lists for it."
pub bad_input_gets_its_number : BadInputGetsItsNumber
bad_input_gets_its_number =
    record {
      start = refusals.start_refusals;
      receive = refusals.receive_outcome;
      local_close = refusals.local_close_outcome;
      reading = layouts.reading_refusals;
      strict_reading = strict.strict_refusals;
      writing = writing.writing_refusals;
      cutting = cutting.cutting_refusals;
    }

-- "A refusal writes nothing to the reply or to the message store and changes no channel, except that three listed
-- refusals mark the one channel concerned as spoiled." With garbled blocks "Demand 1's exceptions grow by refusals 2, 3,
-- 4 and 5 for such PDUs"
pub a_refusal_leaves_all : ARefusalLeavesAll
a_refusal_leaves_all =
    record {
      receive = leaves.receive_refused;
      local_close = leaves.local_close_refused;
      start = leaves.start_left;
      writing = writing.writing_leaves;
      cutting = cutting.cutting_leaves;
    }

-- "When we are ready and a PDU of command 2, 3, 6 or 7 is refused while being read, yet its channel number stands in it
-- whole and that channel is open, the channel is spoiled."
pub which_are_garbled : WhichAreGarbled
which_are_garbled =
    record {
      whole_numbers = carried.carries_exactly;
      only_these = garbled.only_these;
      all_these = garbled.all_these;
      own_events_law = blocks.whole_is_own;
      a_data_first_cut_off = garbled.first_cut_off;
    }

pub a_garbled_block_spoils : AGarbledBlockSpoils
a_garbled_block_spoils =
    record {
      spoils = blocks.garbled_spoils;
      answers = blocks.garbled_answer;
      spoiled_already = blocks.garbled_again;
      not_open = blocks.garbled_unopened;
      not_ready = blocks.garbled_early;
    }

-- ======== Demand 2

-- "PDUs are read and written, channels opened and closed, and messages cut and joined as [MS-RDPEDYC] version 17.0
-- and the build paper define."
pub pdus_are_read_so : PdusAreReadSo
pdus_are_read_so = record { exactly = grammar.exactly; unambiguous = grammar.unambiguous; by_value = values.same_call }

pub pdus_are_written_so : PdusAreWrittenSo
pdus_are_written_so =
    record {
      narrowest = widths.is_narrowest;
      create_request_law = encoded.create_request_encoded;
      create_response_law = encoded.create_response_encoded;
      data_first_law = encoded.data_first_encoded;
      data_block = encoded.data_encoded;
      close = encoded.close_encoded;
      capabilities_request = same-values.caps_request_encodes;
      capabilities_response = encoded.caps_response_encoded;
    }

pub steps_are_so : StepsAreSo
steps_are_so =
    record {
      every_call = managers.ours_demand_2;
      own = channels.step_own;
      answer = channels.step_answer;
      reply = channels.step_reply;
      others = channels.step_other;
      no_byte_outside = touches.step_parts;
      close_frees = touches.close_frees;
      opening_is_new = twice.opening_is_new;
      whatever_list = λ st g one two pdu. touches.two_lists st g one two pdu (read_pdu true pdu) (placed pdu true);
      start = leaves.start_done;
    }

-- "What we write we read back as the same values."
pub what_we_write_we_read_back : WhatWeWriteWeReadBack
what_we_write_we_read_back = strictness.every_kind ReadsBack same-values.reads_back

-- "A message of up to 4,096 bytes, cut by us and received on an open, idle channel, is handed up once, with the same
-- bytes."
pub cut_by_us_is_handed_up_once : CutByUsIsHandedUpOnce
cut_by_us_is_handed_up_once =
    record {
      none_refused = cut.none_refused;
      handed_up_once = cut.cut_and_joined;
      none_refused_from_c = cut.none_refused_from_c;
      from_c = cut.from_c;
    }

-- ======== Demand 3

-- "Take a connection just made ready, with one listener list and one store throughout, and proper buffers at each
-- call."
pub a_connection_just_made_ready : AConnectionJustMadeReady
a_connection_just_made_ready =
    record { state = just_ready; is_ready = ready.just_ready_law; runs_on = orders.runs_at_its_level }

-- "Take two orders of the same received PDUs and local closes that keep each channel's own events in order, and
-- suppose that neither order meets a full table."
pub two_orders_mean_this : TwoOrdersMeanThis
two_orders_mean_this = record { an_exchange = sanity.swap; full_is_the_answer_full = sanity.meets_answer }

-- "Then each channel gets the same answers and replies, and its messages are exactly those that demand 2 gives for
-- its own events alone, each once. At the end each open channel has the same record and the same stored bytes. Only
-- where in the store a channel stands may differ." The record has its count of messages: "Demand 3's 'same record' takes
-- the count in." And the two totals of the connection: "Demand 3 gains: both are the same after either order."
pub either_order_is_the_same : EitherOrderIsTheSame
either_order_is_the_same =
    record {
      each_channel = orders.same_either_way;
      at_the_end = orders.same_but_places;
      of_ours = third.ours_demand_3;
    }

-- ======== Beside them: strangers' channels

-- "Take two runs of the panel end from one ready state with its store, reached from Start by calls, with the same list,
-- proper buffers and nobody else writing the store between calls, and one channel number. Let its own events be the same in
-- both, with each of its Create requests that is listed and not already open meeting a full table in both runs or in
-- neither. All other channels' events may differ in number and bytes, and the table may fill. Then that channel's answers,
-- replies, messages, record and stored bytes are the same in both." And more than that: `whatever_the_lists`
pub strangers_channels : StrangersChannels
strangers_channels =
    record {
      same_in_both = strangers.same_in_both;
      only_own = strangers.only_own;
      all_own = strangers.all_own;
      only_full = strangers.only_full;
      all_full = strangers.all_full;
      still_reached = strangers.still_reached;
      for_example = examples.beside_few_or_many;
      the_full_table_matters = examples.alone_or_behind_sixteen;
      whatever_the_lists = strangers.strangers;
      of_ours = third.ours_strangers;
    }

-- ======== Beside them: strict reading

-- "Two PDUs that strict reading accepts, in one direction, have equal values exactly when their bytes are equal."
pub one_meaning_one_byte_string : OneMeaningOneByteString
one_meaning_one_byte_string = strictness.one_byte_string

-- "Demands 2 and 3 speak of plain reading, which stays. Refusals: 18, wide number or Length, or ignored bits set; it is
-- the last in reading."
pub strict_beside_plain : StrictBesidePlain
strict_beside_plain =
    record {
      same_answer = strict.same_answer;
      keeps_refusals = strict.keeps_refusals;
      only_18 = strict.only_18;
      18_exactly_when = strict.loose_exactly;
    }

-- whatever our seven writers and the cutter write, strict reading accepts, with the same values
pub what_we_write_is_strict : WhatWeWriteIsStrict
what_we_write_is_strict =
    record { writers = strictness.every_kind StrictBack same-values.strict_back; cutter = strictness.cut_is_strict }

-- ======== Beside them: messages counted

-- "Each record gains that count: the messages handed up since the opening, staying at 4,294,967,295 once there."
pub count_is_messages : CountIsMessages
count_is_messages =
    record {
      by_the_answer = counts.by_the_answer;
      was_opened = counts.was_opened;
      since_its_opening = counts.since_its_opening;
      at_the_ceiling = counts.at_the_ceiling;
    }

-- ======== Beside them: open channels and bytes awaited, at once

-- "After every call on a sound table, refusals included, they equal the full recount, and a table whose totals differ from it
-- is unsound." That they are the same after either order stands with demand 3
pub totals_are_the_recount : TotalsAreTheRecount
totals_are_the_recount =
    record {
      for_example = totals.for_example;
      receive = totals.received_totals;
      local_close = totals.closed_totals;
      start = totals.started_totals;
      else_unsound = totals.else_unsound;
      else_refused = totals.else_refused;
      at_most = soundness.totals_most;
    }

-- ======== Behind them

-- No half message: "A cut-off Data First came in, was refused with 2, and the Data behind it went up as a command." Now
-- nothing goes up on that channel until it has been closed and opened again
pub no_half_message : NoHalfMessageIsHandedUp
no_half_message = garbled.no_half_message

-- Nothing twice, the fault that this product exists for
pub nothing_twice : NothingTwice
nothing_twice =
    record { told_alone_law = twice.nothing_twice; no_trace = twice.no_trace; a_close_shuts = twice.closed_shut }

-- Managers that nobody would want don't have demands 2 and 3, each by name
pub useless_managers_have_them_not : UselessManagersHaveThemNot
useless_managers_have_them_not =
    record {
      refuses_or_declines_everything = λ m h. useless.neither m (useless.only_no_not_3 m h);
      gives_one_fixed_answer = λ m a h. useless.neither m (useless.always_not_3 m a h);
      never_stores = useless.neither _ useless.storeless_not_3;
      joins_the_first_only = useless.neither _ useless.first_only_not_3;
      invents_its_count = λ count. useless.neither _ (useless.invents_not_3 count);
      hands_up_twice = useless.neither _ useless.twice_not_3;
      keeps_over_a_reopening = useless.neither _ useless.keeps_not_3;
      disturbs_another_channel = useless.neither _ useless.disturbs_not_3;
      replays_at_unreadable_pdus = useless.neither _ useless.replayer_not_3;
      invents_its_count_later = λ count. useless.neither _ (useless.invents_later_not_3 count);
      goes_on_over_a_new_start = useless.neither _ useless.goes_on_not_3;
      forgets_a_garbled_block = useless.neither _ useless.forgets_not_3;
      right_until_full = ((useless.until_full_not_2, unseen.until_full_3), useless.until_full_not);
      makes_room_by_dropping_others = ((useless.makes_room_not_2, unseen.makes_room_3), useless.makes_room_not);
      never_declines_for_full = (useless.never_declines_not_2, unseen.never_declines_3);
      answers_a_wrong_level = (useless.wrong_level_not_2, unseen.wrong_level_3);
      without_the_fault = (
        right-one.right_demand_2,
        third.two_gives_three right right-one.right_demand_2,
        third.two_gives_strangers right right-one.right_demand_2,
      );
    }

-- The starred numbers, one statement over one list: thirteen are starred, and the last, 4,096 and 4,097, has two
-- cases
pub the_starred_numbers : Starred
the_starred_numbers = stars.the_starred_numbers

-- One outcome for each input, of every public function: proofs/OneOutcome
