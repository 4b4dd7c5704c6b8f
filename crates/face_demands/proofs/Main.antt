-- THE FACE, on one page. Each line has a statement, and where its proof is. The statements' text stands in specs/Face, for the shore in
-- specs/ShoreFace, and of refusals in specs/Refused, over the contracts of the entries for C. What a reader must believe is in specs/.
-- Assumes nothing.
use mathlib.Core.Bool.{true, false}
use Rattle.saved.specs.Saved.{CLIENT, SHORE}
use Rattle.packing.proofs.Unpacked as packing
use Rattle.face_demands.specs.Face.{WhatIsSavedComesBack, AcceptedBytesAreTheirTables, PackingIsUndone, EveryRunIsTheLibrarys}
use Rattle.face_demands.specs.Face.{NeverRefusal1ForItsState}
use Rattle.face_demands.specs.ShoreFace as shores
use Rattle.face_demands.specs.Refused.{ARefusalLeavesTheState, ARefusalLeavesTheStateAshore}
use Rattle.face_demands.proofs.Saving as saving
use Rattle.face_demands.proofs.Packing as answers
use Rattle.face_demands.proofs.Client as client
use Rattle.face_demands.proofs.Shore as shore
use Rattle.face_demands.proofs.Spoiled as spoiled
use Rattle.face_demands.proofs.Refused as refused
use Rattle.face_demands.proofs.ShoreRefused as ashore

-- ======== The client

-- what is saved is told again
pub what_is_saved_comes_back : WhatIsSavedComesBack
what_is_saved_comes_back =
    record {
      table = saving.client_told;
      asked = saving.client_asked;
      state = saving.client_state;
      good = saving.client_good;
      of_a_run = λ store size cs b. (client.run_holds _ (client.start_holds store size) cs b).holds;
    }

-- and what was accepted is saved as it was
pub accepted_bytes_are_their_tables : AcceptedBytesAreTheirTables
accepted_bytes_are_their_tables = record { saved_again = saving.client_again; can_hold = saving.client_holds }

-- every answer is got back from its number
pub packing_is_undone : PackingIsUndone
packing_is_undone =
    record {
      channel = packing.channel_back;
      number = packing.number_back;
      place = packing.place_back;
      sent = packing.sent_back;
      word = packing.word_back;
      receive = answers.received_back;
      local_close = answers.closed_back;
    }

-- a run of C calls is a run of the library
pub every_run_is_the_librarys : EveryRunIsTheLibrarys
every_run_is_the_librarys =
    record {
      start = client.start_lent;
      start_holds = client.start_holds;
      leaves = client.run_leaves;
      holds = client.run_holds;
      tells = client.run_tells;
      tells_each = client.run_tells_each;
      tells_from_start = client.begun_tells;
      message_within = client.message_within;
      each_channel = client.each_channel;
    }

-- a host that lends back what it got never meets refusal 1
pub never_refusal_1_for_its_state : NeverRefusal1ForItsState
never_refusal_1_for_its_state = record { good = client.always_good; never = client.never_1 }

-- "A refusal writes nothing to the reply or to the message store and changes no channel", but the one that it spoils
pub a_refusal_leaves_the_state : ARefusalLeavesTheState
a_refusal_leaves_the_state =
    record {
      receive = refused.received_refused;
      local_close = refused.closed_refused;
      receive_no_state = refused.received_no_state;
      local_close_no_state = refused.closed_no_state;
      fewer = λ state k h g. spoiled.fewer state k h (saving.good_sound CLIENT false state g);
      not_joining = λ state k h g. spoiled.not_joining CLIENT state h (saving.client_says state g).saved_bytes k;
    }

-- ======== The shore, in the same order

pub what_the_shore_saves_comes_back : shores.WhatIsSavedComesBack
what_the_shore_saves_comes_back =
    record {
      shore = saving.shore_told;
      state = saving.shore_state;
      good = saving.shore_good;
      of_a_run = λ store size cs b. (shore.run_holds _ (shore.start_holds store size) cs b).holds;
    }

pub bytes_that_the_shore_accepts : shores.AcceptedBytesAreTheirTables
bytes_that_the_shore_accepts = record { saved_again = saving.shore_again; can_hold = saving.shore_holds }

pub packing_is_undone_at_the_shore : shores.PackingIsUndone
packing_is_undone_at_the_shore =
    record {
      receive = answers.shore_received_back;
      local_close = answers.shore_closed_back;
      request = answers.requested_back;
      local_open = answers.opened_back;
    }

pub every_run_is_the_shores : shores.EveryRunIsTheLibrarys
every_run_is_the_shores =
    record {
      start = shore.start_lent;
      start_holds = shore.start_holds;
      leaves = shore.run_leaves;
      holds = shore.run_holds;
      tells = shore.run_tells;
      tells_each = shore.run_tells_each;
      tells_from_start = shore.begun_tells;
      message_within = shore.message_within;
      each_channel = shore.each_channel;
    }

pub never_refusal_1_at_the_shore : shores.NeverRefusal1ForItsState
never_refusal_1_at_the_shore =
    record { good = shore.always_good; never = shore.never_1; nor_in_writing = shore.never_1_in_writing }

pub a_refusal_leaves_the_state_ashore : ARefusalLeavesTheStateAshore
a_refusal_leaves_the_state_ashore =
    record {
      receive = ashore.received_refused;
      local_close = ashore.closed_refused;
      request = ashore.requested_refused;
      local_open = ashore.opened_refused;
      receive_no_state = ashore.received_no_state;
      local_close_no_state = ashore.closed_no_state;
      request_no_state = ashore.requested_no_state;
      local_open_no_state = ashore.opened_no_state;
      fewer = λ state k h g. spoiled.fewer state k h (saving.good_sound SHORE true state g);
      not_joining = λ state k h g. spoiled.not_joining SHORE state h (saving.shore_says state g) k;
    }

-- One outcome for each input, of every public function: proofs/OneOutcome
