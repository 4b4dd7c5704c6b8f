-- `walking::step_desk` meets its contract: what the shore's call gives for the record goes into the line.
use Rattle.paper.specs.Sizes.{PDU_MAX}
use Rattle.lists.specs.Bytes.{zeros}
use Rattle.walking.specs.Walking.{desk_called, after_call, after_record, text_of, room_for, program}
use Rattle.walking.proofs.step_desk.Goals as goal

pub returns : goal.returns
unfolding program after_record after_call text_of room_for desk_called zeros PDU_MAX
returns c =
    let got = c.hosted-given.ensures in
    let text = rw got.value at c.desk_line-laid.ensures in
    λ list.
    record {
      kept = rw got.value;
      length_laid = text.value.0;
      fits = text.value.1;
      stored = got.store_after;
      lines = text.out_after;
    }
