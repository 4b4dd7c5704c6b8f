-- `walking::step_told` meets its contract: what the client's step gives for the record's PDU goes into the text.
use Rattle.walking.specs.Walking.{after_step, after_record, text_of, room_for, program}
use Rattle.walking.proofs.Records.{pdu_lent}
use Rattle.walking.proofs.step_told.Goals as goal

pub returns : goal.returns
unfolding program after_record after_step text_of room_for
returns c =
    let a = c.args in
    let got = rw (pdu_lent a.bytes.now _ c.min-from.ensures) at c.answered-received.ensures in
    let text = rw (got.value, got.store_after) at c.text_for-laid.ensures in
    record {
      kept = rw got.value;
      length_laid = text.value.0;
      fits = text.value.1;
      stored = got.store_after;
      lines = text.out_after;
    }
