-- `walking::step_read` meets its contract: what strict reading says goes into the line, and the table stays.
use Rattle.std.proofs.Common.{refl}
use Rattle.walking.specs.Walking.{after_record, text_of, room_for, program}
use Rattle.walking.proofs.Records.{pdu_lent}
use Rattle.walking.proofs.step_read.Goals as goal

pub returns : goal.returns
unfolding program after_record text_of room_for
returns c =
    let pdu = pdu_lent c.args.bytes.now _ c.min-from.ensures in
    let read = rw pdu at c.read_strict.ensures in
    let line = rw (c.verdict-refusal.ensures, read) at c.reading_line-laid.ensures in
    λ list store.
    record {
      kept = refl;
      length_laid = line.value.0;
      fits = line.value.1;
      stored = refl;
      lines = line.out_after;
    }
