-- `walking::step_link` meets its contract: after a record that is none nothing is done, and else what comes of the record.
use Rattle.std.proofs.Common.{refl, arith}
use Rattle.lists.specs.Bytes.{laid}
use Rattle.paper.specs.Sizes.{MESSAGE_MAX}
use Rattle.lines.specs.Lines.{MESSAGE_LINE_MAX}
use Rattle.linking.specs.Linking.{STEP_MAX, CALL_MAX}
use Rattle.walking.specs.Walking.{comes_of, after_link, link_text, after_record, text_of, room_for, program}
use Rattle.walking.proofs.step_link.Goals as goal

pub returns-then-kept : goal.returns-then-kept
unfolding program after_record text_of room_for after_link link_text laid
returns-then-kept c = rw c.if-kept.true
    (record { kept = refl; length_laid = refl; fits = omega arith; stored = refl; lines = refl })

pub returns : goal.returns
unfolding program after_record text_of room_for after_link link_text comes_of STEP_MAX CALL_MAX MESSAGE_LINE_MAX MESSAGE_MAX
returns c =
    let did = c.step-stepped.ensures in
    rw c.if-kept.false
    (record {
      kept = rw (did.0, did.1.ends);
      length_laid = did.1.length_laid;
      fits = did.1.fits;
      stored = did.1.stored;
      lines = did.1.lines;
    })
