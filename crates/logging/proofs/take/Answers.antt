-- `logging::take` meets its contract: the walk over the input, and what it left at the front.
use mathlib.Core.Path.{refl, sym, ap, ◌∙◌}
use lib.ListN.{length, length-drop}
use Rattle.lists.proofs.Laid.{length_laid}
use Rattle.records.specs.Walks.{rest_of}
use native.Mathlib.Omega.{arith}
use Rattle.logging.proofs.take.Goals as goal

pub returns : goal.returns
unfolding rest_of
returns c =
    let a = c.args in
    let input = a.input.now in
    let walked = c.walk-walked.ensures in
    let long = ap length c.to_front.ensures ∙ length_laid input 0 _ in
    rw (long, sym walked.course_value.0, sym walked.course_value.1.0, sym walked.taken_value.0, length-drop _ input)
    (record {
      value = (refl, (omega arith, walked.course_value.1.1));
      input_after = c.to_front.ensures;
      room_after = walked.room_after;
      out_after = walked.out_after;
    })
