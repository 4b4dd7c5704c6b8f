-- `planning::turn` meets its contract: the walk over the input, and what it left at the front.
use Rattle.std.proofs.Common.{length, sym, refl, ap, ◌∙◌, arith, length-drop}
use Rattle.lists.proofs.Laid.{length_laid}
use Rattle.records.specs.Walks.{rest_of}
use Rattle.planning.proofs.turn.Goals as goal

pub returns : goal.returns
unfolding rest_of
returns c =
    let a = c.args in
    let input = a.input.now in
    let walked = c.walk-taken.ensures in
    let long = ap length c.to_front.ensures ∙ length_laid input 0 _ in
    rw (long, sym walked.course_value.0, sym walked.course_value.1.0, sym walked.taken_value.0, length-drop _ input)
    (record { value = (refl, (omega arith, walked.course_value.1.1)); input_after = c.to_front.ensures; out_after = walked.out_after })
