-- `records::turn` meets its contract: the walk over the input, and what it left at the front.
use Rattle.std.proofs.Common.{length, refl, ap, ◌∙◌, arith, length-drop}
use Rattle.lists.proofs.Laid.{length_laid}
use Rattle.records.specs.Walks.{rest_of}
use Rattle.records.proofs.turn.Goals as goal

pub returns-clause-had : goal.returns-clause-had
unfolding rest_of
returns-clause-had g c =
    let input = c.args.input.now in
    let long = ap length c.to_front.ensures ∙ length_laid input 0 _ in
    rw (long, ← c.walk-course.ensures.taken_value.0, length-drop _ input) (refl, omega arith)

pub returns-clause-input_after : goal.returns-clause-input_after
unfolding rest_of
returns-clause-input_after g c = rw (← c.walk-course.ensures.taken_value.0) c.to_front.ensures
