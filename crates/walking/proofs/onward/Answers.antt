-- `walking::onward` meets its contract: the walk over the input, and what it left at the front.
use Rattle.std.proofs.Common.{ℕ, List, length, ap, ◌∙◌, arith}
use Rattle.lists.proofs.Laid.{to_end, length_laid}
use Rattle.records.specs.Records.{found}
use Rattle.records.specs.Walks.{due_for}
use Rattle.walking.specs.Walking.{walk_of, extent_for, program}
use Rattle.walking.proofs.Turns.{walk_turns}
use Rattle.walking.proofs.onward.Goals as goal

pub returns : goal.returns
unfolding program
returns c =
    let a = c.args in
    let input = a.input.now in
    let taken = c.walk-walked.result.taken in
    let due = c.due_for-due.ensures ∙ ap due_for (c.extent_for.ensures.value ∙ ap (λ (rest : List ℕ). found (extent_for a.job rest)) (to_end input taken)) in
    let long = ap length c.to_front.ensures ∙ length_laid input 0 _ in
    let within = c.walk-walked.ensures.within in
    rw long (record { turns = walk_turns (program a.job a.list.now) (walk_of a.kept a.store.now) input a.out.now c.walk-walked.ensures.walks due c.to_front.ensures; within = (omega arith, within.1) })
