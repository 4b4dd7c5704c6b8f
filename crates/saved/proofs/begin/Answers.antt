-- `saved::begin` meets its contract: zeros with a mark are the state that Start makes.
use borrow.Author.Tests.{ne_eqb}
use Rattle.lists.specs.Bytes.{zeros}
use native.Mathlib.Omega.{arith}
use Rattle.saved.specs.Saved.{STATE, HEAD, begin_over}
use Rattle.saved.proofs.Words.{begin_zeros}
use Rattle.saved.proofs.begin.Goals as goal

pub returns-in-Some : goal.returns-in-Some
unfolding STATE HEAD zeros
returns-in-Some c =
    let long = c.in-Some.ensures.cases.long in
    rw long at (begin_zeros c.args.state.now c.args.mark (omega arith) long)

pub returns-in_default : goal.returns-in_default
unfolding STATE begin_over
returns-in_default c = rw (ne_eqb _ _ c.in_default.ensures.cases)
