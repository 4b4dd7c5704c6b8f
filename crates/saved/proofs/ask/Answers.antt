-- `saved::ask` meets its contract: the version's two bytes are laid behind the level.
use borrow.Author.Tests.{eq-eqb, ne_eqb}
use Rattle.lists.proofs.Laid.{back}
use Rattle.numbers.specs.Numbers.{bytes_of}
use Rattle.saved.specs.Saved.{STATE, HEAD, ask_over}
use native.Mathlib.Omega.{arith}
use Rattle.saved.proofs.ask.Goals as goal

pub returns-in-Some : goal.returns-in-Some
unfolding STATE HEAD ask_over bytes_of
returns-in-Some c =
    let chunk = c.in-Some.ensures.cases in
    let long = chunk.long in
    rw (c.copy_from_slice.ensures.after, c.to_le_bytes.ensures, chunk.same, eq-eqb _ _ long)
    (back c.args.state.now 193 195 _ (omega arith) (omega arith) (omega arith))

pub returns-in_default : goal.returns-in_default
unfolding STATE ask_over
returns-in_default c = rw (ne_eqb _ _ c.in_default.ensures.cases)
