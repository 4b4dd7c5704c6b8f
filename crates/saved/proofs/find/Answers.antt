-- `saved::find` meets its contract: the place of the number, or else the free one.
use borrow.Author.Tests.{ne_eqb}
use Rattle.paper.specs.Sizes.{PARTS}
use Rattle.saved.specs.Saved.{STATE, home_over}
use Rattle.saved.proofs.Searching.{home_there, home_free}
use Rattle.saved.proofs.find.Goals as goal

pub returns-in_default : goal.returns-in_default
unfolding PARTS STATE home_over
returns-in_default c = rw (ne_eqb _ _ c.in_default.ensures.cases, c.blank.ensures)

pub returns-then-k-lt-PARTS : goal.returns-then-k-lt-PARTS
unfolding PARTS STATE
returns-then-k-lt-PARTS c =
    let chunk = c.in-Some.ensures.cases in
    rw chunk.same at (home_there _ _ _ (rw chunk.same chunk.long) c.find_number-k.ensures _ c.if-k-lt-PARTS.true c.row.ensures)

pub returns : goal.returns
unfolding PARTS STATE
returns c =
    let chunk = c.in-Some.ensures.cases in
    rw chunk.same at (home_free _ _ _ (rw chunk.same chunk.long) c.find_number-k.ensures _ _
    c.if-k-lt-PARTS.false c.find_free.ensures c.blank-2.ensures)
