-- `shore::seen` meets its contract: its test is the definition's.
use Rattle.shore.specs.Deciding.{seen_row}
use Rattle.shore.proofs.seen.Goals as goal

pub returns-then-row : goal.returns-then-row
unfolding seen_row
returns-then-row c = rw c.if-row.true c.blank.ensures

pub returns : goal.returns
unfolding seen_row
returns c = rw c.if-row.false
