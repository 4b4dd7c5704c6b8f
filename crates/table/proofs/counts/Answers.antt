-- `table::counts` meets its contract: its test is the definition's.
use mathlib.Core.Path.{refl}
use Rattle.table.proofs.counts.Goals as goal

pub returns-then-marked : goal.returns-then-marked
returns-then-marked c = rw c.if-marked.true c.is_open.ensures

pub returns : goal.returns
returns c = rw c.if-marked.false refl
