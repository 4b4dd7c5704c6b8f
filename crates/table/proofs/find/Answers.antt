-- `table::find` meets its contract: the place of the number, or else the free one.
use Rattle.paper.specs.Sizes.{PARTS}
use Rattle.table.proofs.Records.{home_there, home_free}
use Rattle.table.proofs.find.Goals as goal

pub returns-then-found-lt-PARTS : goal.returns-then-found-lt-PARTS
unfolding PARTS
returns-then-found-lt-PARTS c = home_there _ _ _ c.find_number-found.ensures c.if-found-lt-PARTS.true

pub returns : goal.returns
unfolding PARTS
returns c = home_free _ _ _ _ c.find_number-found.ensures c.if-found-lt-PARTS.false c.find_free.ensures
