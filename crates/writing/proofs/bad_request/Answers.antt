-- `writing::bad_request` meets its contract: its tests are the definition's.
use Rattle.writing.specs.Writing.{bad_request}
use Rattle.lists.proofs.Cases.{tests}
use Rattle.writing.proofs.bad_request.Goals as goal

pub returns-then-class-gt3 : goal.returns-then-class-gt3
unfolding bad_request
returns-then-class-gt3 c = search tests

pub returns : goal.returns
unfolding bad_request
returns c = search (tests, c.first_zero.ensures)
