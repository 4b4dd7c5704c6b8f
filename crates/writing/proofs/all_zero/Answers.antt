-- `writing::all_zero` meets its contract: the first charge that is not 0 ends it.
use Rattle.writing.specs.Writing.{all_zero}
use Rattle.lists.proofs.Cases.{tests}
use Rattle.writing.proofs.all_zero.Goals as goal

pub returns-then-charges-ne0 : goal.returns-then-charges-ne0
unfolding all_zero
returns-then-charges-ne0 c = search tests

pub returns-then-charges-ne0-2 : goal.returns-then-charges-ne0-2
unfolding all_zero
returns-then-charges-ne0-2 c = search tests

pub returns-then-charges-ne0-3 : goal.returns-then-charges-ne0-3
unfolding all_zero
returns-then-charges-ne0-3 c = search tests

pub returns : goal.returns
unfolding all_zero
returns c = search tests
