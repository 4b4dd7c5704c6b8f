-- `writing::request_length` meets its contract: its test is the definition's.
use Rattle.writing.specs.Writing.{request_length}
use Rattle.lists.proofs.Cases.{tests}
use Rattle.writing.proofs.request_length.Goals as goal

pub returns-then-version-eq1 : goal.returns-then-version-eq1
unfolding request_length
returns-then-version-eq1 c = search tests

pub returns : goal.returns
unfolding request_length
returns c = search tests
