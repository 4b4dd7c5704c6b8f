-- `writing::bad_capabilities` meets its contract: its test is the definition's.
use Rattle.writing.specs.Writing.{bad_capabilities}
use Rattle.lists.proofs.Cases.{tests}
use Rattle.writing.proofs.bad_capabilities.Goals as goal

pub returns-then-version-eq1 : goal.returns-then-version-eq1
unfolding bad_capabilities
returns-then-version-eq1 c = search (tests, c.all_zero.ensures)

pub returns : goal.returns
unfolding bad_capabilities
returns c = search (tests, c.bad_version.ensures)
