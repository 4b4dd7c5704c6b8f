-- `writing::bad_version` meets its contract: its tests are the definition's.
use Rattle.reading.specs.Reading.{bad_version}
use Rattle.lists.proofs.Cases.{tests}
use Rattle.writing.proofs.bad_version.Goals as goal

pub returns-then-version-lt1 : goal.returns-then-version-lt1
unfolding bad_version
returns-then-version-lt1 c = search tests

pub returns : goal.returns
unfolding bad_version
returns c = search tests
