-- `reading::by_version` meets its contract: its tests are the definition's, and the rest is `charged` or a response.
use Rattle.reading.specs.Reading.{bad_version, by_version}
use Rattle.lists.proofs.Cases.{tests}
use Rattle.reading.proofs.by_version.Goals as goal

pub returns-then-version-lt1 : goal.returns-then-version-lt1
unfolding by_version bad_version
returns-then-version-lt1 c = search tests

pub returns-then-version-gt3 : goal.returns-then-version-gt3
unfolding by_version bad_version
returns-then-version-gt3 c = search tests

pub returns-then-from_server : goal.returns-then-from_server
unfolding by_version bad_version
returns-then-from_server c = search (tests, c.if-from_server.true, c.charged.ensures)

pub returns-then-pdu-gt4 : goal.returns-then-pdu-gt4
unfolding by_version bad_version
returns-then-pdu-gt4 c = search (tests, c.if-from_server.false)

pub returns : goal.returns
unfolding by_version bad_version
returns c = search (tests, c.if-from_server.false)
