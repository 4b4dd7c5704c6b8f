-- `reading::charged` meets its contract: its tests are the definition's, and each charge is read at its place.
use Rattle.reading.specs.Reading.{charged}
use Rattle.lists.proofs.Cases.{tests}
use Rattle.reading.proofs.charged.Goals as goal

pub returns-then-pdu-gt4 : goal.returns-then-pdu-gt4
unfolding charged
returns-then-pdu-gt4 c = search tests

pub returns-then-version-eq1 : goal.returns-then-version-eq1
unfolding charged
returns-then-version-eq1 c = search tests

pub returns-then-pdu-lt12 : goal.returns-then-pdu-lt12
unfolding charged
returns-then-pdu-lt12 c = search tests

pub returns-then-pdu-gt12 : goal.returns-then-pdu-gt12
unfolding charged
returns-then-pdu-gt12 c = search tests

pub returns : goal.returns
unfolding charged
returns c = search (tests, c.charges_at-charges.ensures)
