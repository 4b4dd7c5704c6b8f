-- `reading::closing` meets its contract: its test is the definition's.
use Rattle.reading.specs.Reading.{closing}
use Rattle.lists.proofs.Cases.{tests}
use Rattle.reading.proofs.closing.Goals as goal

pub returns-then-at-pdu : goal.returns-then-at-pdu
unfolding closing
returns-then-at-pdu c = search tests

pub returns : goal.returns
unfolding closing
returns c = search tests
