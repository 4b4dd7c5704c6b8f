-- `reading::capabilities` meets its contract: its tests are the definition's, and the rest is `by_version`.
use Rattle.reading.specs.Reading.{capabilities}
use Rattle.lists.proofs.Cases.{tests}
use Rattle.reading.proofs.capabilities.Goals as goal

pub returns-then-cb_id-ne0 : goal.returns-then-cb_id-ne0
unfolding capabilities
returns-then-cb_id-ne0 c = search tests

pub returns-then-pdu-lt2 : goal.returns-then-pdu-lt2
unfolding capabilities
returns-then-pdu-lt2 c = search tests

pub returns-then-pdu-ne0 : goal.returns-then-pdu-ne0
unfolding capabilities
returns-then-pdu-ne0 c = search tests

pub returns-then-pdu-lt4 : goal.returns-then-pdu-lt4
unfolding capabilities
returns-then-pdu-lt4 c = search tests

pub returns : goal.returns
unfolding capabilities
returns c = search (tests, c.by_version.ensures, c.short_at.ensures)
