-- `rules::bad_cb_id` meets its contract: its tests are the definition's.
use Rattle.reading.specs.Layouts.{bad_cb_id}
use Rattle.lists.proofs.Cases.{tests}
use Rattle.rules.proofs.bad_cb_id.Goals as goal

pub returns-then-cmd-eq-CAPABILITIES : goal.returns-then-cmd-eq-CAPABILITIES
unfolding bad_cb_id
returns-then-cmd-eq-CAPABILITIES c = search tests

pub returns-else-cmd-eq-CAPABILITIES : goal.returns-else-cmd-eq-CAPABILITIES
unfolding bad_cb_id
returns-else-cmd-eq-CAPABILITIES c = search tests
