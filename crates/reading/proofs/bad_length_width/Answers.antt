-- `reading::bad_length_width` meets its contract: its tests are the definition's.
use Rattle.reading.specs.Reading.{bad_length_width}
use Rattle.lists.proofs.Cases.{tests}
use Rattle.reading.proofs.bad_length_width.Goals as goal

pub returns-then-cmd-eq-DATA_FIRST : goal.returns-then-cmd-eq-DATA_FIRST
unfolding bad_length_width
returns-then-cmd-eq-DATA_FIRST c = search tests

pub returns : goal.returns
unfolding bad_length_width
returns c = search tests
