-- `reading::brings_block` meets its contract: its tests are the definition's.
use Rattle.reading.specs.Garbled.{brings_block}
use Rattle.lists.proofs.Cases.{tests}
use Rattle.reading.proofs.brings_block.Goals as goal

pub returns-then-cmd-eq-DATA_FIRST : goal.returns-then-cmd-eq-DATA_FIRST
unfolding brings_block
returns-then-cmd-eq-DATA_FIRST c = search tests

pub returns-then-cmd-eq-DATA : goal.returns-then-cmd-eq-DATA
unfolding brings_block
returns-then-cmd-eq-DATA c = search tests

pub returns-then-cmd-eq-DATA_FIRST_COMPRESSED : goal.returns-then-cmd-eq-DATA_FIRST_COMPRESSED
unfolding brings_block
returns-then-cmd-eq-DATA_FIRST_COMPRESSED c = search tests

pub returns : goal.returns
unfolding brings_block
returns c = search tests
