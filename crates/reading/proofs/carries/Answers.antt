-- `reading::carries` meets its contract: its tests are the definition's.
use mathlib.Core.Path.{sym, ◌∙◌}
use Rattle.reading.specs.Garbled.{carries_by, carries}
use Rattle.reading.proofs.Garbled.{empty_carries}
use Rattle.reading.proofs.carries.Goals as goal

pub returns-then-pdu-eq0 : goal.returns-then-pdu-eq0
returns-then-pdu-eq0 c = sym (empty_carries _ c.if-pdu-eq0.true)

pub returns-then-brings_block : goal.returns-then-brings_block
unfolding carries carries_by
returns-then-brings_block c = rw (sym c.brings_block.ensures ∙ c.if-brings_block.true) c.whole_in.ensures

pub returns : goal.returns
unfolding carries carries_by
returns c = rw (sym c.brings_block.ensures ∙ c.if-brings_block.false)
