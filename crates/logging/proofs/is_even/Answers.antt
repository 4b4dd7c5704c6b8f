-- `logging::is_even` meets its contract: the last block is looked at where there is one.
use mathlib.Core.Path.{◌∙◌, ap}
use Rattle.blocks.specs.Block.{used_in}
use Rattle.logging.proofs.Rooms.{even_none, even_some}
use Rattle.logging.proofs.is_even.Goals as goal

pub returns-then-log-eq0 : goal.returns-then-log-eq0
returns-then-log-eq0 c = even_none _ _ c.if-log-eq0.true

pub returns : goal.returns
returns c = even_some _ _ _ c.if-log-eq0.false (c.from.ensures ∙ c.used.ensures ∙ ap used_in c.last_block.ensures.0)
