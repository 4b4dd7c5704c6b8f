-- `logging::full` meets its contract: all blocks that the room holds, or all but the last.
use mathlib.Core.Path.{refl, sym, ◌∙◌}
use Rattle.logging.proofs.Rooms.{full_even, full_odd}
use Rattle.logging.proofs.full.Goals as goal

pub returns-then-is_even : goal.returns-then-is_even
returns-then-is_even c = full_even _ _ _ _ (sym c.is_even.ensures ∙ c.if-is_even.true) c.min.ensures refl

pub returns : goal.returns
returns c = full_odd _ _ _ _ (sym c.is_even.ensures ∙ c.if-is_even.false) c.min-2.ensures c.last_at.ensures.0
