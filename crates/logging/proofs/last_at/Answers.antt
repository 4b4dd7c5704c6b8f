-- `logging::last_at` meets its contract: the last of the blocks that the room holds.
use Rattle.logging.proofs.Rooms.{at_none, at_some}
use borrow.Author.Rules.{rules}
use native.Mathlib.Omega.{arith}
use Rattle.logging.proofs.last_at.Goals as goal

pub returns-then-log-eq0 : goal.returns-then-log-eq0
returns-then-log-eq0 c = (at_none _ c.if-log-eq0.true, omega arith)

pub returns : goal.returns
returns c = (at_some _, search rules)
