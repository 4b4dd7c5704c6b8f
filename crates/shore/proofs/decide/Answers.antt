-- `shore::decide` meets its contract: each arm is a case of the definition.
use mathlib.Core.Path.{ap, ◌∙◌}
use mir.Syntax.{w32}
use mir.Facts.{to_z-of_z}
use Rattle.shore.specs.Deciding.{settling, decided_of}
use borrow.Author.Rules.{rules}
use Rattle.shore.proofs.decide.Goals as goal

pub returns-in-Unread : goal.returns-in-Unread
unfolding decided_of
returns-in-Unread c = rw c.in-Unread.is (c.common.ensures ∙ rw c.decides.ensures)

pub returns-in-Caps : goal.returns-in-Caps
unfolding decided_of
returns-in-Caps c = rw c.in-Caps.is c.respond.ensures

pub returns-in-Status : goal.returns-in-Status
unfolding decided_of
returns-in-Status c = rw c.in-Status.is (c.settle.ensures ∙ ap (settling _ _ _ _) (to_z-of_z {w = w32} {z = c.in-Status.status} (search rules)))

pub returns-in-Block : goal.returns-in-Block
unfolding decided_of
returns-in-Block c = rw c.in-Block.is (c.common-in-Block.ensures ∙ rw c.decides-in-Block.ensures)

pub returns-in-End : goal.returns-in-End
unfolding decided_of
returns-in-End c = rw c.in-End.is (c.common-in-End.ensures ∙ rw (c.reply_if.ensures, c.decides-decided.ensures))
