-- `deciding::decide` meets its contract: what reading refused, refusal 7, and behind it the rules of the channel.
use Rattle.deciding.specs.Deciding.{taking}
use Rattle.deciding.proofs.Times.{garbled, unread, late, first, early, in_time}
use mathlib.Core.Path.{ap, ◌∙◌}
use Rattle.deciding.proofs.decide.Goals as goal

pub returns-then-ready-whole : goal.returns-then-ready-whole
returns-then-ready-whole c = rw c.in-Unread.is
    (ap (taking _ _) c.garbles-turn.ensures ∙ garbled _ _ _ _ _ _ _ _ c.if-ready-whole.true)

pub returns-then-ready : goal.returns-then-ready
returns-then-ready c = rw c.in-Caps.is (c.refuses-then-ready.ensures ∙ late _ _ _ _ _ _ _ c.if-ready.true)

pub returns-then-not-ready : goal.returns-then-not-ready
returns-then-not-ready c = rw c.in-Asks.is (c.refuses-then-not-ready.ensures ∙ early _ _ _ _ _ _ _ (c.if-not-ready.true))

pub returns-else-ready-whole : goal.returns-else-ready-whole
returns-else-ready-whole c = rw c.in-Unread.is
    (c.refuses.ensures ∙ unread _ _ _ _ _ _ _ _ c.if-ready-whole.false)

pub returns-else-ready : goal.returns-else-ready
returns-else-ready c = rw c.in-Caps.is (c.readies.ensures ∙ first _ _ _ _ _ _ _ c.if-ready.false)

pub returns-else-not-ready : goal.returns-else-not-ready
returns-else-not-ready c = rw c.in-Asks.is (ap (taking _ _) c.act-turn.ensures ∙ in_time _ _ _ _ _ _ _ (c.if-not-ready.false))
