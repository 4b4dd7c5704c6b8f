-- `shore::said_as` meets its contract: each arm is a case of the definition.
use Rattle.shore.specs.Saying.{said_as}
use Rattle.shore.proofs.said_as.Goals as goal

pub returns-in-Ready : goal.returns-in-Ready
unfolding said_as
returns-in-Ready c = rw c.in-Ready.is

pub returns-in-Opened : goal.returns-in-Opened
unfolding said_as
returns-in-Opened c = rw c.in-Opened.is

pub returns-in-Declined : goal.returns-in-Declined
unfolding said_as
returns-in-Declined c = rw c.in-Declined.is

pub returns-in-Held : goal.returns-in-Held
unfolding said_as
returns-in-Held c = rw c.in-Held.is

pub returns-in-Message : goal.returns-in-Message
unfolding said_as
returns-in-Message c = rw c.in-Message.is

pub returns-in-Closed : goal.returns-in-Closed
unfolding said_as
returns-in-Closed c = rw c.in-Closed.is

pub returns-in-Ignored : goal.returns-in-Ignored
unfolding said_as
returns-in-Ignored c = rw c.in-Ignored.is

pub returns-in-Refused : goal.returns-in-Refused
unfolding said_as
returns-in-Refused c = rw c.in-Refused.is
