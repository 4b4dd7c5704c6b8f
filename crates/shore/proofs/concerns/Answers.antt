-- `shore::concerns` meets its contract: each arm is a case of the definition.
use Rattle.shore.specs.Saying.{concern_said}
use Rattle.shore.proofs.concerns.Goals as goal

pub returns-in-Asked : goal.returns-in-Asked
unfolding concern_said
returns-in-Asked c = rw c.in-Asked.is

pub returns-in-Ready : goal.returns-in-Ready
unfolding concern_said
returns-in-Ready c = rw c.in-Ready.is

pub returns-in-Awaited : goal.returns-in-Awaited
unfolding concern_said
returns-in-Awaited c = rw c.in-Awaited.is

pub returns-in-Opened : goal.returns-in-Opened
unfolding concern_said
returns-in-Opened c = rw c.in-Opened.is

pub returns-in-Declined : goal.returns-in-Declined
unfolding concern_said
returns-in-Declined c = rw c.in-Declined.is

pub returns-in-Held : goal.returns-in-Held
unfolding concern_said
returns-in-Held c = rw c.in-Held.is

pub returns-in-Message : goal.returns-in-Message
unfolding concern_said
returns-in-Message c = rw c.in-Message.is

pub returns-in-Closed : goal.returns-in-Closed
unfolding concern_said
returns-in-Closed c = rw c.in-Closed.is

pub returns-in-Ignored : goal.returns-in-Ignored
unfolding concern_said
returns-in-Ignored c = rw c.in-Ignored.is

pub returns-in-Refused : goal.returns-in-Refused
unfolding concern_said
returns-in-Refused c = rw c.in-Refused.is
