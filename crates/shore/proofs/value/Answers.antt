-- `shore::value` meets its contract: each arm is a case of the definition.
use Rattle.shore.specs.Saying.{number_said}
use Rattle.shore.proofs.value.Goals as goal

pub returns-in-Asked : goal.returns-in-Asked
unfolding number_said
returns-in-Asked c = rw c.in-Asked.is

pub returns-in-Ready : goal.returns-in-Ready
unfolding number_said
returns-in-Ready c = rw c.in-Ready.is

pub returns-in-Awaited : goal.returns-in-Awaited
unfolding number_said
returns-in-Awaited c = rw c.in-Awaited.is

pub returns-in-Opened : goal.returns-in-Opened
unfolding number_said
returns-in-Opened c = rw c.in-Opened.is

pub returns-in-Declined : goal.returns-in-Declined
unfolding number_said
returns-in-Declined c = rw c.in-Declined.is

pub returns-in-Held : goal.returns-in-Held
unfolding number_said
returns-in-Held c = rw c.in-Held.is

pub returns-in-Message : goal.returns-in-Message
unfolding number_said
returns-in-Message c = rw c.in-Message.is

pub returns-in-Closed : goal.returns-in-Closed
unfolding number_said
returns-in-Closed c = rw c.in-Closed.is

pub returns-in-Ignored : goal.returns-in-Ignored
unfolding number_said
returns-in-Ignored c = rw c.in-Ignored.is

pub returns-in-Refused : goal.returns-in-Refused
unfolding number_said
returns-in-Refused c = rw c.in-Refused.is c.refusal_number.ensures
