-- `said::first_number` meets its contract: each arm is a case of the definition.
use Rattle.said.proofs.first_number.Goals as goal

pub returns-in-Refused : goal.returns-in-Refused
returns-in-Refused c = rw c.in-Refused.is c.refusal_number.ensures
