-- `connection::stands` meets its contract: each arm is a case of the definition.
use Rattle.connection.specs.States.{stands}
use Rattle.connection.proofs.stands.Goals as goal

pub returns-in-Stays : goal.returns-in-Stays
unfolding stands
returns-in-Stays c = rw c.in-Stays.is

pub returns-in-Becomes : goal.returns-in-Becomes
unfolding stands
returns-in-Becomes c = rw c.in-Becomes.is

pub returns-in-Frees : goal.returns-in-Frees
unfolding stands
returns-in-Frees c = rw c.in-Frees.is
