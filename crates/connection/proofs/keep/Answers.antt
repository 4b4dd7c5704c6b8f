-- `connection::keep` meets its contract: each arm is a case of the definition.
use mathlib.Core.Path.{refl}
use Rattle.connection.specs.States.{kept}
use Rattle.connection.proofs.keep.Goals as goal

pub returns-in-Keeps : goal.returns-in-Keeps
unfolding kept
returns-in-Keeps c = rw c.in-Keeps.is refl

pub returns-in-Takes : goal.returns-in-Takes
unfolding kept
returns-in-Takes c = rw c.in-Takes.is c.put_block.ensures

pub returns-in-Clears : goal.returns-in-Clears
unfolding kept
returns-in-Clears c = rw c.in-Clears.is c.clear_part.ensures
