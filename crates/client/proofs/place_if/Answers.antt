-- `client::place_if` meets its contract: each arm is a case of the definition.
use Rattle.paper.specs.Sizes.{PARTS}
use Rattle.client.specs.Client.{place_if}
use Rattle.client.proofs.place_if.Goals as goal

pub returns-in-None : goal.returns-in-None
unfolding place_if PARTS
returns-in-None c = rw c.in-None.is

pub returns-in-Some : goal.returns-in-Some
unfolding place_if
returns-in-Some c = rw c.in-Some.is
