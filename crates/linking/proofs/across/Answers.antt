-- `linking::across` meets its contract: each arm is a case of the definition.
use Rattle.linking.specs.Linking.{across}
use Rattle.linking.proofs.Crossing.{wider}
use native.Mathlib.Omega.{arith}
use Rattle.linking.proofs.across.Goals as goal

pub returns-in-Shore : goal.returns-in-Shore
unfolding across
returns-in-Shore c = rw c.in-Shore.is c.to_panel.ensures

pub returns-in-Panel : goal.returns-in-Panel
unfolding across
returns-in-Panel c = rw c.in-Panel.is (wider (omega arith) c.to_shore.ensures)
