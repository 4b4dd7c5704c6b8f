-- `client::refused` meets its contract: the table as it came.
use mathlib.Core.Path.{refl}
use Rattle.paper.specs.Sizes.{PARTS}
use Rattle.client.proofs.refused.Goals as goal

pub returns : goal.returns
unfolding PARTS
returns c = refl
