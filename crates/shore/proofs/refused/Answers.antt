-- `shore::refused` meets its contract: what came in, and refusal 1.
use mathlib.Core.Path.{refl}
use Rattle.paper.specs.Sizes.{PARTS}
use Rattle.shore.proofs.refused.Goals as goal

pub returns : goal.returns
unfolding PARTS
returns c = refl
