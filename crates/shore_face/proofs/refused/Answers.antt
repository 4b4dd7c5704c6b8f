-- `shore_face::refused` meets its contract: both ends say refusal 1 alike.
use mathlib.Core.Path.{◌∙◌}
use Rattle.paper.specs.Sizes.{PARTS}
use Rattle.shore_face.proofs.Calls.{no_state_law}
use Rattle.shore_face.proofs.refused.Goals as goal

pub returns : goal.returns
unfolding PARTS
returns c = c.unsent.ensures ∙ no_state_law
