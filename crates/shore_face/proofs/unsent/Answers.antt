-- `shore_face::unsent` meets its contract: a refusal that concerns no channel is packed as it is.
use Rattle.std.specs.Prelude.{None}
use mathlib.Core.Path.{refl, ◌∙◌}
use mathlib.Core.Logic.{inl}
use Rattle.paper.specs.Sizes.{PARTS}
use Rattle.shore.specs.declared.Said.TheVariants.{Refused}
use Rattle.shore.specs.Saying.{concern_said}
use Rattle.packing.proofs.Own.{own_said}
use Rattle.shore_face.proofs.unsent.Goals as goal

pub returns : goal.returns
unfolding PARTS concern_said
returns c = c.pack_said.ensures ∙ own_said 0 (Refused c.args.why None) (inl refl) PARTS 0
