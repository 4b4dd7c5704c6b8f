-- `client_face::refused` meets its contract.
use mathlib.Core.Path.{◌∙◌}
use mathlib.Core.Logic.{inl}
use mathlib.Core.Path.{refl}
use Rattle.paper.specs.Sizes.{PARTS}
use Rattle.channel.specs.Answers.{concern_of}
use Rattle.packing.proofs.Own.{own}
use Rattle.client_face.specs.Face.{no_state}
use Rattle.client_face.proofs.refused.Goals as goal

pub returns : goal.returns
unfolding no_state concern_of PARTS
returns c = c.pack_answer.ensures ∙ own 0 _ (inl refl) PARTS 0
