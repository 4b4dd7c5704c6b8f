-- `status_face::refuse` meets its contract: the refusal is packed.
use Rattle.paper.specs.Sizes.{PARTS}
use Rattle.status_face.proofs.refuse.Goals as goal

pub returns : goal.returns
unfolding PARTS
returns c = c.pack_answer.ensures
