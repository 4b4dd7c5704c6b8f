-- `deciding::readies` meets its contract: ready at the level.
use Rattle.deciding.specs.Deciding.{readying}
use Rattle.deciding.proofs.readies.Goals as goal

pub returns : goal.returns
unfolding readying
returns c = rw c.level_for-level.ensures
