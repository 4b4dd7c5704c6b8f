-- `deciding::refuses` meets its contract: an answer and nothing else.
use Rattle.deciding.specs.Deciding.{refusing}
use Rattle.deciding.proofs.refuses.Goals as goal

pub returns : goal.returns
unfolding refusing
returns c = rw c.answers-turn.ensures
