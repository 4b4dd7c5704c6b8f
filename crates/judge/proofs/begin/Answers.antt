-- `judge::begin` meets its contract: the definition's record.
use Rattle.std.proofs.Common.{refl}
use Rattle.judge.specs.Judge.{beginning}
use Rattle.judge.specs.Sender.{at_first}
use Rattle.judge.proofs.begin.Goals as goal

pub returns : goal.returns
unfolding at_first beginning
returns c = refl
