-- `shore::settled` meets its contract: the record of an open channel, idle.
use mathlib.Core.Path.{refl}
use Rattle.shore.specs.Rules.{settled_record}
use Rattle.shore.proofs.settled.Goals as goal

pub returns : goal.returns
unfolding settled_record
returns c = refl
