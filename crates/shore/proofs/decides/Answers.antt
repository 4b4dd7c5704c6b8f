-- `shore::decides` meets its contract: the common rules on what they see of the record.
use mathlib.Core.Path.{◌∙◌}
use Rattle.shore.proofs.decides.Goals as goal

pub returns : goal.returns
returns c = c.decide.ensures ∙ rw c.seen.ensures
