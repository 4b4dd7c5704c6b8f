-- `reading::verdict` meets its contract: the seven kinds are no refusal.
use mathlib.Core.Path.{refl}
use Rattle.reading.proofs.Judged.{kinds}
use Rattle.reading.proofs.verdict.Goals as goal

pub returns-in_default : goal.returns-in_default
returns-in_default c = rw (kinds c.args.answer c.in_default.not-Refused) refl

pub returns : goal.returns
returns c = rw c.in-Refused.is c.refusal_number.ensures
