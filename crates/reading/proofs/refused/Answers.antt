-- `reading::refused` meets its contract.
use mathlib.Core.Path.{refl}
use Rattle.reading.proofs.refused.Goals as goal

pub returns : goal.returns
returns c = (refl, refl)
