-- Two outcomes that the contract permits are equal. `Reads.Post` is the
-- contract that the source states, read as plain facts.
-- Assumes nothing.
use mathlib.Core.Path.{◌≡◌, sym, ◌∙◌}
use Rattle.paper.proofs.refusal_number.Reads as refusal-number

pub refusal_number_one : (κs : _) (a : _) (r r' : _) (s s' : _) → refusal-number.Post κs a r s → refusal-number.Post κs a r' s' → r ≡ r'
refusal_number_one κs a r r' s s' p q = p ∙ sym q
