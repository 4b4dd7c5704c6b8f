-- Two outcomes that a function's contract permits are equal. `Reads.Post` is the contract as the source states it, read as plain facts.
-- Assumes nothing.
use mathlib.Core.Path.{◌≡◌}
use Rattle.lists.proofs.Cases.{same}
use Rattle.charges.proofs.shares_of.Reads as shares_of

pub shares_of_one : (κs : _) (a : _) (r r' : _) (s s' : _) → shares_of.Post κs a r s → shares_of.Post κs a r' s' → r ≡ r'
shares_of_one κs a r r' s s' p q = same p q
