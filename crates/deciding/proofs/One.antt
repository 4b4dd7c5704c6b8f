-- Two outcomes that a function's contract permits are equal: the result.
-- `Reads.Post` is the contract as the source states it, read as plain facts.
-- Assumes nothing.
use mathlib.Core.Path.{◌≡◌}
use Rattle.lists.proofs.Cases.{same}
use Rattle.deciding.proofs.decide.Reads as decide

pub decide_one : (κs : _) (a : _) (r r' : _) (s s' : _) → decide.Post κs a r s → decide.Post κs a r' s'
    → r ≡ r'
decide_one κs a r r' s s' p q = same p q
