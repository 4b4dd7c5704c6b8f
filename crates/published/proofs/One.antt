-- Two outcomes that a function's contract permits are equal: the result, and every byte of the buffer at exit.
-- `Reads.Post` is the contract as the source states it, read as plain facts.
-- Assumes nothing.
use mathlib.Core.Path.{◌≡◌}
use Rattle.lists.proofs.Cases.{same}
use Rattle.published.proofs.compare.Reads as compare
use Rattle.published.proofs.say.Reads as say

-- the buffer is the second parameter
pub compare_one : (κs : _) (a : _) (r r' : _) (s s' : _) → compare.Post κs a r s → compare.Post κs a r' s'
    → (r ≡ r') × (s.1.0.now ≡ s'.1.0.now)
compare_one κs a r r' s s' p q = (same p.0.0 q.0.0, same p.1 q.1)

pub say_one : (κs : _) (a : _) (r r' : _) (s s' : _) → say.Post κs a r s → say.Post κs a r' s' → (r ≡ r') × (s.0.now ≡ s'.0.now)
say_one κs a r r' s s' p q = (same p.0.0 q.0.0, same p.1 q.1)
