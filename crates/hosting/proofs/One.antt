-- Two outcomes that a function's contract permits are equal: the result, and every byte of store and buffer at exit.
-- `Reads.Post` is the contract as the source states it, read as plain facts.
-- Assumes nothing.
use mathlib.Core.Path.{◌≡◌}
use Rattle.lists.proofs.Cases.{same}
use Rattle.hosting.proofs.announces.Reads as announces
use Rattle.hosting.proofs.hosted.Reads as hosted

pub announces_one : (κs : _) (a : _) (r r' : _) (s s' : _) → announces.Post κs a r s → announces.Post κs a r' s'
    → r ≡ r'
announces_one κs a r r' s s' p q = same p q

pub hosted_one : (κs : _) (a : _) (r r' : _) (s s' : _) → hosted.Post κs a r s → hosted.Post κs a r' s'
    → (r ≡ r') × (s.1.0.now ≡ s'.1.0.now) × (s.1.1.1.0.now ≡ s'.1.1.1.0.now)
hosted_one κs a r r' s s' p q = (same p.0 q.0, same p.1.0 q.1.0, same p.1.1 q.1.1)
