-- Two outcomes that a function's contract permits are equal: the result, and every byte of the buffer at exit.
-- `Reads.Post` is the contract as the source states it, read as plain facts.
-- Assumes nothing.
use mathlib.Core.Path.{◌≡◌}
use Rattle.lists.proofs.Cases.{same}
use Rattle.cutting.proofs.cut.Reads as cut
use Rattle.cutting.proofs.dvc_cut.Reads as dvc-cut

pub cut_one : (κs : _) (a : _) (r r' : _) (s s' : _) → cut.Post κs a r s → cut.Post κs a r' s'
    → (r ≡ r') × (s.1.1.1.0.now ≡ s'.1.1.1.0.now)
cut_one κs a r r' s s' p q = (same p.0 q.0, same p.1 q.1)

pub dvc_cut_one : (κs : _) (a : _) (r r' : _) (s s' : _) → dvc-cut.Post κs a r s → dvc-cut.Post κs a r' s'
    → (r ≡ r') × (s.1.1.1.0.now ≡ s'.1.1.1.0.now)
dvc_cut_one κs a r r' s s' p q = (same p.0 q.0, same p.1 q.1)
