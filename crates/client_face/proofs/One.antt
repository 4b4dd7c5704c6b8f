-- Two outcomes that a function's contract permits are equal: the answer, and every byte of each buffer at exit.
-- `Reads.Post` is the contract as the source states it, read as plain facts.
-- Assumes nothing.
use mathlib.Core.Path.{◌≡◌}
use Rattle.lists.proofs.Cases.{same}
use Rattle.client_face.proofs.bad.Reads as bad
use Rattle.client_face.proofs.dvc_start.Reads as start
use Rattle.client_face.proofs.dvc_receive.Reads as receive
use Rattle.client_face.proofs.dvc_local_close.Reads as local-close

pub bad_one : (κs : _) (a : _) (r r' : _) (s s' : _) → bad.Post κs a r s → bad.Post κs a r' s' → r ≡ r'
bad_one κs a r r' s s' p q = same p q

pub dvc_start_one : (κs : _) (a : _) (r r' : _) (s s' : _) → start.Post κs a r s → start.Post κs a r' s'
    → (r ≡ r') × (s.0.now ≡ s'.0.now) × (s.1.0.now ≡ s'.1.0.now)
dvc_start_one κs a r r' s s' p q = (same p.0 q.0, same p.1.0 q.1.0, same p.1.1 q.1.1)

-- state and store are the first two parameters, the reply the fifth
pub dvc_receive_one : (κs : _) (a : _) (r r' : _) (s s' : _) → receive.Post κs a r s → receive.Post κs a r' s'
    → (r ≡ r') × (s.0.now ≡ s'.0.now) × (s.1.0.now ≡ s'.1.0.now) × (s.1.1.1.1.0.now ≡ s'.1.1.1.1.0.now)
dvc_receive_one κs a r r' s s' p q =
    (same p.0 q.0, same p.1.0 q.1.0, same p.1.1.0 q.1.1.0, same p.1.1.1 q.1.1.1)

-- the reply is the fourth
pub dvc_local_close_one : (κs : _) (a : _) (r r' : _) (s s' : _) → local-close.Post κs a r s → local-close.Post κs a r' s'
    → (r ≡ r') × (s.0.now ≡ s'.0.now) × (s.1.0.now ≡ s'.1.0.now) × (s.1.1.1.0.now ≡ s'.1.1.1.0.now)
dvc_local_close_one κs a r r' s s' p q =
    (same p.0 q.0, same p.1.0 q.1.0, same p.1.1.0 q.1.1.0, same p.1.1.1 q.1.1.1)
