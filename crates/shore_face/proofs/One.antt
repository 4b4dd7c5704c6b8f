-- Two outcomes that a function's contract permits are equal: the result, and every byte of each buffer at exit.
-- `Reads.Post` is the contract as the source states it, read as plain facts.
-- Assumes nothing.
use mathlib.Core.Path.{◌≡◌}
use Rattle.lists.proofs.Cases.{same}
use Rattle.shore_face.proofs.dvc_shore_start.Reads as start
use Rattle.shore_face.proofs.dvc_shore_receive.Reads as receive
use Rattle.shore_face.proofs.dvc_shore_local_close.Reads as local-close
use Rattle.shore_face.proofs.dvc_shore_request.Reads as request
use Rattle.shore_face.proofs.dvc_shore_open.Reads as local-open

-- the state is the first parameter, the store the second
pub dvc_shore_start_one : (κs : _) (a : _) (r r' : _) (s s' : _) → start.Post κs a r s → start.Post κs a r' s'
    → (r ≡ r') × (s.0.now ≡ s'.0.now) × (s.1.0.now ≡ s'.1.0.now)
dvc_shore_start_one κs a r r' s s' p q = (same p.0 q.0, same p.1.0 q.1.0, same p.1.1 q.1.1)

-- and the reply the fourth
pub dvc_shore_receive_one : (κs : _) (a : _) (r r' : _) (s s' : _) → receive.Post κs a r s → receive.Post κs a r' s'
    → (r ≡ r') × (s.0.now ≡ s'.0.now) × (s.1.0.now ≡ s'.1.0.now) × (s.1.1.1.0.now ≡ s'.1.1.1.0.now)
dvc_shore_receive_one κs a r r' s s' p q =
    (same p.0 q.0, same p.1.0 q.1.0, same p.1.1.0 q.1.1.0, same p.1.1.1 q.1.1.1)

pub dvc_shore_local_close_one : (κs : _) (a : _) (r r' : _) (s s' : _) → local-close.Post κs a r s → local-close.Post κs a r' s'
    → (r ≡ r') × (s.0.now ≡ s'.0.now) × (s.1.0.now ≡ s'.1.0.now) × (s.1.1.1.0.now ≡ s'.1.1.1.0.now)
dvc_shore_local_close_one κs a r r' s s' p q =
    (same p.0 q.0, same p.1.0 q.1.0, same p.1.1.0 q.1.1.0, same p.1.1.1 q.1.1.1)

-- the buffer is the seventh parameter
pub dvc_shore_request_one : (κs : _) (a : _) (r r' : _) (s s' : _) → request.Post κs a r s → request.Post κs a r' s'
    → (r ≡ r') × (s.0.now ≡ s'.0.now) × (s.1.1.1.1.1.1.0.now ≡ s'.1.1.1.1.1.1.0.now)
dvc_shore_request_one κs a r r' s s' p q = (same p.0 q.0, same p.1.0 q.1.0, same p.1.1 q.1.1)

-- the buffer is the fourth parameter
pub dvc_shore_open_one : (κs : _) (a : _) (r r' : _) (s s' : _) → local-open.Post κs a r s → local-open.Post κs a r' s'
    → (r ≡ r') × (s.0.now ≡ s'.0.now) × (s.1.1.1.0.now ≡ s'.1.1.1.0.now)
dvc_shore_open_one κs a r r' s s' p q = (same p.0 q.0, same p.1.0 q.1.0, same p.1.1 q.1.1)
