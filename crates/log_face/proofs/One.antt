-- Two outcomes that a function's contract permits are equal: the result, and where a room is lent, every byte of it.
-- `Reads.Post` is the contract as the source states it, read as plain facts.
-- Assumes nothing.
use mathlib.Core.Path.{◌≡◌}
use Rattle.lists.proofs.Cases.{same}
use Rattle.log_face.proofs.dvc_log_append.Reads as dvc-log-append
use Rattle.log_face.proofs.dvc_log_close.Reads as dvc-log-close
use Rattle.log_face.proofs.dvc_log_take_up.Reads as dvc-log-take-up
use Rattle.log_face.proofs.dvc_log_read.Reads as dvc-log-read
use Rattle.log_face.proofs.dvc_log_take_back.Reads as dvc-log-take-back

pub dvc_log_append_one : (κs : _) (a : _) (r r' : _) (s s' : _) → dvc-log-append.Post κs a r s → dvc-log-append.Post κs a r' s'
    → (r ≡ r') × (s.1.0.now ≡ s'.1.0.now)
dvc_log_append_one κs a r r' s s' p q = (same p.0 q.0, same p.1 q.1)

pub dvc_log_close_one : (κs : _) (a : _) (r r' : _) (s s' : _) → dvc-log-close.Post κs a r s → dvc-log-close.Post κs a r' s'
    → (r ≡ r') × (s.1.0.now ≡ s'.1.0.now)
dvc_log_close_one κs a r r' s s' p q = (same p.0 q.0, same p.1 q.1)

pub dvc_log_take_up_one : (κs : _) (a : _) (r r' : _) (s s' : _) → dvc-log-take-up.Post κs a r s → dvc-log-take-up.Post κs a r' s' → r ≡ r'
dvc_log_take_up_one κs a r r' s s' p q = same p q

pub dvc_log_read_one : (κs : _) (a : _) (r r' : _) (s s' : _) → dvc-log-read.Post κs a r s → dvc-log-read.Post κs a r' s'
    → (r ≡ r') × (s.1.1.1.1.0.now ≡ s'.1.1.1.1.0.now)
dvc_log_read_one κs a r r' s s' p q = (same p.0 q.0, same p.1 q.1)

pub dvc_log_take_back_one : (κs : _) (a : _) (r r' : _) (s s' : _) → dvc-log-take-back.Post κs a r s → dvc-log-take-back.Post κs a r' s'
    → (r ≡ r') × (s.1.0.now ≡ s'.1.0.now)
dvc_log_take_back_one κs a r r' s s' p q = (same p.0 q.0, same p.1 q.1)
