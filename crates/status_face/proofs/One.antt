-- Two outcomes that a function's contract permits are equal: the result. No byte is lent to be written.
-- `Reads.Post` is the contract as the source states it, read as plain facts.
-- Assumes nothing.
use mathlib.Core.Path.{◌≡◌}
use Rattle.lists.proofs.Cases.{same}
use Rattle.status_face.proofs.dvc_totals.Reads as dvc-totals
use Rattle.status_face.proofs.dvc_count.Reads as dvc-count

pub dvc_totals_one : (κs : _) (a : _) (r r' : _) (s s' : _) → dvc-totals.Post κs a r s → dvc-totals.Post κs a r' s' → r ≡ r'
dvc_totals_one κs a r r' s s' p q = same p q

pub dvc_count_one : (κs : _) (a : _) (r r' : _) (s s' : _) → dvc-count.Post κs a r s → dvc-count.Post κs a r' s' → r ≡ r'
dvc_count_one κs a r r' s s' p q = same p q
