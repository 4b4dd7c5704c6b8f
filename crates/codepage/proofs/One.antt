-- Two outcomes that a function's contract permits are equal: the result, and every byte of the buffer at exit.
-- `Reads.Post` is the contract as the source states it, read as plain facts.
-- Assumes nothing.
use mathlib.Core.Path.{◌≡◌}
use Rattle.lists.proofs.Cases.{same}
use Rattle.codepage.proofs.point_of.Reads as point-of
use Rattle.codepage.proofs.point_for.Reads as point-for
use Rattle.codepage.proofs.to_utf8.Reads as to-utf8
use Rattle.codepage.proofs.from_utf8.Reads as from-utf8
use Rattle.codepage.proofs.has_name.Reads as has-name
use Rattle.codepage.proofs.dvc_name_to_utf8.Reads as dvc-name-to-utf8
use Rattle.codepage.proofs.dvc_name_from_utf8.Reads as dvc-name-from-utf8

pub point_of_one : (κs : _) (a : _) (r r' : _) (s s' : _) → point-of.Post κs a r s → point-of.Post κs a r' s' → r ≡ r'
point_of_one κs a r r' s s' p q = same p q

pub point_for_one : (κs : _) (a : _) (r r' : _) (s s' : _) → point-for.Post κs a r s → point-for.Post κs a r' s' → r ≡ r'
point_for_one κs a r r' s s' p q = same p q

-- the buffer is the second parameter
pub to_utf8_one : (κs : _) (a : _) (r r' : _) (s s' : _) → to-utf8.Post κs a r s → to-utf8.Post κs a r' s'
    → (r ≡ r') × (s.1.0.now ≡ s'.1.0.now)
to_utf8_one κs a r r' s s' p q = (same p.0 q.0, same p.1 q.1)

pub from_utf8_one : (κs : _) (a : _) (r r' : _) (s s' : _) → from-utf8.Post κs a r s → from-utf8.Post κs a r' s'
    → (r ≡ r') × (s.1.0.now ≡ s'.1.0.now)
from_utf8_one κs a r r' s s' p q = (same p.0 q.0, same p.1 q.1)

pub has_name_one : (κs : _) (a : _) (r r' : _) (s s' : _) → has-name.Post κs a r s → has-name.Post κs a r' s' → r ≡ r'
has_name_one κs a r r' s s' p q = same p q

pub dvc_name_to_utf8_one : (κs : _) (a : _) (r r' : _) (s s' : _) → dvc-name-to-utf8.Post κs a r s → dvc-name-to-utf8.Post κs a r' s'
    → (r ≡ r') × (s.1.0.now ≡ s'.1.0.now)
dvc_name_to_utf8_one κs a r r' s s' p q = (same p.0 q.0, same p.1 q.1)

pub dvc_name_from_utf8_one : (κs : _) (a : _) (r r' : _) (s s' : _) → dvc-name-from-utf8.Post κs a r s → dvc-name-from-utf8.Post κs a r' s'
    → (r ≡ r') × (s.1.0.now ≡ s'.1.0.now)
dvc_name_from_utf8_one κs a r r' s s' p q = (same p.0 q.0, same p.1 q.1)
