-- Two outcomes that a function's contract permits are equal.
-- `Reads.Post` is the contract as the source states it, read as plain facts.
-- Assumes nothing.
use mathlib.Core.Path.{◌≡◌}
use Rattle.lists.proofs.Cases.{same}
use Rattle.reading.proofs.read.Reads as read
use Rattle.reading.proofs.read_strict.Reads as read-strict
use Rattle.reading.proofs.carries.Reads as carries
use Rattle.reading.proofs.charges_at.Reads as charges-at
use Rattle.reading.proofs.verdict.Reads as verdict
use Rattle.reading.proofs.Extent.of.Reads as of
use Rattle.reading.proofs.dvc_strict.Reads as dvc-strict

pub read_one : (κs : _) (a : _) (r r' : _) (s s' : _) → read.Post κs a r s → read.Post κs a r' s'
    → r ≡ r'
read_one κs a r r' s s' p q = same p q

pub read_strict_one : (κs : _) (a : _) (r r' : _) (s s' : _) → read-strict.Post κs a r s → read-strict.Post κs a r' s'
    → r ≡ r'
read_strict_one κs a r r' s s' p q = same p q

pub carries_one : (κs : _) (a : _) (r r' : _) (s s' : _) → carries.Post κs a r s → carries.Post κs a r' s'
    → r ≡ r'
carries_one κs a r r' s s' p q = same p q

pub charges_at_one : (κs : _) (a : _) (r r' : _) (s s' : _) → charges-at.Post κs a r s → charges-at.Post κs a r' s'
    → r ≡ r'
charges_at_one κs a r r' s s' p q = same p q

pub of_one : (κs : _) (a : _) (r r' : _) (s s' : _) → of.Post κs a r s → of.Post κs a r' s'
    → r.now ≡ r'.now
of_one κs a r r' s s' p q = same p q

pub verdict_one : (κs : _) (a : _) (r r' : _) (s s' : _) → verdict.Post κs a r s → verdict.Post κs a r' s'
    → r ≡ r'
verdict_one κs a r r' s s' p q = same p q

pub dvc_strict_one : (κs : _) (a : _) (r r' : _) (s s' : _) → dvc-strict.Post κs a r s → dvc-strict.Post κs a r' s'
    → r ≡ r'
dvc_strict_one κs a r r' s s' p q = same p q
