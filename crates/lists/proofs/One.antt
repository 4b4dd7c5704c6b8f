-- Two outcomes that a function's contract permits are equal: the result, and every byte of the buffer at exit.
-- `Reads.Post` is the contract as the source states it, read as plain facts.
-- Assumes nothing.
use mathlib.Core.Path.{◌≡◌}
use Rattle.lists.proofs.Cases.{same}
use Rattle.lists.proofs.copy.Reads as copy
use Rattle.lists.proofs.copy_at.Reads as copy_at
use Rattle.lists.proofs.to_front.Reads as to_front
use Rattle.lists.proofs.clear.Reads as clear
use Rattle.lists.proofs.first_of.Reads as first_of
use Rattle.lists.proofs.first_zero.Reads as first-zero
use Rattle.lists.proofs.first_line.Reads as first-line

pub copy_one : (κs : _) (a : _) (r r' : _) (s s' : _) → copy.Post κs a r s → copy.Post κs a r' s'
    → s.0.now ≡ s'.0.now
copy_one κs a r r' s s' p q = same p q

pub copy_at_one : (κs : _) (a : _) (r r' : _) (s s' : _) → copy_at.Post κs a r s → copy_at.Post κs a r' s'
    → s.0.now ≡ s'.0.now
copy_at_one κs a r r' s s' p q = same p q

pub to_front_one : (κs : _) (a : _) (r r' : _) (s s' : _) → to_front.Post κs a r s → to_front.Post κs a r' s'
    → s.0.now ≡ s'.0.now
to_front_one κs a r r' s s' p q = same p q

pub clear_one : (κs : _) (a : _) (r r' : _) (s s' : _) → clear.Post κs a r s → clear.Post κs a r' s'
    → s.0.now ≡ s'.0.now
clear_one κs a r r' s s' p q = same p q

pub first_of_one : (κs : _) (a : _) (r r' : _) (s s' : _) → first_of.Post κs a r s → first_of.Post κs a r' s' → r ≡ r'
first_of_one κs a r r' s s' p q = same p q

pub first_zero_one : (κs : _) (a : _) (r r' : _) (s s' : _) → first-zero.Post κs a r s → first-zero.Post κs a r' s'
    → r ≡ r'
first_zero_one κs a r r' s s' p q = same p q

-- the line and what is behind it
pub first_line_one : (κs : _) (a : _) (r r' : _) (s s' : _) → first-line.Post κs a r s → first-line.Post κs a r' s'
    → (r.0.now ≡ r'.0.now) × (r.1.now ≡ r'.1.now)
first_line_one κs a r r' s s' p q = (same p.0 q.0, same p.1 q.1)
