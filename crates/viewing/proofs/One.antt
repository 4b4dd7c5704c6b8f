-- Two outcomes that a function's contract permits are equal: the result, and every byte of the buffer at exit.
-- `Reads.Post` is the contract as the source states it, read as plain facts.
-- Assumes nothing.
use mathlib.Core.Path.{◌≡◌}
use Rattle.lists.proofs.Cases.{same}
use Rattle.viewing.proofs.asked.Reads as asked
use Rattle.viewing.proofs.show.Reads as show
use Rattle.viewing.proofs.gather.Reads as gather
use Rattle.viewing.proofs.line_at.Reads as line_at_lem
use Rattle.viewing.proofs.say.Reads as say

pub asked_one : (κs : _) (a : _) (r r' : _) (s s' : _) → asked.Post κs a r s → asked.Post κs a r' s' → r ≡ r'
asked_one κs a r r' s s' p q = same p q

-- the buffer is the second parameter
pub show_one : (κs : _) (a : _) (r r' : _) (s s' : _) → show.Post κs a r s → show.Post κs a r' s' → (r ≡ r') × (s.1.0.now ≡ s'.1.0.now)
show_one κs a r r' s s' p q = (same p.0.0 q.0.0, same p.1 q.1)

pub gather_one : (κs : _) (a : _) (r r' : _) (s s' : _) → gather.Post κs a r s → gather.Post κs a r' s' → (r ≡ r') × (s.1.0.now ≡ s'.1.0.now)
gather_one κs a r r' s s' p q = (same p.0.0 q.0.0, same p.1 q.1)

pub line_at_one : (κs : _) (a : _) (r r' : _) (s s' : _) → line_at_lem.Post κs a r s → line_at_lem.Post κs a r' s' → r ≡ r'
line_at_one κs a r r' s s' p q = same p q

pub say_one : (κs : _) (a : _) (r r' : _) (s s' : _) → say.Post κs a r s → say.Post κs a r' s' → (r ≡ r') × (s.0.now ≡ s'.0.now)
say_one κs a r r' s s' p q = (same p.0.0 q.0.0, same p.1 q.1)
