-- Two outcomes that a function's contract permits are equal: the result, and every byte of the buffers at exit.
-- `Reads.Post` is the contract as the source states it, read as plain facts.
-- Assumes nothing.
use Rattle.std.proofs.Common.{◌≡◌}
use Rattle.lists.proofs.Cases.{same}
use Rattle.cause.proofs.begin.Reads as begin
use Rattle.cause.proofs.turn.Reads as turn
use Rattle.cause.proofs.sought_in.Reads as sought-in
use Rattle.cause.proofs.say.Reads as say

pub begin_one : (κs : _) (a : _) (r r' : _) (s s' : _) → begin.Post κs a r s → begin.Post κs a r' s'
    → (r ≡ r') × (s.0.now ≡ s'.0.now)
begin_one κs a r r' s s' p q = (same p.0 q.0, same p.1 q.1)

-- the store is the third parameter, the input the fifth
pub turn_one : (κs : _) (a : _) (r r' : _) (s s' : _) → turn.Post κs a r s → turn.Post κs a r' s'
    → (r ≡ r') × ((s.1.1.0.now ≡ s'.1.1.0.now) × (s.1.1.1.1.0.now ≡ s'.1.1.1.1.0.now))
turn_one κs a r r' s s' p q = (same p.0.0 q.0.0, (same p.1.0 q.1.0, same p.1.1 q.1.1))

pub sought_in_one : (κs : _) (a : _) (r r' : _) (s s' : _) → sought-in.Post κs a r s → sought-in.Post κs a r' s' → r ≡ r'
sought_in_one κs a r r' s s' p q = same p q

pub say_one : (κs : _) (a : _) (r r' : _) (s s' : _) → say.Post κs a r s → say.Post κs a r' s'
    → (r ≡ r') × (s.0.now ≡ s'.0.now)
say_one κs a r r' s s' p q = (same p.0.0 q.0.0, same p.1 q.1)
