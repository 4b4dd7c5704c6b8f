-- Two outcomes that a function's contract permits are equal: the result, and every byte of the buffers at exit.
-- `Reads.Post` is the contract as the source states it, read as plain facts.
-- Assumes nothing.
use Rattle.std.proofs.Common.{◌≡◌}
use Rattle.lists.proofs.Cases.{same}
use Rattle.planning.proofs.begin.Reads as begin
use Rattle.planning.proofs.turn.Reads as turn
use Rattle.planning.proofs.is_over.Reads as is-over
use Rattle.planning.proofs.ending.Reads as ending
use Rattle.planning.proofs.say.Reads as say

pub begin_one : (κs : _) (a : _) (r r' : _) (s s' : _) → begin.Post κs a r s → begin.Post κs a r' s' → r ≡ r'
begin_one κs a r r' s s' p q = same p q

-- the input is the second parameter, the output the third
pub turn_one : (κs : _) (a : _) (r r' : _) (s s' : _) → turn.Post κs a r s → turn.Post κs a r' s'
    → (r ≡ r') × ((s.1.0.now ≡ s'.1.0.now) × (s.1.1.0.now ≡ s'.1.1.0.now))
turn_one κs a r r' s s' p q = (same p.0.0 q.0.0, (same p.1.0 q.1.0, same p.1.1 q.1.1))

pub is_over_one : (κs : _) (a : _) (r r' : _) (s s' : _) → is-over.Post κs a r s → is-over.Post κs a r' s' → r ≡ r'
is_over_one κs a r r' s s' p q = same p q

pub ending_one : (κs : _) (a : _) (r r' : _) (s s' : _) → ending.Post κs a r s → ending.Post κs a r' s' → r ≡ r'
ending_one κs a r r' s s' p q = same p q

pub say_one : (κs : _) (a : _) (r r' : _) (s s' : _) → say.Post κs a r s → say.Post κs a r' s'
    → (r ≡ r') × (s.0.now ≡ s'.0.now)
say_one κs a r r' s s' p q = (same p.0.0 q.0.0, same p.1 q.1)
