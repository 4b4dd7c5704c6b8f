-- Two outcomes that a function's contract permits are equal: the result, and every byte of the buffers at exit.
-- `Reads.Post` is the contract as the source states it, read as plain facts.
-- Assumes nothing.
use mathlib.Core.Path.{◌≡◌}
use Rattle.lists.proofs.Cases.{same}
use Rattle.logging.proofs.begin.Reads as begin
use Rattle.logging.proofs.is_over.Reads as is-over
use Rattle.logging.proofs.take.Reads as take
use Rattle.logging.proofs.finish.Reads as finish
use Rattle.logging.proofs.judge.Reads as judge
use Rattle.logging.proofs.tell.Reads as tell

pub begin_one : (κs : _) (a : _) (r r' : _) (s s' : _) → begin.Post κs a r s → begin.Post κs a r' s' → r ≡ r'
begin_one κs a r r' s s' p q = same p q

pub is_over_one : (κs : _) (a : _) (r r' : _) (s s' : _) → is-over.Post κs a r s → is-over.Post κs a r' s' → r ≡ r'
is_over_one κs a r r' s s' p q = same p q

-- the input is the second parameter, the room the third, the output the fourth
pub take_one : (κs : _) (a : _) (r r' : _) (s s' : _) → take.Post κs a r s → take.Post κs a r' s'
    → (r ≡ r') × ((s.1.0.now ≡ s'.1.0.now) × ((s.1.1.0.now ≡ s'.1.1.0.now) × (s.1.1.1.0.now ≡ s'.1.1.1.0.now)))
take_one κs a r r' s s' p q =
    (same p.0.0 q.0.0, (same p.1.0 q.1.0, (same p.1.1.0 q.1.1.0, same p.1.1.1 q.1.1.1)))

-- the output is the third parameter
pub finish_one : (κs : _) (a : _) (r r' : _) (s s' : _) → finish.Post κs a r s → finish.Post κs a r' s'
    → (r ≡ r') × (s.1.1.0.now ≡ s'.1.1.0.now)
finish_one κs a r r' s s' p q = (same p.0.0 q.0.0, same p.1 q.1)

pub judge_one : (κs : _) (a : _) (r r' : _) (s s' : _) → judge.Post κs a r s → judge.Post κs a r' s' → r ≡ r'
judge_one κs a r r' s s' p q = same p q

-- the room is the fifth parameter, the output the sixth
pub tell_one : (κs : _) (a : _) (r r' : _) (s s' : _) → tell.Post κs a r s → tell.Post κs a r' s'
    → (r ≡ r') × ((s.1.1.1.1.0.now ≡ s'.1.1.1.1.0.now) × (s.1.1.1.1.1.0.now ≡ s'.1.1.1.1.1.0.now))
tell_one κs a r r' s s' p q = (same p.0 q.0, (same p.1.1.0 q.1.1.0, same p.1.1.1 q.1.1.1))
