-- Two outcomes that a function's contract permits are equal: the result, and every byte of the room at exit.
-- `Reads.Post` is the contract as the source states it, read as plain facts.
-- Assumes nothing.
use mathlib.Core.Path.{◌≡◌}
use Rattle.lists.proofs.Cases.{same}
use Rattle.linklog.proofs.append.Reads as append
use Rattle.linklog.proofs.close.Reads as close
use Rattle.linklog.proofs.begin.Reads as begin
use Rattle.linklog.proofs.whole.Reads as whole
use Rattle.linklog.proofs.turn.Reads as turn
use Rattle.linklog.proofs.framed.Reads as framed
use Rattle.linklog.proofs.take_up.Reads as take-up
use Rattle.linklog.proofs.take_back.Reads as take_back

-- the room is the second parameter
pub append_one : (κs : _) (a : _) (r r' : _) (s s' : _) → append.Post κs a r s → append.Post κs a r' s'
    → (r ≡ r') × (s.1.0.now ≡ s'.1.0.now)
append_one κs a r r' s s' p q = (same p.0 q.0, same p.1 q.1)

pub close_one : (κs : _) (a : _) (r r' : _) (s s' : _) → close.Post κs a r s → close.Post κs a r' s'
    → (r ≡ r') × (s.1.0.now ≡ s'.1.0.now)
close_one κs a r r' s s' p q = (same p.0 q.0, same p.1 q.1)

pub begin_one : (κs : _) (a : _) (r r' : _) (s s' : _) → begin.Post κs a r s → begin.Post κs a r' s' → r ≡ r'
begin_one κs a r r' s s' p q = same p q

pub whole_one : (κs : _) (a : _) (r r' : _) (s s' : _) → whole.Post κs a r s → whole.Post κs a r' s' → r ≡ r'
whole_one κs a r r' s s' p q = same p.0 q.0

pub framed_one : (κs : _) (a : _) (r r' : _) (s s' : _) → framed.Post κs a r s → framed.Post κs a r' s' → r ≡ r'
framed_one κs a r r' s s' p q = same p.0 q.0

-- the room is the fifth
pub turn_one : (κs : _) (a : _) (r r' : _) (s s' : _) → turn.Post κs a r s → turn.Post κs a r' s'
    → (r ≡ r') × (s.1.1.1.1.0.now ≡ s'.1.1.1.1.0.now)
turn_one κs a r r' s s' p q = (same p.0 q.0, same p.1 q.1)

pub take_up_one : (κs : _) (a : _) (r r' : _) (s s' : _) → take-up.Post κs a r s → take-up.Post κs a r' s' → r ≡ r'
take_up_one κs a r r' s s' p q = same p q

-- the room is the second parameter
pub take_back_one : (κs : _) (a : _) (r r' : _) (s s' : _) → take_back.Post κs a r s → take_back.Post κs a r' s'
    → (r ≡ r') × (s.1.0.now ≡ s'.1.0.now)
take_back_one κs a r r' s s' p q = (same p.0 q.0, same p.1 q.1)
