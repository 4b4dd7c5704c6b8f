-- Two outcomes that a function's contract permits are equal: the result, and every byte of the buffer at exit.
-- `Reads.Post` is the contract as the source states it, read as plain facts.
-- Assumes nothing.
use Rattle.std.proofs.Common.{◌≡◌}
use Rattle.lists.proofs.Cases.{same}
use Rattle.judge.proofs.judge.Reads as judge
use Rattle.judge.proofs.comes_to.Reads as comes-to
use Rattle.judge.proofs.begin.Reads as begin
use Rattle.judge.proofs.turn.Reads as turn
use Rattle.judge.proofs.head_needs.Reads as head-needs
use Rattle.judge.proofs.line.Reads as line
use Rattle.judge.proofs.say.Reads as say

pub judge_one : (κs : _) (a : _) (r r' : _) (s s' : _) → judge.Post κs a r s → judge.Post κs a r' s' → r ≡ r'
judge_one κs a r r' s s' p q = same p q

pub comes_to_one : (κs : _) (a : _) (r r' : _) (s s' : _) → comes-to.Post κs a r s → comes-to.Post κs a r' s' → r ≡ r'
comes_to_one κs a r r' s s' p q = same p q

pub begin_one : (κs : _) (a : _) (r r' : _) (s s' : _) → begin.Post κs a r s → begin.Post κs a r' s' → r ≡ r'
begin_one κs a r r' s s' p q = same p q

-- the input is the fourth parameter
pub turn_one : (κs : _) (a : _) (r r' : _) (s s' : _) → turn.Post κs a r s → turn.Post κs a r' s'
    → (r ≡ r') × (s.1.1.1.0.now ≡ s'.1.1.1.0.now)
turn_one κs a r r' s s' p q = (same p.0.0 q.0.0, same p.1 q.1)

pub head_needs_one : (κs : _) (a : _) (r r' : _) (s s' : _) → head-needs.Post κs a r s → head-needs.Post κs a r' s' → r ≡ r'
head_needs_one κs a r r' s s' p q = same p.0 q.0

pub line_one : (κs : _) (a : _) (r r' : _) (s s' : _) → line.Post κs a r s → line.Post κs a r' s'
    → (r ≡ r') × (s.0.now ≡ s'.0.now)
line_one κs a r r' s s' p q = (same p.0.0 q.0.0, same p.1 q.1)

pub say_one : (κs : _) (a : _) (r r' : _) (s s' : _) → say.Post κs a r s → say.Post κs a r' s'
    → (r ≡ r') × (s.0.now ≡ s'.0.now)
say_one κs a r r' s s' p q = (same p.0.0 q.0.0, same p.1 q.1)
