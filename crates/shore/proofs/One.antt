-- Two outcomes that a function's contract permits are equal: the result, and every byte of each buffer at exit.
-- `Reads.Post` is the contract as the source states it, read as plain facts.
-- Assumes nothing.
use mathlib.Core.Path.{◌≡◌}
use Rattle.lists.proofs.Cases.{same}
use Rattle.shore.proofs.start.Reads as start
use Rattle.shore.proofs.request.Reads as request
use Rattle.shore.proofs.receive.Reads as receive
use Rattle.shore.proofs.open.Reads as local-open
use Rattle.shore.proofs.local_close.Reads as local-close
use Rattle.shore.proofs.hear.Reads as hear
use Rattle.shore.proofs.closing.Reads as closing
use Rattle.shore.proofs.decide.Reads as decide
use Rattle.shore.proofs.awaited.Reads as awaited
use Rattle.shore.proofs.concerns.Reads as concerns
use Rattle.shore.proofs.value.Reads as value

pub start_one : (κs : _) (a : _) (r r' : _) (s s' : _) → start.Post κs a r s → start.Post κs a r' s'
    → (r ≡ r') × (s.0.now ≡ s'.0.now)
start_one κs a r r' s s' p q = (same p.0 q.0, same p.1 q.1)

-- the buffer is the fourth parameter
pub request_one : (κs : _) (a : _) (r r' : _) (s s' : _) → request.Post κs a r s → request.Post κs a r' s'
    → (r ≡ r') × (s.1.1.1.0.now ≡ s'.1.1.1.0.now)
request_one κs a r r' s s' p q = (same p.0 q.0, same p.1 q.1)

-- the store is the second parameter, the reply the fourth
pub receive_one : (κs : _) (a : _) (r r' : _) (s s' : _) → receive.Post κs a r s → receive.Post κs a r' s'
    → (r ≡ r') × (s.1.0.now ≡ s'.1.0.now) × (s.1.1.1.0.now ≡ s'.1.1.1.0.now)
receive_one κs a r r' s s' p q = (same p.0 q.0, same p.1.0 q.1.0, same p.1.1 q.1.1)

-- the buffer is the fourth parameter
pub open_one : (κs : _) (a : _) (r r' : _) (s s' : _) → local-open.Post κs a r s → local-open.Post κs a r' s'
    → (r ≡ r') × (s.1.1.1.0.now ≡ s'.1.1.1.0.now)
open_one κs a r r' s s' p q = (same p.0 q.0, same p.1 q.1)

-- the store is the second parameter, the reply the fourth
pub local_close_one : (κs : _) (a : _) (r r' : _) (s s' : _) → local-close.Post κs a r s → local-close.Post κs a r' s'
    → (r ≡ r') × (s.1.0.now ≡ s'.1.0.now) × (s.1.1.1.0.now ≡ s'.1.1.1.0.now)
local_close_one κs a r r' s s' p q = (same p.0 q.0, same p.1.0 q.1.0, same p.1.1 q.1.1)

pub concerns_one : (κs : _) (a : _) (r r' : _) (s s' : _) → concerns.Post κs a r s → concerns.Post κs a r' s' → r ≡ r'
concerns_one κs a r r' s s' p q = same p q

pub value_one : (κs : _) (a : _) (r r' : _) (s s' : _) → value.Post κs a r s → value.Post κs a r' s' → r ≡ r'
value_one κs a r r' s s' p q = same p q

pub hear_one : (κs : _) (a : _) (r r' : _) (s s' : _) → hear.Post κs a r s → hear.Post κs a r' s' → r ≡ r'
hear_one κs a r r' s s' p q = same p q

pub closing_one : (κs : _) (a : _) (r r' : _) (s s' : _) → closing.Post κs a r s → closing.Post κs a r' s' → r ≡ r'
closing_one κs a r r' s s' p q = same p q

pub decide_one : (κs : _) (a : _) (r r' : _) (s s' : _) → decide.Post κs a r s → decide.Post κs a r' s' → r ≡ r'
decide_one κs a r r' s s' p q = same p q

pub awaited_one : (κs : _) (a : _) (r r' : _) (s s' : _) → awaited.Post κs a r s → awaited.Post κs a r' s' → r ≡ r'
awaited_one κs a r r' s s' p q = same p q
