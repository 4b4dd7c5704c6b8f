-- Two outcomes that a function's contract permits are equal: the result, and every byte of the buffer at exit.
-- `Reads.Post` is the contract as the source states it, read as plain facts.
-- Assumes nothing.
use mathlib.Core.Path.{◌≡◌}
use Rattle.lists.proofs.Cases.{same}
use Rattle.laying.proofs.create_request.Reads as create-request
use Rattle.laying.proofs.create_response.Reads as create-response
use Rattle.laying.proofs.data_first.Reads as data-first
use Rattle.laying.proofs.«data».Reads as plain-data
use Rattle.laying.proofs.close.Reads as close
use Rattle.laying.proofs.capabilities_request.Reads as capabilities-request
use Rattle.laying.proofs.capabilities_response.Reads as capabilities-response

pub create_request_one : (κs : _) (a : _) (r r' : _) (s s' : _) → create-request.Post κs a r s
    → create-request.Post κs a r' s'
    → (r ≡ r') × (s.0.now ≡ s'.0.now)
create_request_one κs a r r' s s' p q = (same p.0 q.0, same p.1 q.1)

pub create_response_one : (κs : _) (a : _) (r r' : _) (s s' : _) → create-response.Post κs a r s
    → create-response.Post κs a r' s'
    → (r ≡ r') × (s.0.now ≡ s'.0.now)
create_response_one κs a r r' s s' p q = (same p.0 q.0, same p.1 q.1)

pub data_first_one : (κs : _) (a : _) (r r' : _) (s s' : _) → data-first.Post κs a r s → data-first.Post κs a r' s'
    → (r ≡ r') × (s.0.now ≡ s'.0.now)
data_first_one κs a r r' s s' p q = (same p.0 q.0, same p.1 q.1)

pub data_one : (κs : _) (a : _) (r r' : _) (s s' : _) → plain-data.Post κs a r s → plain-data.Post κs a r' s'
    → (r ≡ r') × (s.0.now ≡ s'.0.now)
data_one κs a r r' s s' p q = (same p.0 q.0, same p.1 q.1)

pub close_one : (κs : _) (a : _) (r r' : _) (s s' : _) → close.Post κs a r s → close.Post κs a r' s'
    → (r ≡ r') × (s.0.now ≡ s'.0.now)
close_one κs a r r' s s' p q = (same p.0 q.0, same p.1 q.1)

pub capabilities_request_one : (κs : _) (a : _) (r r' : _) (s s' : _) → capabilities-request.Post κs a r s
    → capabilities-request.Post κs a r' s'
    → (r ≡ r') × (s.0.now ≡ s'.0.now)
capabilities_request_one κs a r r' s s' p q = (same p.0 q.0, same p.1 q.1)

pub capabilities_response_one : (κs : _) (a : _) (r r' : _) (s s' : _) → capabilities-response.Post κs a r s
    → capabilities-response.Post κs a r' s'
    → (r ≡ r') × (s.0.now ≡ s'.0.now)
capabilities_response_one κs a r r' s s' p q = (same p.0 q.0, same p.1 q.1)
