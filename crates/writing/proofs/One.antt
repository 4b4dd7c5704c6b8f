-- Two outcomes that a function's contract permits are equal: the result, and every byte of the buffer at exit.
-- `Reads.Post` is the contract as the source states it, read as plain facts.
-- Assumes nothing.
use Rattle.std.specs.Prelude.{Result}
use Rattle.paper.specs.declared.Refusal.{Refusal}
use mathlib.Core.Path.{◌≡◌, sym, ◌∙◌}
use mathlib.Core.List.{List}
use Prim.Native.Nat.{ℕ}
use Rattle.lists.proofs.Cases.{same}
use Rattle.laying.specs.Laying.{buffer_after}
use Rattle.writing.specs.Writing.{outcome}
use Rattle.writing.proofs.write_create_request.Reads as write-create-request
use Rattle.writing.proofs.write_create_response.Reads as write-create-response
use Rattle.writing.proofs.write_data_first.Reads as write-data-first
use Rattle.writing.proofs.write_data.Reads as write-data
use Rattle.writing.proofs.write_close.Reads as write-close
use Rattle.writing.proofs.write_capabilities_request.Reads as write-capabilities-request
use Rattle.writing.proofs.write_capabilities_response.Reads as write-capabilities-response

-- the buffer is what the answer leaves of it
written_one : (v : Result ℕ Refusal) (pdu out : List ℕ) {r r' : Result ℕ Refusal} {b b' : List ℕ}
    → (r ≡ v) × (b ≡ buffer_after (outcome r) pdu out) → (r' ≡ v) × (b' ≡ buffer_after (outcome r') pdu out) → (r ≡ r') × (b ≡ b')
written_one v pdu out p q =
    let e = same p.0 q.0 in
    (e, p.1 ∙ rw e (sym q.1))

pub write_create_request_one : (κs : _) (a : _) (r r' : _) (s s' : _) → write-create-request.Post κs a r s
    → write-create-request.Post κs a r' s'
    → (r ≡ r') × (s.0.now ≡ s'.0.now)
write_create_request_one κs a r r' s s' p q = written_one _ _ _ p q

pub write_create_response_one : (κs : _) (a : _) (r r' : _) (s s' : _) → write-create-response.Post κs a r s
    → write-create-response.Post κs a r' s'
    → (r ≡ r') × (s.0.now ≡ s'.0.now)
write_create_response_one κs a r r' s s' p q = written_one _ _ _ p q

pub write_data_first_one : (κs : _) (a : _) (r r' : _) (s s' : _) → write-data-first.Post κs a r s
    → write-data-first.Post κs a r' s'
    → (r ≡ r') × (s.0.now ≡ s'.0.now)
write_data_first_one κs a r r' s s' p q = written_one _ _ _ p q

pub write_data_one : (κs : _) (a : _) (r r' : _) (s s' : _) → write-data.Post κs a r s → write-data.Post κs a r' s'
    → (r ≡ r') × (s.0.now ≡ s'.0.now)
write_data_one κs a r r' s s' p q = written_one _ _ _ p q

pub write_close_one : (κs : _) (a : _) (r r' : _) (s s' : _) → write-close.Post κs a r s → write-close.Post κs a r' s'
    → (r ≡ r') × (s.0.now ≡ s'.0.now)
write_close_one κs a r r' s s' p q = written_one _ _ _ p q

pub write_capabilities_request_one : (κs : _) (a : _) (r r' : _) (s s' : _)
    → write-capabilities-request.Post κs a r s → write-capabilities-request.Post κs a r' s'
    → (r ≡ r') × (s.0.now ≡ s'.0.now)
write_capabilities_request_one κs a r r' s s' p q = written_one _ _ _ p q

pub write_capabilities_response_one : (κs : _) (a : _) (r r' : _) (s s' : _)
    → write-capabilities-response.Post κs a r s → write-capabilities-response.Post κs a r' s'
    → (r ≡ r') × (s.0.now ≡ s'.0.now)
write_capabilities_response_one κs a r r' s s' p q = written_one _ _ _ p q
