-- Two outcomes that a function's contract permits are equal: the result, and every byte of the buffer at exit.
-- `Reads.Post` is the contract as the source states it, read as plain facts.
-- Assumes nothing.
use mathlib.Core.Path.{◌≡◌}
use Rattle.lists.proofs.Cases.{same}
use Rattle.handing.proofs.message.Reads as message
use Rattle.handing.proofs.handed.Reads as handed
use Rattle.handing.proofs.of_answer.Reads as of-answer
use Rattle.handing.proofs.of_said.Reads as of-said

pub message_one : (κs : _) (a : _) (r r' : _) (s s' : _) → message.Post κs a r s → message.Post κs a r' s'
    → (r ≡ r') × (s.0.now ≡ s'.0.now)
message_one κs a r r' s s' p q = (same p.0.0 q.0.0, same p.1 q.1)

pub handed_one : (κs g h b c e d l a : _) (r r' : _) (s s' : _) → handed.Post κs g h b c e d l a r s → handed.Post κs g h b c e d l a r' s'
    → (r ≡ r') × (s.0.now ≡ s'.0.now)
handed_one κs g h b c e d l a r r' s s' p q = (same p.0.0 q.0.0, same p.1 q.1)

pub of_answer_one : (κs : _) (a : _) (r r' : _) (s s' : _) → of-answer.Post κs a r s → of-answer.Post κs a r' s'
    → (r ≡ r') × (s.0.now ≡ s'.0.now)
of_answer_one κs a r r' s s' p q = (same p.0.0 q.0.0, same p.1 q.1)

pub of_said_one : (κs : _) (a : _) (r r' : _) (s s' : _) → of-said.Post κs a r s → of-said.Post κs a r' s'
    → (r ≡ r') × (s.0.now ≡ s'.0.now)
of_said_one κs a r r' s s' p q = (same p.0.0 q.0.0, same p.1 q.1)
