-- Two outcomes that a function's contract permits are equal: the result, and every byte of the buffer at exit.
-- `Reads.Post` is the contract as the source states it, read as plain facts.
-- Assumes nothing.
use mathlib.Core.Path.{◌≡◌}
use Rattle.lists.proofs.Cases.{same}
use Rattle.rules.proofs.is_spoiled.Reads as is-spoiled
use Rattle.rules.proofs.first.Reads as first
use Rattle.rules.proofs.text.Reads as text
use Rattle.rules.proofs.name.Reads as name

pub is_spoiled_one : (κs : _) (a : _) (r r' : _) (s s' : _) → is-spoiled.Post κs a r s → is-spoiled.Post κs a r' s' → r ≡ r'
is_spoiled_one κs a r r' s s' p q = same p q

pub first_one : (κs : _) (a : _) (r r' : _) (s s' : _) → first.Post κs a r s → first.Post κs a r' s' → r ≡ r'
first_one κs a r r' s s' p q = same p q

pub text_one : (κs : _) (a : _) (r r' : _) (s s' : _) → text.Post κs a r s → text.Post κs a r' s' → r.now ≡ r'.now
text_one κs a r r' s s' p q = same p.0 q.0

pub name_one : (κs : _) (a : _) (r r' : _) (s s' : _) → name.Post κs a r s → name.Post κs a r' s'
    → (r ≡ r') × (s.0.now ≡ s'.0.now)
name_one κs a r r' s s' p q = (same p.0.0 q.0.0, same p.1 q.1)
