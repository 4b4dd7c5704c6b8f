-- Two outcomes that a function's contract permits are equal: the result, and every byte of store and buffers at exit.
-- `Reads.Post` is the contract as the source states it, read as plain facts.
-- Assumes nothing.
use Rattle.std.proofs.Common.{◌≡◌, ℕ, List, length, refl}
use Rattle.lists.proofs.Cases.{same}
use Rattle.records.specs.Walks.{Turned}
use Rattle.walking.specs.declared.Turned.{Turned as Turn}
use Rattle.walking.specs.Walking.{Walk, stand_of, Turns}
use Rattle.walking.proofs.store_for.Reads as store-for
use Rattle.walking.proofs.begin.Reads as begin
use Rattle.walking.proofs.turn.Reads as turn

pub store_for_one : (κs : _) (a : _) (r r' : _) (s s' : _) → store-for.Post κs a r s → store-for.Post κs a r' s'
    → r ≡ r'
store_for_one κs a r r' s s' p q = same p q

pub begin_one : (κs : _) (a : _) (r r' : _) (s s' : _) → begin.Post κs a r s → begin.Post κs a r' s'
    → (r ≡ r') × (s.1.0.now ≡ s'.1.0.now) × (s.1.1.0.now ≡ s'.1.1.0.now)
begin_one κs a r r' s s' p q = (same p.0.0 q.0.0, same p.1.0 q.1.0, same p.1.1 q.1.1)

-- the result is what the turn gives, field by field
as_it_went : (t : Turned Walk) {input out : List ℕ} {r : Turn} {store' input' out' : List ℕ} → Turns t input out r store' input' out'
    → r ≡ record { stand = stand_of t input; laid = length t.went.text }
as_it_went t p = rw (← p.stand, ← p.length_laid) refl

turned_one : (t : Turned Walk) {input out : List ℕ} {r r' : Turn} {x x' i i' o o' : List ℕ} → Turns t input out r x i o → Turns t input out r' x' i' o'
    → (r ≡ r') × (x ≡ x') × (i ≡ i') × (o ≡ o')
turned_one t p q = (same (as_it_went t p) (as_it_went t q), same p.stored q.stored, same p.moved q.moved, same p.lines q.lines)

pub turn_one : (κs : _) (a : _) (r r' : _) (s s' : _) → turn.Post κs a r s → turn.Post κs a r' s'
    → (r ≡ r') × (s.1.1.0.now ≡ s'.1.1.0.now) × (s.1.1.1.1.0.now ≡ s'.1.1.1.1.0.now) × (s.1.1.1.1.1.0.now ≡ s'.1.1.1.1.1.0.now)
turn_one κs a r r' s s' p q = turned_one _ p.0 q.0
