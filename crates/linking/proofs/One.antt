-- Two outcomes that a function's contract permits are equal: the result, and every byte of store and buffer at exit.
-- `Reads.Post` is the contract as the source states it, read as plain facts.
-- Assumes nothing.
use mathlib.Core.Path.{◌≡◌, refl}
use mathlib.Core.Bool.{Bool}
use mathlib.Core.List.{List}
use Prim.Native.Nat.{ℕ}
use lib.ListN.{length}
use Rattle.lists.proofs.Cases.{same}
use Rattle.linking.specs.declared.Stepped.{Stepped}
use Rattle.linking.specs.Linking.{Goes, Crosses}
use Rattle.linking.proofs.start.Reads as start
use Rattle.linking.proofs.step.Reads as step

pub start_one : (κs : _) (a : _) (r r' : _) (s s' : _) → start.Post κs a r s → start.Post κs a r' s'
    → (r ≡ r') × (s.0.now ≡ s'.0.now)
start_one κs a r r' s s' p q = (same p.0 q.0, same p.1 q.1)

-- the result is what came of the record, field by field
as_it_went : (g : Goes) (bad : Bool) {most : ℕ} {out : List ℕ} {r : Stepped} {x o : List ℕ} → r.bad ≡ bad → Crosses g most out r.crossed x o
    → r ≡ record { crossed = record { ends = g.both.ends; laid = length g.text }; bad = bad }
as_it_went g bad b p = rw (← b, ← p.ends, ← p.length_laid) refl

stepped_one : (g : Goes) (bad : Bool) {most : ℕ} {out : List ℕ} {r r' : Stepped} {x x' o o' : List ℕ} → r.bad ≡ bad → r'.bad ≡ bad
    → Crosses g most out r.crossed x o → Crosses g most out r'.crossed x' o' → (r ≡ r') × (x ≡ x') × (o ≡ o')
stepped_one g bad b c p q = (same (as_it_went g bad b p) (as_it_went g bad c q), same p.stored q.stored, same p.lines q.lines)

pub step_one : (κs : _) (a : _) (r r' : _) (s s' : _) → step.Post κs a r s → step.Post κs a r' s'
    → (r ≡ r') × (s.1.0.now ≡ s'.1.0.now) × (s.1.1.1.1.1.0.now ≡ s'.1.1.1.1.1.0.now)
step_one κs a r r' s s' p q = stepped_one _ _ p.0 q.0 p.1 q.1
