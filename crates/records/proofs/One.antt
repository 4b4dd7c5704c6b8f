-- Two outcomes that a function's contract permits are equal.
-- `Reads.Post` is the contract as the source states it, read as plain facts.
-- Assumes nothing.
use mathlib.Core.Path.{◌≡◌, ap}
use Rattle.lists.proofs.Cases.{same}
use Rattle.records.proofs.whole.Reads as whole
use Rattle.records.proofs.desk_whole.Reads as desk-whole
use Rattle.records.proofs.link_whole.Reads as link-whole
use Rattle.records.proofs.turn.Reads as turn
use Rattle.records.proofs.due_for.Reads as due-for

pub whole_one : (κs : _) (a : _) (r r' : _) (s s' : _) → whole.Post κs a r s → whole.Post κs a r' s'
    → r ≡ r'
whole_one κs a r r' s s' p q = same p.0 q.0

pub due_for_one : (κs : _) (a : _) (r r' : _) (s s' : _) → due-for.Post κs a r s → due-for.Post κs a r' s'
    → r ≡ r'
due_for_one κs a r r' s s' p q = same p q

pub desk_whole_one : (κs : _) (a : _) (r r' : _) (s s' : _) → desk-whole.Post κs a r s → desk-whole.Post κs a r' s'
    → r ≡ r'
desk_whole_one κs a r r' s s' p q = same p.0 q.0

pub link_whole_one : (κs : _) (a : _) (r r' : _) (s s' : _) → link-whole.Post κs a r s → link-whole.Post κs a r' s'
    → r ≡ r'
link_whole_one κs a r r' s s' p q = same p.0 q.0

pub turn_one : (κs x y z g d e a : _) (r r' : _) (s s' : _) → turn.Post κs x y z g d e a r s → turn.Post κs x y z g d e a r' s'
    → ((r.course ≡ r'.course) × (s.1.0.now ≡ s'.1.0.now)) × ((r.had ≡ r'.had) × (s.1.1.0.now ≡ s'.1.1.0.now))
turn_one κs x y z g d e a r r' s s' p q =
    let both = same p.0 q.0 in
    ((ap (λ at. at.0) both, ap (λ at. at.1) both), (same p.1.0.0 q.1.0.0, same p.1.1 q.1.1))
