-- Two outcomes that a function's contract permits are equal: the result, or every byte of the store at exit.
-- `Reads.Post` is the contract as the source states it, read as plain facts.
-- Assumes nothing.
use mathlib.Core.Path.{◌≡◌}
use Rattle.lists.proofs.Cases.{same}
use Rattle.connection.proofs.keep.Reads as keep
use Rattle.connection.proofs.place_after.Reads as place_after

pub keep_one : (κs : _) (a : _) (r r' : _) (s s' : _) → keep.Post κs a r s → keep.Post κs a r' s'
    → s.0.now ≡ s'.0.now
keep_one κs a r r' s s' p q = same p q

pub place_after_one : (κs : _) (a : _) (r r' : _) (s s' : _) → place_after.Post κs a r s → place_after.Post κs a r' s'
    → r ≡ r'
place_after_one κs a r r' s s' p q = same p q
