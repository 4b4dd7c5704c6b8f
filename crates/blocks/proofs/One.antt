-- Two outcomes that a function's contract permits are equal: the result, and every byte of the block at exit.
-- `Reads.Post` is the contract as the source states it, read as plain facts.
-- Assumes nothing.
use mathlib.Core.Path.{◌≡◌}
use Rattle.lists.proofs.Cases.{same}
use Rattle.blocks.proofs.good.Reads as good
use Rattle.blocks.proofs.seal.Reads as seal
use Rattle.blocks.proofs.number.Reads as number
use Rattle.blocks.proofs.used.Reads as used
use Rattle.blocks.proofs.place.Reads as place

pub good_one : (κs : _) (a : _) (r r' : _) (s s' : _) → good.Post κs a r s → good.Post κs a r' s' → r ≡ r'
good_one κs a r r' s s' p q = same p q

pub seal_one : (κs : _) (a : _) (r r' : _) (s s' : _) → seal.Post κs a r s → seal.Post κs a r' s'
    → s.0.now ≡ s'.0.now
seal_one κs a r r' s s' p q = same p q

pub number_one : (κs : _) (a : _) (r r' : _) (s s' : _) → number.Post κs a r s → number.Post κs a r' s' → r ≡ r'
number_one κs a r r' s s' p q = same p q

pub used_one : (κs : _) (a : _) (r r' : _) (s s' : _) → used.Post κs a r s → used.Post κs a r' s' → r ≡ r'
used_one κs a r r' s s' p q = same p q

pub place_one : (κs : _) (a : _) (r r' : _) (s s' : _) → place.Post κs a r s → place.Post κs a r' s' → r ≡ r'
place_one κs a r r' s s' p q = same p q
