-- Two outcomes that a function's contract permits are equal: every byte of the store at exit.
-- `Reads.Post` is the contract as the source states it, read as plain facts.
-- Assumes nothing.
use mathlib.Core.Path.{◌≡◌}
use Rattle.lists.proofs.Cases.{same}
use Rattle.store.proofs.put_block.Reads as put-block
use Rattle.store.proofs.clear_part.Reads as clear-part

pub put_block_one : (κs : _) (a : _) (r r' : _) (s s' : _) → put-block.Post κs a r s → put-block.Post κs a r' s'
    → s.0.now ≡ s'.0.now
put_block_one κs a r r' s s' p q = same p q

pub clear_part_one : (κs : _) (a : _) (r r' : _) (s s' : _) → clear-part.Post κs a r s → clear-part.Post κs a r' s'
    → s.0.now ≡ s'.0.now
clear_part_one κs a r r' s s' p q = same p q
