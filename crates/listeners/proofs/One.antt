-- One outcome for each input: any two results that a function's contract permits are equal.
-- Assumes nothing.
use mathlib.Core.Path.{◌≡◌, sym, ◌∙◌}
use Rattle.listeners.proofs.good.Reads as good-reads
use Rattle.listeners.proofs.listed.Reads as listed-reads

pub good_one : (κs : _) (a : _) (r r' : _) (s s' : _) → good-reads.Post κs a r s → good-reads.Post κs a r' s' → r ≡ r'
good_one κs a r r' s s' p q = p ∙ sym q

pub listed_one : (κs : _) (a : _) (r r' : _) (s s' : _) → listed-reads.Post κs a r s → listed-reads.Post κs a r' s'
    → r ≡ r'
listed_one κs a r r' s s' p q = p ∙ sym q
