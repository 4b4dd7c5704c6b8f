-- One outcome for each input: any two results that a function's contract permits are equal.
-- Assumes nothing.
use mathlib.Core.Path.{◌≡◌, sym, ◌∙◌}
use Rattle.packing.proofs.pack_answer.Reads as pack-answer-reads
use Rattle.packing.proofs.pack_said.Reads as pack-said-reads
use Rattle.packing.proofs.pack_count.Reads as pack-count-reads

pub pack_answer_one : (κs : _) (a : _) (r r' : _) (s s' : _) → pack-answer-reads.Post κs a r s → pack-answer-reads.Post κs a r' s' → r ≡ r'
pack_answer_one κs a r r' s s' p q = p ∙ sym q

pub pack_said_one : (κs : _) (a : _) (r r' : _) (s s' : _) → pack-said-reads.Post κs a r s → pack-said-reads.Post κs a r' s' → r ≡ r'
pack_said_one κs a r r' s s' p q = p ∙ sym q

pub pack_count_one : (κs : _) (a : _) (r r' : _) (s s' : _) → pack-count-reads.Post κs a r s → pack-count-reads.Post κs a r' s' → r ≡ r'
pack_count_one κs a r r' s s' p q = p ∙ sym q
