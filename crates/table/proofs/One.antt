-- One outcome for each input: any two results that a function's contract permits are equal.
-- Assumes nothing.
use mathlib.Core.Path.{◌≡◌, sym, ◌∙◌}
use Rattle.table.proofs.blank.Reads as blank-reads
use Rattle.table.proofs.empty.Reads as empty-reads
use Rattle.table.proofs.find_number.Reads as find-number-reads
use Rattle.table.proofs.find_free.Reads as find-free-reads
use Rattle.table.proofs.find_open.Reads as find-open-reads
use Rattle.table.proofs.find.Reads as find-reads
use Rattle.table.proofs.totals_after.Reads as totals-after-reads
use Rattle.table.proofs.put.Reads as put_reads
use Rattle.table.proofs.sound.Reads as sound-reads

pub blank_one : (κs : _) (a : _) (r r' : _) (s s' : _) → blank-reads.Post κs a r s → blank-reads.Post κs a r' s' → r ≡ r'
blank_one κs a r r' s s' p q = p ∙ sym q

pub empty_one : (κs : _) (a : _) (r r' : _) (s s' : _) → empty-reads.Post κs a r s → empty-reads.Post κs a r' s' → r ≡ r'
empty_one κs a r r' s s' p q = p ∙ sym q

pub find_number_one : (κs : _) (a : _) (r r' : _) (s s' : _) → find-number-reads.Post κs a r s → find-number-reads.Post κs a r' s' → r ≡ r'
find_number_one κs a r r' s s' p q = p ∙ sym q

pub find_free_one : (κs : _) (a : _) (r r' : _) (s s' : _) → find-free-reads.Post κs a r s → find-free-reads.Post κs a r' s' → r ≡ r'
find_free_one κs a r r' s s' p q = p ∙ sym q

pub find_open_one : (κs : _) (a : _) (r r' : _) (s s' : _) → find-open-reads.Post κs a r s → find-open-reads.Post κs a r' s' → r ≡ r'
find_open_one κs a r r' s s' p q = p ∙ sym q

pub find_one : (κs : _) (a : _) (r r' : _) (s s' : _) → find-reads.Post κs a r s → find-reads.Post κs a r' s' → r ≡ r'
find_one κs a r r' s s' p q = p ∙ sym q

pub totals_after_one :
    (κs : _) (a : _) (r r' : _) (s s' : _) → totals-after-reads.Post κs a r s → totals-after-reads.Post κs a r' s' → r ≡ r'
totals_after_one κs a r r' s s' p q = p ∙ sym q

pub put_one : (κs : _) (a : _) (r r' : _) (s s' : _) → put_reads.Post κs a r s → put_reads.Post κs a r' s' → r ≡ r'
put_one κs a r r' s s' p q = p ∙ sym q

pub sound_one : (κs : _) (a : _) (r r' : _) (s s' : _) → sound-reads.Post κs a r s → sound-reads.Post κs a r' s' → r ≡ r'
sound_one κs a r r' s s' p q = p ∙ sym q
