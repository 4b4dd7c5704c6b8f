-- Two outcomes that a function's contract permits are equal: the result, and every byte of the buffer at exit.
-- `Reads.Post` is the contract as the source states it, read as plain facts.
-- Assumes nothing.
use mathlib.Core.Path.{◌≡◌}
use Rattle.lists.proofs.Cases.{same}
use Rattle.numbers.proofs.width.Reads as width
use Rattle.numbers.proofs.code.Reads as code
use Rattle.numbers.proofs.narrow.Reads as narrow
use Rattle.numbers.proofs.four.Reads as four
use Rattle.numbers.proofs.joined.Reads as joined
use Rattle.numbers.proofs.split.Reads as split
use Rattle.numbers.proofs.number.Reads as number
use Rattle.numbers.proofs.short_at.Reads as short-at
use Rattle.numbers.proofs.measure.Reads as measure
use Rattle.numbers.proofs.put.Reads as put
use Rattle.numbers.proofs.signed.Reads as signed
use Rattle.numbers.proofs.unsigned.Reads as unsigned
use Rattle.numbers.proofs.status.Reads as status
use Rattle.numbers.proofs.status_bytes.Reads as status-bytes

pub width_one : (κs : _) (a : _) (r r' : _) (s s' : _) → width.Post κs a r s → width.Post κs a r' s'
    → r ≡ r'
width_one κs a r r' s s' p q = same p q

pub code_one : (κs : _) (a : _) (r r' : _) (s s' : _) → code.Post κs a r s → code.Post κs a r' s'
    → r ≡ r'
code_one κs a r r' s s' p q = same p q

pub narrow_one : (κs : _) (a : _) (r r' : _) (s s' : _) → narrow.Post κs a r s → narrow.Post κs a r' s'
    → r ≡ r'
narrow_one κs a r r' s s' p q = same p q

pub four_one : (κs : _) (a : _) (r r' : _) (s s' : _) → four.Post κs a r s → four.Post κs a r' s'
    → r ≡ r'
four_one κs a r r' s s' p q = same p q

pub joined_one : (κs : _) (a : _) (r r' : _) (s s' : _) → joined.Post κs a r s → joined.Post κs a r' s'
    → r ≡ r'
joined_one κs a r r' s s' p q = same p q

pub split_one : (κs : _) (a : _) (r r' : _) (s s' : _) → split.Post κs a r s → split.Post κs a r' s'
    → r ≡ r'
split_one κs a r r' s s' p q = same p q

pub number_one : (κs : _) (a : _) (r r' : _) (s s' : _) → number.Post κs a r s → number.Post κs a r' s'
    → r ≡ r'
number_one κs a r r' s s' p q = same p q

pub short_at_one : (κs : _) (a : _) (r r' : _) (s s' : _) → short-at.Post κs a r s → short-at.Post κs a r' s'
    → r ≡ r'
short_at_one κs a r r' s s' p q = same p q

pub measure_one : (κs : _) (a : _) (r r' : _) (s s' : _) → measure.Post κs a r s → measure.Post κs a r' s'
    → r ≡ r'
measure_one κs a r r' s s' p q = same p q

pub put_one : (κs : _) (a : _) (r r' : _) (s s' : _) → put.Post κs a r s → put.Post κs a r' s'
    → s.0.now ≡ s'.0.now
put_one κs a r r' s s' p q = same p q

pub signed_one : (κs : _) (a : _) (r r' : _) (s s' : _) → signed.Post κs a r s → signed.Post κs a r' s'
    → r ≡ r'
signed_one κs a r r' s s' p q = same p q

pub unsigned_one : (κs : _) (a : _) (r r' : _) (s s' : _) → unsigned.Post κs a r s → unsigned.Post κs a r' s'
    → r ≡ r'
unsigned_one κs a r r' s s' p q = same p q

pub status_one : (κs : _) (a : _) (r r' : _) (s s' : _) → status.Post κs a r s → status.Post κs a r' s'
    → r ≡ r'
status_one κs a r r' s s' p q = same p q

pub status_bytes_one : (κs : _) (a : _) (r r' : _) (s s' : _) → status-bytes.Post κs a r s
    → status-bytes.Post κs a r' s'
    → r ≡ r'
status_bytes_one κs a r r' s s' p q = same p q
