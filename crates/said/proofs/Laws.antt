-- Why the program's rows and words are those of the definitions.
-- Assumes nothing.
use Rattle.std.specs.Prelude.{Result}
use Rattle.paper.specs.declared.Refusal.{Refusal}
use mathlib.Core.Path.{◌≡◌, refl, ap, ◌∙◌}
use mathlib.Core.Bool.{Bool}
use mathlib.Core.List.{List, [], ◌∷◌, ◌++◌, append_assoc, append-nil}
use Prim.Native.Nat.{ℕ, zero, suc, ◌+◌, ◌-◌, ◌≤◌, ◌<◌, min}
use native.Mathlib.Omega.{arith}
use lib.ListN.{length, take, drop, get_or, length-take, length-drop}
use Rattle.lists.proofs.Laid.{from_to, take_least}
use Rattle.lists.proofs.Lent.{drop_least}
use Rattle.numbers.specs.Status.{unsigned_of}
use Rattle.lines.specs.Decimal.{field}
use Rattle.lines.specs.Lines.{SPACE}
use Rattle.reading.specs.Said.{said, bytes_at}
use Rattle.reading.specs.declared.Extent.{Extent}
use Rattle.reading.specs.declared.Pdu.{Pdu}
use Rattle.reading.specs.declared.Pdu.TheVariants.{CreateRequest, CreateResponse, DataFirst, Data, Close}
use Rattle.reading.specs.declared.Pdu.TheVariants.{CapsRequest, CapsResponse, Refused}
use Rattle.laying.specs.Laying.{buffer_after}
use Rattle.writing.specs.Writing.{written, outcome}
use Rattle.said.specs.Saying.{numbers_in, bytes_in, spelled_out, numbers_of, place_of, writes, again_of, answer_to, left_by}

-- the numbers and the bytes of a PDU are those that are said
pub row_says : (pdu : List ℕ) (read : Pdu)
    → (numbers_of read ≡ numbers_in (said pdu read)) × (bytes_at pdu (place_of read) ≡ bytes_in (said pdu read))
unfolding numbers_in bytes_in said bytes_at unsigned_of
row_says pdu (CreateRequest number class name) = (refl, refl)
row_says pdu (CreateResponse number status) = (refl, refl)
row_says pdu (DataFirst number len block) = (refl, refl)
row_says pdu (Data number block) = (refl, refl)
row_says pdu (Close number) = (refl, refl)
row_says pdu (CapsRequest version charges) = (refl, refl)
row_says pdu (CapsResponse version) = (refl, refl)
row_says pdu (Refused why) = (refl, refl)

-- one number more
pub spelled_on : (ns : List ℕ) (i : ℕ) → i < length ns
    → spelled_out (take (suc i) ns) ≡ spelled_out (take i ns) ++ field (get_or ns i 0) SPACE
unfolding spelled_out
spelled_on [] i h = absurd (omega arith)
spelled_on (n ∷ ns) zero h = append-nil (field n SPACE)
spelled_on (n ∷ ns) (suc i) h = rw (spelled_on ns i (omega arith), append_assoc)

-- what the writer of the kind answered and left
pub so_written : (pdu out after : List ℕ) (read : Pdu) (r : Result ℕ Refusal) (bad : Bool) (bytes : List ℕ)
    → r ≡ written bad bytes out → after ≡ buffer_after (outcome r) bytes out → again_of pdu read ≡ writes bad bytes
    → (r ≡ answer_to (again_of pdu read) out) × (after ≡ left_by (again_of pdu read) out)
unfolding answer_to left_by
so_written pdu out after read r bad bytes p q e = rw e (p, rw p at q)

-- bytes lent from a place on, as far as there are any, are what `take` and `drop` give
pub part_at : (l : List ℕ) (a n : ℕ) {at len : ℕ} → at ≡ min a (length l) → len ≡ min n (length l - at)
    → take (at + len - at) (drop at l) ≡ take n (drop a l)
part_at l a n {at} {len} e f =
    let d = ap (λ (k : ℕ). drop k l) e ∙ drop_least a l in
    let m : min n (length l - at) ≡ min n (length (drop a l)) = rw (← d, length-drop) in
    from_to l at len ∙ (rw (f, m, d) (take_least n (drop a l)))

-- the bytes at a place are at most those of the PDU
pub bytes_least : (pdu : List ℕ) (p : Extent) → length (bytes_at pdu p) ≤ length pdu
unfolding bytes_at
bytes_least pdu p = simp (length-take, length-drop) (omega arith)
