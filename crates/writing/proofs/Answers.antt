-- What every writer does with its judge's answer, once for all seven.
-- Assumes nothing.
use Rattle.std.specs.Prelude.{Result, Err, Ok}
use mathlib.Core.Path.{◌≡◌, ◌∙◌}
use mathlib.Core.Bool.{Bool}
use mathlib.Core.List.{List}
use Prim.Native.Nat.{ℕ}
use lib.ListN.{length}
use Rattle.paper.specs.declared.Refusal.{Refusal}
use Rattle.lists.specs.Bytes.{laid}
use Rattle.reading.specs.declared.Charges.{Charges}
use Rattle.laying.specs.Laying.{caps_request_bytes, buffer_after}
use Rattle.laying.proofs.Lengths.{length_caps_request}
use Rattle.writing.specs.Writing.{judged, written, outcome, request_length}

-- the answer to the buffer's length, the values and the PDU's length is the PDU's answer
pub answered : {bad b : Bool} (pdu out : List ℕ) {r : Result ℕ Refusal} {len : ℕ} → r ≡ judged (length out) b len → b ≡ bad
    → len ≡ length pdu → r ≡ written bad pdu out
unfolding written
answered pdu out e f g = e ∙ rw (f, g)

-- not refused: the PDU is laid
pub laid_so : (pdu out : List ℕ) {after : List ℕ} {r : Result ℕ Refusal} {n : ℕ} → r ≡ Ok n → after ≡ laid out 0 pdu
    → after ≡ buffer_after (outcome r) pdu out
unfolding outcome buffer_after
laid_so pdu out told h = rw told h

-- refused: nothing is touched
pub refused_so : (pdu out : List ℕ) {r : Result ℕ Refusal} {why : Refusal} → r ≡ Err why → out ≡ buffer_after (outcome r) pdu out
unfolding outcome buffer_after
refused_so pdu out told = rw told

pub length_request : (version : ℕ) (charges : Charges)
    → length (caps_request_bytes version charges) ≡ request_length version
unfolding request_length
length_request version charges = length_caps_request version charges
