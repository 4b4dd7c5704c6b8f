-- Writing refuses with the first row that holds, and with none exactly if none does; a refusal leaves every byte of the buffer.
-- Assumes nothing.
use Rattle.std.specs.Prelude.{Result, Err, Ok}
use Prim.Native.Nat.{ℕ}
use mathlib.Core.Path.{◌≡◌, refl, ap}
use mathlib.Core.Bool.{Bool, true, false, cond}
use mathlib.Core.List.{List}
use lib.Dec.{ltb}
use lib.ListN.{length}
use Rattle.paper.specs.Sizes.{PDU_MAX}
use Rattle.paper.specs.Rows.{fine, refused_with, first_held, comes_to}
use Rattle.paper.specs.declared.Refusal.{Refusal}
use Rattle.paper.specs.declared.Refusal.TheVariants.{BadCall, BadField, OverLimit}
use Rattle.laying.specs.Laying.{buffer_after}
use Rattle.writing.specs.Writing.{judged, written, outcome, writing_rows}

pub writing_refusals :
    (bad : Bool) (pdu out : List ℕ) → outcome (written bad pdu out) ≡ comes_to (length pdu) (first_held (writing_rows bad pdu out))
unfolding outcome written judged comes_to writing_rows first_held
writing_refusals bad pdu out = go (ltb (length out) PDU_MAX) bad (ltb PDU_MAX (length pdu))
  where
    go :
        (a b c : Bool)
        → outcome (cond a (Err BadCall) (cond b (Err BadField) (cond c (Err OverLimit) (Ok (length pdu)))))
        ≡ comes_to (length pdu) (cond a (refused_with BadCall) (cond b (refused_with BadField) (cond c (refused_with OverLimit) fine)))
    go true b c = refl
    go false true c = refl
    go false false true = refl
    go false false false = refl

pub writing_leaves :
    (bad : Bool) (pdu out : List ℕ) (why : Refusal) → written bad pdu out ≡ Err why → buffer_after (outcome (written bad pdu out)) pdu out ≡ out
unfolding outcome buffer_after
writing_leaves bad pdu out why e = ap (λ (w : Result ℕ Refusal). buffer_after (outcome w) pdu out) e
