-- What writing answers and leaves in the buffer. "Writing: 1, 5, 11."
use Rattle.std.specs.Prelude.{ℕ, Bool, cond, not, ◌&&◌, ◌||◌, List, [], ◌∷◌, ltb, eqb, length, Result, Err, Ok}
use Rattle.paper.specs.declared.Refusal.{Refusal}
use Rattle.paper.specs.Sizes.{PDU_MAX}
use Rattle.paper.specs.Refusals.{refusal_number}
use Rattle.paper.specs.Rows.{refuse, Row, row, Outcome, done, refusal}
use Rattle.paper.specs.declared.Refusal.TheVariants.{BadCall, BadField, OverLimit}
use Rattle.lists.specs.Places.{place}
use Rattle.lists.specs.Bytes.{is_zero}
use Rattle.reading.specs.Reading.{bad_version}
use Rattle.reading.specs.declared.Charges.{Charges}

-- 1: the buffer is not of its size; 5: a value is bad; 11: "a PDU that would pass 1,600"
unfoldable pub judged : ℕ → Bool → ℕ → Result ℕ Refusal
judged room bad len =
    refuse (Err BadCall) (ltb room PDU_MAX)
    (refuse (Err BadField) bad
    (refuse (Err OverLimit) (ltb PDU_MAX len)
    (Ok len)))

-- what writing a PDU answers
unfoldable pub written : Bool → List ℕ → List ℕ → Result ℕ Refusal
written bad pdu out = judged (length out) bad (length pdu)

-- the answer in the paper's terms: the PDU's length, or the refusal's number
unfoldable pub outcome : Result ℕ Refusal → Outcome ℕ
outcome (Ok n) = done n
outcome (Err why) = refusal (refusal_number why)

-- 5 "on writing: a name with a zero byte [..], a class over 3"
unfoldable pub bad_request : ℕ → List ℕ → Bool
bad_request class name = ltb 3 class || ltb (place is_zero name) (length name)

unfoldable pub all_zero : Charges → Bool
all_zero charges =
    eqb charges.class0 0 && (eqb charges.class1 0 && (eqb charges.class2 0 && eqb charges.class3 0))

-- "such a Version", "or charges other than 0 with version 1 (read as 0)"
unfoldable pub bad_capabilities : ℕ → Charges → Bool
bad_capabilities version charges = cond (eqb version 1) (not (all_zero charges)) (bad_version version)

-- how long a Capabilities request is
unfoldable pub request_length : ℕ → ℕ
request_length version = cond (eqb version 1) 4 12

-- ---- the refusals as rows

-- "Writing: 1, 5, 11."
unfoldable pub writing_rows : Bool → List ℕ → List ℕ → List Row
writing_rows bad pdu out =
    row BadCall (ltb (length out) PDU_MAX)
    ∷ row BadField bad
    ∷ row OverLimit (ltb PDU_MAX (length pdu))
    ∷ []
