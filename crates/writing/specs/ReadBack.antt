-- "What we write we read back as the same values."
use Rattle.std.specs.Prelude.{◌≡◌, ℕ, Bool, List, take, Ok}
use Rattle.reading.specs.Grammar.{Value, Read, values, read_as}
use Rattle.reading.specs.Tight.{strict_as}
use Rattle.laying.specs.Laying.{buffer_after}
use Rattle.writing.specs.Writing.{written, outcome}

-- a PDU is written to any buffer, with its values good or bad: where that isn't refused, the bytes written are
-- read as these values
abbrev pub BackBy : (List ℕ → Read) → Bool → List ℕ → Value → Type 0
BackBy read bad pdu v =
    (out : List ℕ) (n : ℕ) → written bad pdu out ≡ Ok n
    → read (take n (buffer_after (outcome (written bad pdu out)) pdu out)) ≡ values v

-- by plain reading, in their direction
abbrev pub ReadsBack : Bool → Bool → List ℕ → Value → Type 0
ReadsBack fromServer bad pdu v = BackBy (read_as fromServer) bad pdu v

-- and by strict reading
abbrev pub StrictBack : Bool → Bool → List ℕ → Value → Type 0
StrictBack fromServer bad pdu v = BackBy (strict_as fromServer) bad pdu v
