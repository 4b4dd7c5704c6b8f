-- What reading answers, in the paper's terms: the row of "Bytes of a PDU" with its values, or the refusal number.
use Rattle.std.specs.Prelude.{ℕ, List, [], ◌∷◌, ℤ, pos, take, drop}
use Rattle.paper.specs.Commands.{CREATE, DATA_FIRST, DATA, CLOSE, CAPABILITIES}
use Rattle.paper.specs.Refusals.{refusal_number}
use Rattle.paper.specs.Rows.{Verdict, fine, refused_with}
use Rattle.reading.specs.declared.Extent.{Extent}
use Rattle.reading.specs.declared.Pdu.{Pdu}
use Rattle.reading.specs.declared.Pdu.TheVariants.{CreateRequest, CreateResponse, DataFirst, Data, Close}
use Rattle.reading.specs.declared.Pdu.TheVariants.{CapsRequest, CapsResponse, Refused}

-- the bytes at a place of the PDU
unfoldable pub bytes_at : List ℕ → Extent → List ℕ
bytes_at pdu where-it-is = take where-it-is.len (drop where-it-is.at pdu)

-- a row with its Cmd, its numbers in the row's order and its name or data; or a refusal
pub data Said : Type 0 where
  row : ℕ → List ℤ → List ℕ → Said
  refusal : ℕ → Said

-- what the answer says of the PDU
unfoldable pub said : List ℕ → Pdu → Said
said pdu (CreateRequest number class name) = row CREATE (pos number ∷ pos class ∷ []) (bytes_at pdu name)
said pdu (CreateResponse number status) = row CREATE (pos number ∷ status ∷ []) []
said pdu (DataFirst number len block) = row DATA_FIRST (pos number ∷ pos len ∷ []) (bytes_at pdu block)
said pdu (Data number block) = row DATA (pos number ∷ []) (bytes_at pdu block)
said pdu (Close number) = row CLOSE (pos number ∷ []) []
said pdu (CapsRequest version charges) =
    row CAPABILITIES
    (pos version ∷ pos charges.class0 ∷ pos charges.class1 ∷ pos charges.class2 ∷ pos charges.class3 ∷ []) []
said pdu (CapsResponse version) = row CAPABILITIES (pos version ∷ []) []
said pdu (Refused why) = refusal (refusal_number why)

-- whether the answer is a refusal, and which
abbrev pub verdict_on : Pdu → Verdict
verdict_on (CreateRequest number class name) = fine
verdict_on (CreateResponse number status) = fine
verdict_on (DataFirst number len block) = fine
verdict_on (Data number block) = fine
verdict_on (Close number) = fine
verdict_on (CapsRequest version charges) = fine
verdict_on (CapsResponse version) = fine
verdict_on (Refused why) = refused_with why
