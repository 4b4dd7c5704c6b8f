-- The language of PDUs, as a grammar that knows nothing of reading: for each kind its values and the bytes that say
-- them. "A width code 0, 1, 2 means 1, 2, 4 bytes": any code that holds the number. "Middle bits called Sp are
-- ignored on reading": any Sp.
use Rattle.std.specs.Prelude.{ℕ, ◌+◌, ◌*◌, ◌^◌, ◌≤◌, ◌<◌, ◌≡◌, Bool, true, false, List, [], ◌∷◌, ◌++◌, ℤ, length}
use Rattle.std.specs.Int.{w32}
use Rattle.std.proofs.Common.{SFits}
use Rattle.paper.specs.Sizes.{PDU_MAX}
use Rattle.paper.specs.Commands.{CREATE, DATA_FIRST, DATA, CLOSE, CAPABILITIES}
use Rattle.paper.specs.declared.Refusal.{Refusal}
use Rattle.numbers.specs.Numbers.{bytes_of, width_of}
use Rattle.numbers.specs.Status.{status_bytes}
use Rattle.reading.specs.Reading.{read_pdu}
use Rattle.reading.specs.Said.{bytes_at}
use Rattle.reading.specs.declared.Charges.{Charges}
use Rattle.reading.specs.declared.Pdu.{Pdu}
use Rattle.reading.specs.declared.Pdu.TheVariants.{CreateRequest, CreateResponse, DataFirst, Data, Close}
use Rattle.reading.specs.declared.Pdu.TheVariants.{CapsRequest, CapsResponse, Refused}

-- "one of the kinds below with its own values"
pub data Value : Type 0 where
  -- number, Pri, name
  create_request_law : ℕ → ℕ → List ℕ → Value
  -- number, CreationStatus
  create_response_law : ℕ → ℤ → Value
  -- number, Length, data
  data_first_law : ℕ → ℕ → List ℕ → Value
  -- number, data
  data_block : ℕ → List ℕ → Value
  -- number
  close : ℕ → Value
  -- Version, charges
  capabilities_request : ℕ → Charges → Value
  -- Version
  capabilities_response : ℕ → Value

-- "or a refusal"
pub data Read : Type 0 where
  values : Value → Read
  refusal : Refusal → Read

-- what reading answers, as values: places are replaced by the bytes that stand there
abbrev pub meant : List ℕ → Pdu → Read
meant pdu (CreateRequest number class name) = values (create_request_law number class (bytes_at pdu name))
meant pdu (CreateResponse number status) = values (create_response_law number status)
meant pdu (DataFirst number len block) = values (data_first_law number len (bytes_at pdu block))
meant pdu (Data number block) = values (data_block number (bytes_at pdu block))
meant pdu (Close number) = values (close number)
meant pdu (CapsRequest version charges) = values (capabilities_request version charges)
meant pdu (CapsResponse version) = values (capabilities_response version)
meant pdu (Refused why) = refusal why

unfoldable pub read_as : Bool → List ℕ → Read
read_as fromServer bytes = meant bytes (read_pdu fromServer bytes)

-- ---- the grammar

-- a number in the width of a code that holds it
pub record InWidth (code number : ℕ) : Type 0 where
  pub good : code ≤ 2
  pub holds : number < 256 ^ width_of code

-- "The first byte holds Cmd in its high four bits, then two bits, then cbId in the low two."
abbrev pub first_byte : ℕ → ℕ → ℕ → ℕ
first_byte cmd middle cbId = 16 * cmd + 4 * middle + cbId

-- a PDU that carries a number: the first byte, the number in the width of the code, and the rest
abbrev pub carrying : ℕ → ℕ → ℕ → ℕ → List ℕ → List ℕ
carrying code cmd middle number rest = first_byte cmd middle code ∷ (bytes_of (width_of code) number ++ rest)

-- a name has no zero byte
abbrev pub NoZero : List ℕ → Type 0
NoZero [] = Unit {0}
NoZero (b ∷ bs) = (b ≡ 0 → ⊥) × NoZero bs

pub record SmallCharges (c : Charges) : Type 0 where
  pub small0 : c.class0 < 65536
  pub small1 : c.class1 < 65536
  pub small2 : c.class2 < 65536
  pub small3 : c.class3 < 65536

abbrev pub no_charges : Charges
no_charges = record { class0 = 0; class1 = 0; class2 = 0; class3 = 0 }

abbrev pub charge_bytes : Charges → List ℕ
charge_bytes c = bytes_of 2 c.class0 ++ (bytes_of 2 c.class1 ++ (bytes_of 2 c.class2 ++ bytes_of 2 c.class3))

-- "Pad 0; Version 2 bytes"
abbrev pub versioned : ℕ → ℕ → List ℕ → List ℕ
versioned sp version rest = first_byte CAPABILITIES sp 0 ∷ 0 ∷ (bytes_of 2 version ++ rest)

pub data Encodes : Bool → Value → List ℕ → Type 0 where
  create_request_is :
      {bytes : List ℕ} (code number pri : ℕ) (name : List ℕ) → InWidth code number → pri ≤ 3 → NoZero name
      → bytes ≡ carrying code CREATE pri number (name ++ (0 ∷ []))
      → Encodes true (create_request_law number pri name) bytes
  create_response_is :
      {bytes : List ℕ} (code sp number : ℕ) (status : ℤ) → InWidth code number → sp ≤ 3 → SFits w32 status
      → bytes ≡ carrying code CREATE sp number (status_bytes status)
      → Encodes false (create_response_law number status) bytes
  data_first_is :
      {bytes : List ℕ} (fromServer : Bool) (code lengthCode number len : ℕ) (block : List ℕ)
      → InWidth code number → InWidth lengthCode len
      → bytes ≡ carrying code DATA_FIRST lengthCode number (bytes_of (width_of lengthCode) len ++ block)
      → Encodes fromServer (data_first_law number len block) bytes
  data_is :
      {bytes : List ℕ} (fromServer : Bool) (code sp number : ℕ) (block : List ℕ) → InWidth code number → sp ≤ 3
      → bytes ≡ carrying code DATA sp number block → Encodes fromServer (data_block number block) bytes
  close_is :
      {bytes : List ℕ} (fromServer : Bool) (code sp number : ℕ) → InWidth code number → sp ≤ 3
      → bytes ≡ carrying code CLOSE sp number [] → Encodes fromServer (close number) bytes
  -- version 1 has no charges, and is read with charges of 0
  capabilities_1_is :
      {bytes : List ℕ} (sp : ℕ) → sp ≤ 3 → bytes ≡ versioned sp 1 []
      → Encodes true (capabilities_request 1 no_charges) bytes
  capabilities_is :
      {bytes : List ℕ} (sp version : ℕ) (charges : Charges) → sp ≤ 3 → 2 ≤ version → version ≤ 3
      → SmallCharges charges → bytes ≡ versioned sp version (charge_bytes charges)
      → Encodes true (capabilities_request version charges) bytes
  capabilities_response_is :
      {bytes : List ℕ} (sp version : ℕ) → sp ≤ 3 → 1 ≤ version → version ≤ 3 → bytes ≡ versioned sp version []
      → Encodes false (capabilities_response version) bytes

-- reading answers these values exactly if the bytes are an encoding of them of at most 1,600 bytes
pub record Exactly (fromServer : Bool) (v : Value) (bytes : List ℕ) : Type 0 where
  pub only_encodings : read_as fromServer bytes ≡ values v → Encodes fromServer v bytes × (length bytes ≤ PDU_MAX)
  pub every_encoding : Encodes fromServer v bytes → length bytes ≤ PDU_MAX → read_as fromServer bytes ≡ values v
