-- Strict reading and the grammar: of the encodings of its values strict reading accepts those in the narrowest widths with
-- Sp 0, and refuses every other with 18.
use Rattle.std.specs.Prelude.{ℕ, ◌≤◌, ◌<◌, ◌≡◌, Bool, List, ◌⊎◌, ◌≢◌, length}
use Rattle.paper.specs.Sizes.{PDU_MAX}
use Rattle.paper.specs.declared.Refusal.TheVariants.{Loose}
use Rattle.numbers.specs.Numbers.{narrowest, width_of}
use Rattle.reading.specs.Strict.{read_strict}
use Rattle.reading.specs.Grammar.{Value, Read, values, meant, Encodes, create_request_is, create_response_is}
use Rattle.reading.specs.Grammar.{data_first_is, data_is, close_is, capabilities_1_is, capabilities_is}
use Rattle.reading.specs.Grammar.{capabilities_response_is}
use Rattle.reading.specs.declared.Pdu.TheVariants.{Refused}

-- what strict reading answers, as values
unfoldable pub strict_as : Bool → List ℕ → Read
strict_as fromServer bytes = meant bytes (read_strict fromServer bytes)

-- ---- what sets an encoding apart from the narrowest

-- a number in a wider width than the narrowest that holds it
abbrev pub Wide : ℕ → ℕ → Type 0
Wide code number = narrowest number < width_of code

-- some number or Length is wide, or Sp is not 0
abbrev pub LooseIn : {fromServer : Bool} {v : Value} {bytes : List ℕ} → Encodes fromServer v bytes → Type 0
LooseIn (create_request_is code number pri name k p z e) = Wide code number
LooseIn (create_response_is code sp number status k p z e) = Wide code number ⊎ (sp ≢ 0)
LooseIn (data_first_is dir code lengthCode number len block k q e) = Wide code number ⊎ Wide lengthCode len
LooseIn (data_is dir code sp number block k p e) = Wide code number ⊎ (sp ≢ 0)
LooseIn (close_is dir code sp number k p e) = Wide code number ⊎ (sp ≢ 0)
LooseIn (capabilities_1_is sp p e) = sp ≢ 0
LooseIn (capabilities_is sp version charges p h k z e) = sp ≢ 0
LooseIn (capabilities_response_is sp version p h k e) = sp ≢ 0

-- ---- exactly

-- the bytes are an encoding of the values in the narrowest widths with Sp 0, of at most 1,600 bytes
pub record Tightly (fromServer : Bool) (v : Value) (bytes : List ℕ) : Type 0 where
  pub encodes : Encodes fromServer v bytes
  pub nothing_loose : LooseIn encodes → ⊥
  pub short : length bytes ≤ PDU_MAX

-- strict reading answers these values exactly then
pub record TightExactly (fromServer : Bool) (v : Value) (bytes : List ℕ) : Type 0 where
  pub only_tight : strict_as fromServer bytes ≡ values v → Tightly fromServer v bytes
  pub every_tight : Tightly fromServer v bytes → strict_as fromServer bytes ≡ values v

-- the bytes are any other encoding of some values, of at most 1,600 bytes
pub record Loosely (fromServer : Bool) (bytes : List ℕ) : Type 0 where
  pub value : Value
  pub encodes : Encodes fromServer value bytes
  pub is_loose : LooseIn encodes
  pub short : length bytes ≤ PDU_MAX

-- 18 is answered exactly then
pub record LooseExactly (fromServer : Bool) (bytes : List ℕ) : Type 0 where
  pub only_loose : read_strict fromServer bytes ≡ Refused Loose → Loosely fromServer bytes
  pub every_loose : Loosely fromServer bytes → read_strict fromServer bytes ≡ Refused Loose
