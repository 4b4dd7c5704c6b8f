-- The channel number that a block of data carries whole, whatever else is wrong with the PDU. A PDU that reading refuses is
-- garbled if it carries one.
use Rattle.std.specs.Prelude.{ℕ, ◌+◌, ◌/◌, ◌%◌, ◌≤◌, ◌≡◌, Bool, true, cond, ◌||◌, List, ltb, eqb, length, get_or, Option, None, Some}
use Rattle.paper.specs.Commands.{DATA_FIRST, DATA, DATA_FIRST_COMPRESSED, DATA_COMPRESSED}
use Rattle.numbers.specs.Numbers.{value_at, width_of}
use Rattle.reading.specs.Grammar.{InWidth, carrying}

-- "a PDU of command 2, 3, 6 or 7"
unfoldable pub brings_block : ℕ → Bool
brings_block cmd = eqb cmd DATA_FIRST || (eqb cmd DATA || (eqb cmd DATA_FIRST_COMPRESSED || eqb cmd DATA_COMPRESSED))

-- "its channel number stands in it whole": the width code, cbId, is 0, 1 or 2, and the bytes of that width are there
unfoldable pub whole_in : List ℕ → ℕ → Option ℕ
whole_in pdu code =
    cond (eqb code 3) None
    (cond (ltb (length pdu) (1 + width_of code)) None
    (Some (value_at pdu 1 (width_of code))))

unfoldable pub carries_by : List ℕ → ℕ → ℕ → Option ℕ
carries_by pdu cmd cbId = cond (brings_block cmd) (whole_in pdu cbId) None

-- an empty PDU has no command
unfoldable pub carries : List ℕ → Option ℕ
carries pdu = carries_by pdu (get_or pdu 0 0 / 16) (get_or pdu 0 0 % 4)

-- ---- the same in the grammar's terms: a number in any width that holds it, and anything behind it

pub record Carrying (n : ℕ) (pdu : List ℕ) : Type 0 where
  pub cmd : ℕ
  pub middle : ℕ
  pub code : ℕ
  pub rest : List ℕ
  pub block : brings_block cmd ≡ true
  pub two_bits : middle ≤ 3
  pub in_width : InWidth code n
  pub bytes : pdu ≡ carrying code cmd middle n rest

pub record CarriesExactly (n : ℕ) (pdu : List ℕ) : Type 0 where
  pub only_such : carries pdu ≡ Some n → Carrying n pdu
  pub every_such : Carrying n pdu → carries pdu ≡ Some n
