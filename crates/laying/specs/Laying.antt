-- The bytes of a PDU that we write: "Bytes of a PDU", row by row.
--   "Middle bits called Sp are [..] written as 0." "We write numbers and Length in the narrowest width."
use Rattle.std.specs.Prelude.{ℕ, ◌+◌, ◌*◌, ◌%◌, cond, List, [], ◌∷◌, ◌++◌, eqb, ℤ}
use Rattle.paper.specs.Rows.{Outcome, done, refusal}
use Rattle.paper.specs.Commands.{CREATE, DATA_FIRST, DATA, CLOSE, CAPABILITIES}
use Rattle.lists.specs.Bytes.{laid}
use Rattle.numbers.specs.Numbers.{bytes_of, code_for, narrow_bytes}
use Rattle.numbers.specs.Status.{status_bytes}
use Rattle.reading.specs.declared.Charges.{Charges}

-- "The first byte holds Cmd in its high four bits, then two bits (Sp, Pri or
-- Len), then cbId in the low two": then the number
unfoldable pub head_of : ℕ → ℕ → ℕ → List ℕ
head_of cmd middle number = (16 * (cmd % 16) + 4 * (middle % 4) + code_for number) ∷ narrow_bytes number

-- "number; name; one zero byte, the last of the PDU"; Pri is the class
unfoldable pub create_request_bytes : ℕ → ℕ → List ℕ → List ℕ
create_request_bytes number class name = (head_of CREATE class number ++ name) ++ (0 ∷ [])

-- "number; CreationStatus, 4 bytes"
unfoldable pub create_response_bytes : ℕ → ℤ → List ℕ
create_response_bytes number status = head_of CREATE 0 number ++ status_bytes status

-- "number; Length of the width in the middle bits; data"
unfoldable pub data_first_head : ℕ → ℕ → List ℕ
data_first_head number len = head_of DATA_FIRST (code_for len) number ++ narrow_bytes len

unfoldable pub data_first_bytes : ℕ → ℕ → List ℕ → List ℕ
data_first_bytes number len block = data_first_head number len ++ block

-- "number; data"
unfoldable pub data_bytes : ℕ → List ℕ → List ℕ
data_bytes number block = head_of DATA 0 number ++ block

-- "number"
unfoldable pub close_bytes : ℕ → List ℕ
close_bytes number = head_of CLOSE 0 number

-- "Pad 0; Version 2 bytes"
unfoldable pub caps_head : ℕ → List ℕ
caps_head version = (16 * CAPABILITIES ∷ 0 ∷ []) ++ bytes_of 2 version

-- "for versions 2 and 3 four charges of 2 bytes"
unfoldable pub caps_request_bytes : ℕ → Charges → List ℕ
caps_request_bytes version charges =
    cond (eqb version 1) (caps_head version)
    ((((caps_head version ++ bytes_of 2 charges.class0) ++ bytes_of 2 charges.class1)
    ++ bytes_of 2 charges.class2) ++ bytes_of 2 charges.class3)

unfoldable pub caps_response_bytes : ℕ → List ℕ
caps_response_bytes version = caps_head version

-- "Bytes of a reply or PDU buffer behind the written ones stay." "Store, reply and PDU buffer are unchanged by every
-- refusal.": the buffer that an entry leaves which lays a PDU or refuses
unfoldable pub buffer_after : {A : Type 0} → Outcome A → List ℕ → List ℕ → List ℕ
buffer_after (done lengths) pdu out = laid out 0 pdu
buffer_after (refusal n) pdu out = out
