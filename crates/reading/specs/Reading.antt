-- What reading a PDU finds: "Bytes of a PDU", and its part of "Refusal numbers":
--   "Reading: empty 2, too long 3, then Cmd, cbId, the Length width, then fields from left to right, each ended (2)
--   before its value is judged (5); bytes left over last."
-- Each definition is a list of refusals from top to bottom, of which the
-- first that holds is given, and then what is found.
use Rattle.std.specs.Prelude.{ℕ, ◌+◌, ◌-◌, ◌/◌, ◌%◌, Bool, cond, not, ◌&&◌, ◌||◌, List, ltb, leb, eqb, length, drop, take, get_or}
use Rattle.paper.specs.Sizes.{PDU_MAX}
use Rattle.paper.specs.Rows.{refuse}
use Rattle.paper.specs.Commands.{CREATE, DATA_FIRST, DATA, CAPABILITIES}
use Rattle.paper.specs.declared.Refusal.TheVariants.{CutShort, TooLong, NoCommand, BadField}
use Rattle.lists.specs.Places.{place}
use Rattle.lists.specs.Bytes.{is_zero}
use Rattle.numbers.specs.Numbers.{value_at, width_of}
use Rattle.numbers.specs.Status.{status_of}
use Rattle.reading.specs.declared.Charges.{Charges}
use Rattle.reading.specs.declared.Pdu.{Pdu}
use Rattle.reading.specs.declared.Pdu.TheVariants.{CreateRequest, CreateResponse, DataFirst, Data, Close}
use Rattle.reading.specs.declared.Pdu.TheVariants.{CapsRequest, CapsResponse, Refused}

-- "number; name; one zero byte, the last of the PDU": the name's length is
-- the place of the first zero behind the number
unfoldable pub named_for : ℕ → ℕ → ℕ → ℕ → ℕ → Pdu
named_for left number class at len =
    refuse (Refused CutShort) (leb left len)
    (refuse (Refused BadField) (ltb (len + 1) left)
    (CreateRequest number class (record { at = at; len = len })))

unfoldable pub create_request : List ℕ → ℕ → ℕ → ℕ → Pdu
create_request pdu number class at = named_for (length pdu - at) number class at (place is_zero (drop at pdu))

-- "number; CreationStatus, 4 bytes"
unfoldable pub create_response : List ℕ → ℕ → ℕ → Pdu
create_response pdu number at =
    refuse (Refused CutShort) (ltb (length pdu) (at + 4))
    (refuse (Refused BadField) (ltb (at + 4) (length pdu))
    (CreateResponse number (status_of (take 4 (drop at pdu)))))

-- "number; Length of the width in the middle bits; data"
unfoldable pub data_first : List ℕ → ℕ → ℕ → ℕ → Pdu
data_first pdu number width at =
    refuse (Refused CutShort) (ltb (length pdu) (at + width))
    (DataFirst number (value_at pdu at width) (record { at = at + width; len = length pdu - (at + width) }))

-- "number"
unfoldable pub closing : List ℕ → ℕ → ℕ → Pdu
closing pdu number at = refuse (Refused BadField) (ltb at (length pdu)) (Close number)

-- what follows the number, by Cmd; Create by the direction too. "Data may be empty."
unfoldable pub after_number : Bool → List ℕ → ℕ → ℕ → ℕ → ℕ → Pdu
after_number fromServer pdu cmd middle number at =
    cond (eqb cmd CREATE) (cond fromServer (create_request pdu number middle at) (create_response pdu number at))
    (cond (eqb cmd DATA_FIRST) (data_first pdu number (width_of middle) at)
    (cond (eqb cmd DATA) (Data number (record { at = at; len = length pdu - at }))
    (closing pdu number at)))

-- a Data First has the width code of its Length in the middle bits
unfoldable pub bad_length_width : ℕ → ℕ → Bool
bad_length_width cmd middle = eqb cmd DATA_FIRST && eqb middle 3

-- Cmd 1 to 4: cbId, the Length width, then the number
unfoldable pub numbered : Bool → List ℕ → ℕ → ℕ → ℕ → Pdu
numbered fromServer pdu cmd middle cbId =
    refuse (Refused BadField) (eqb cbId 3)
    (refuse (Refused BadField) (bad_length_width cmd middle)
    (refuse (Refused CutShort) (ltb (length pdu) (1 + width_of cbId))
    (after_number fromServer pdu cmd middle (value_at pdu 1 (width_of cbId)) (1 + width_of cbId))))

-- the four charges, of two bytes each, from a place on
abbrev pub charges_at : List ℕ → ℕ → Charges
charges_at bytes at =
    record {
      class0 = value_at bytes at 2;
      class1 = value_at bytes (at + 2) 2;
      class2 = value_at bytes (at + 4) 2;
      class3 = value_at bytes (at + 6) 2;
    }

-- "for versions 2 and 3 four charges of 2 bytes"; version 1 is read with charges of 0
unfoldable pub charged : List ℕ → ℕ → Pdu
charged pdu version =
    cond (eqb version 1)
    (refuse (Refused BadField) (ltb 4 (length pdu))
    (CapsRequest version (record { class0 = 0; class1 = 0; class2 = 0; class3 = 0 })))
    (refuse (Refused CutShort) (ltb (length pdu) 12)
    (refuse (Refused BadField) (ltb 12 (length pdu))
    (CapsRequest version (charges_at pdu 4))))

-- "Version 2 bytes, 1 to 3"
unfoldable pub bad_version : ℕ → Bool
bad_version version = ltb version 1 || ltb 3 version

unfoldable pub by_version : Bool → List ℕ → ℕ → Pdu
by_version fromServer pdu version =
    refuse (Refused BadField) (bad_version version)
    (cond fromServer (charged pdu version)
    (refuse (Refused BadField) (ltb 4 (length pdu)) (CapsResponse version)))

-- "Capabilities need cbId 0"; "Pad 0; Version 2 bytes"
unfoldable pub capabilities : Bool → List ℕ → ℕ → Pdu
capabilities fromServer pdu cbId =
    refuse (Refused BadField) (not (eqb cbId 0))
    (refuse (Refused CutShort) (ltb (length pdu) 2)
    (refuse (Refused BadField) (not (eqb (get_or pdu 1 0) 0))
    (refuse (Refused CutShort) (ltb (length pdu) 4)
    (by_version fromServer pdu (value_at pdu 2 2)))))

-- "Cmd is not 1 to 5"
unfoldable pub by_command : Bool → List ℕ → ℕ → ℕ → ℕ → Pdu
by_command fromServer pdu cmd middle cbId =
    refuse (Refused NoCommand) (ltb cmd CREATE)
    (refuse (Refused NoCommand) (ltb CAPABILITIES cmd)
    (cond (eqb cmd CAPABILITIES) (capabilities fromServer pdu cbId) (numbered fromServer pdu cmd middle cbId)))

-- "The first byte holds Cmd in its high four bits, then two bits (Sp, Pri or Len), then cbId in the low two."
unfoldable pub read_pdu : Bool → List ℕ → Pdu
read_pdu fromServer pdu =
    refuse (Refused CutShort) (eqb (length pdu) 0)
    (refuse (Refused TooLong) (ltb PDU_MAX (length pdu))
    (by_command fromServer pdu (get_or pdu 0 0 / 16) (get_or pdu 0 0 / 4 % 4) (get_or pdu 0 0 % 4)))
