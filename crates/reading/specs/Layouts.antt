-- The refusals of reading once more, from the paper's table of kinds and independently of `read_pdu`: for a
-- direction and a first byte (and, for a Capabilities request, its Version) the fields and the tail, and one rule
-- over them.
use Rattle.std.specs.Prelude.{ℕ, ◌+◌, ◌/◌, ◌%◌, Bool, true, cond, not, ◌&&◌, ◌||◌, List, [], ◌∷◌, ltb, eqb, length, take, drop, get_or}
use Rattle.paper.specs.Sizes.{PDU_MAX}
use Rattle.paper.specs.Commands.{CREATE, DATA_FIRST, DATA, CLOSE, CAPABILITIES}
use Rattle.paper.specs.declared.Refusal.TheVariants.{CutShort, TooLong, NoCommand, BadField}
use Rattle.lists.specs.Bytes.{is_zero}
use Rattle.lists.specs.Places.{place}
use Rattle.numbers.specs.Numbers.{little, width_of}
use Rattle.paper.specs.Rows.{Row, row}

-- a field: its bytes, and which values are good
pub record Field : Type 0 where
  pub width : ℕ
  pub good : ℕ → Bool

abbrev pub any : ℕ → Field
any w = record { width = w; good = λ v. true }

-- what comes behind the fields
pub data Tail : Type 0 where
  no_more : Tail
  any_bytes : Tail
  -- "name; one zero byte, the last of the PDU"
  a_name : Tail

pub record Layout : Type 0 where
  pub fields : List Field
  pub tail : Tail

abbrev pub layout : List Field → Tail → Layout
layout fields tail = record { fields = fields; tail = tail }

-- "Pad 0"; "Version 2 bytes, 1 to 3"
abbrev pub pad : Field
pad = record { width = 1; good = λ v. eqb v 0 }

abbrev pub version_field : Field
version_field = record { width = 2; good = λ v. not (ltb v 1 || ltb 3 v) }

-- "for versions 2 and 3 four charges of 2 bytes"
abbrev pub charges : ℕ → List Field
charges version = cond (eqb version 1) [] (any 2 ∷ any 2 ∷ any 2 ∷ any 2 ∷ [])

-- the table of kinds
unfoldable pub layout_of : Bool → ℕ → ℕ → ℕ → ℕ → Layout
layout_of fromServer cmd middle cbId version =
    cond (eqb cmd CREATE)
    (cond fromServer (layout (any (width_of cbId) ∷ []) a_name) (layout (any (width_of cbId) ∷ any 4 ∷ []) no_more))
    (cond (eqb cmd DATA_FIRST) (layout (any (width_of cbId) ∷ any (width_of middle) ∷ []) any_bytes)
    (cond (eqb cmd DATA) (layout (any (width_of cbId) ∷ []) any_bytes)
    (cond (eqb cmd CLOSE) (layout (any (width_of cbId) ∷ []) no_more)
    (layout (pad ∷ version_field ∷ cond fromServer (charges version) []) no_more))))

-- "fields from left to right, each ended (2) before its value is judged (5); bytes left over last"
unfoldable pub rows_of_tail : List ℕ → Tail → List Row
rows_of_tail rest no_more = row BadField (ltb 0 (length rest)) ∷ []
rows_of_tail rest any_bytes = []
rows_of_tail rest a_name =
    row CutShort (not (ltb (place is_zero rest) (length rest)))
    ∷ row BadField (ltb (place is_zero rest + 1) (length rest))
    ∷ []

unfoldable pub rows_of_fields : List ℕ → List Field → Tail → List Row
rows_of_fields rest [] t = rows_of_tail rest t
rows_of_fields rest (f ∷ fs) t =
    row CutShort (ltb (length rest) f.width)
    ∷ row BadField (not (f.good (little (take f.width rest))))
    ∷ rows_of_fields (drop f.width rest) fs t

abbrev pub rows_of_layout : List ℕ → Layout → List Row
rows_of_layout rest l = rows_of_fields rest l.fields l.tail

-- "Capabilities need cbId 0"; "3 is invalid"
unfoldable pub bad_cb_id : ℕ → ℕ → Bool
bad_cb_id cmd cbId = cond (eqb cmd CAPABILITIES) (not (eqb cbId 0)) (eqb cbId 3)

-- "empty 2, too long 3, then Cmd, cbId, the Length width, then fields"
unfoldable pub rows_of_bytes : Bool → List ℕ → ℕ → ℕ → ℕ → List Row
rows_of_bytes fromServer pdu cmd middle cbId =
    row CutShort (eqb (length pdu) 0)
    ∷ row TooLong (ltb PDU_MAX (length pdu))
    ∷ row NoCommand (ltb cmd CREATE || ltb CAPABILITIES cmd)
    ∷ row BadField (bad_cb_id cmd cbId)
    ∷ row BadField (eqb cmd DATA_FIRST && eqb middle 3)
    ∷ rows_of_layout (drop 1 pdu) (layout_of fromServer cmd middle cbId (little (take 2 (drop 2 pdu))))

unfoldable pub reading_rows : Bool → List ℕ → List Row
reading_rows fromServer pdu = rows_of_bytes fromServer pdu (get_or pdu 0 0 / 16) (get_or pdu 0 0 / 4 % 4) (get_or pdu 0 0 % 4)
