-- PDUs from the server that reading refuses, each with the first rule that it breaks.
use Rattle.std.specs.Prelude.{ℕ, ◌≡◌, Some, List, [], ◌∷◌}
use Rattle.rules.specs.declared.Rule.{Rule}
use Rattle.rules.specs.declared.Rule.TheVariants.{Empty, Command, CbId, LengthWidth, Ended, Pad, Version, LeftOver}
use Rattle.rules.specs.Rules.{reading_rules, first_of}

abbrev pub Breaks : Rule → List ℕ → Type 0
Breaks rule pdu = first_of (reading_rules pdu) ≡ Some rule

pub record FirstBroken : Type 0 where
  pub empty : Breaks Empty []
  pub command : Breaks Command (0x60 ∷ 0x05 ∷ [])
  pub cb_id : Breaks CbId (0x33 ∷ 0x05 ∷ [])
  pub length_width : Breaks LengthWidth (0x2C ∷ 0x05 ∷ [])
  -- Pad is judged before the Version is ended,
  pub pad : Breaks Pad (0x50 ∷ 0x01 ∷ [])
  -- and before what is missing behind the Version
  pub pad_before_version : Breaks Pad (0x50 ∷ 0x01 ∷ 0x02 ∷ 0x00 ∷ [])
  pub ended : Breaks Ended (0x50 ∷ 0x00 ∷ 0x04 ∷ [])
  pub version : Breaks Version (0x50 ∷ 0x00 ∷ 0x04 ∷ 0x00 ∷ [])
  pub left_over : Breaks LeftOver (0x40 ∷ 0x05 ∷ 0x00 ∷ [])
