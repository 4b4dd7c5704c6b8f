-- What is promised of the two ways.
use Rattle.std.specs.Prelude.{◌≡◌, ℕ, true, List, [], ◌∷◌, ◌++◌, length, is_some, Ok}
use Rattle.lists.specs.Bytes.{is_byte}
use Rattle.lists.specs.Places.{place}
use Rattle.lists.specs.Lines.{LF}
use Rattle.codepage.specs.Names.{utf8_of}
use Rattle.viewing.specs.Texts.{verdict_on}

-- names that a line can tell: each can be converted, and none has an LF
abbrev pub Tellable : List (List ℕ) → Type 0
Tellable [] = Unit {0}
Tellable (name ∷ names) = ((is_some (utf8_of name) ≡ true) × (place (is_byte LF) name ≡ length name)) × Tellable names

-- lines of which none is left out
abbrev pub AllKept : List (List ℕ) → Type 0
AllKept [] = Unit {0}
AllKept (line ∷ lines) = (verdict_on line ≡ Ok tt) × AllKept lines

-- lines, each with its end
unfoldable pub ended : List (List ℕ) → List ℕ
ended [] = []
ended (line ∷ lines) = (line ++ (LF ∷ [])) ++ ended lines
