-- The lines of a text.
use Rattle.std.specs.Prelude.{ℕ, ◌+◌, cond, List, [], ◌∷◌, take, drop}
use Rattle.lists.specs.Bytes.{is_byte}
use Rattle.lists.specs.Places.{place}

-- the byte that ends a line
abbrev pub LF : ℕ
LF = 10

-- a byte in front of the first line
abbrev pub in_first : ℕ → List (List ℕ) → List (List ℕ)
in_first b [] = (b ∷ []) ∷ []
in_first b (line ∷ lines) = (b ∷ line) ∷ lines

-- the bytes before each LF, and those behind the last, if there are any: "a last line without an end counts"
unfoldable pub lines_in : List ℕ → List (List ℕ)
lines_in [] = []
lines_in (b ∷ text) = cond (is_byte LF b) ([] ∷ lines_in text) (in_first b (lines_in text))

-- the bytes before the first LF, or all
abbrev pub first_line : List ℕ → List ℕ
first_line text = take (place (is_byte LF) text) text

-- those behind it, or none
abbrev pub behind_line : List ℕ → List ℕ
behind_line text = drop (place (is_byte LF) text + 1) text
