-- The lines of the published table: "byte and code point, hexadecimal, the five marked as undefined". A line is a byte in two digits, a space,
-- and its code point in four digits or the word `undefined`.
use Rattle.std.specs.Prelude.{ℕ, ◌+◌, ◌-◌, ◌*◌, Bool, false, cond, not, ◌&&◌, List, [], ◌∷◌, eqb, ltb, leb, length, drop, get_or, Option, None, Some, option_map}
use Rattle.paper.specs.Rows.{refuse}
use Rattle.listeners.specs.Listeners.{same_bytes}
use Rattle.lines.specs.Lines.{SPACE}
use Rattle.codepage.specs.Points.{NONE, point_of}

-- ---- hexadecimal digits, of either case

abbrev pub between : ℕ → ℕ → ℕ → Bool
between from to c = leb from c && leb c to

-- `0` to `9`, `A` to `F`, `a` to `f`
unfoldable pub digit_in : ℕ → Option ℕ
digit_in c =
    cond (between 48 57 c) (Some (c - 48))
    (cond (between 65 70 c) (Some (c - 55))
    (cond (between 97 102 c) (Some (c - 87))
    None))

-- two numbers, the first of which counts so much more
abbrev pub joined : ℕ → Option ℕ → Option ℕ → Option ℕ
joined unit None y = None
joined unit (Some x) None = None
joined unit (Some x) (Some y) = Some (unit * x + y)

unfoldable pub pair_in : ℕ → ℕ → Option ℕ
pair_in a b = joined 16 (digit_in a) (digit_in b)

unfoldable pub four_in : ℕ → ℕ → ℕ → ℕ → Option ℕ
four_in a b c d = joined 256 (pair_in a b) (pair_in c d)

-- ---- a line

-- "undefined"
abbrev pub UNDEFINED : List ℕ
UNDEFINED =
    117 ∷ 110 ∷ 100 ∷ 101 ∷ 102 ∷ 105 ∷ 110 ∷ 101 ∷ 100 ∷ []

-- what a line says that its byte has: a code point, or none; or it is no such line
abbrev pub point_claim : Option ℕ → Option (Option ℕ)
point_claim p = option_map Some p

-- what stands behind a byte and a space
unfoldable pub claim_behind : List ℕ → Option (Option ℕ)
claim_behind rest =
    cond (same_bytes rest UNDEFINED) (Some None)
    (refuse None (not (eqb (length rest) 4))
    (point_claim (four_in (get_or rest 0 0) (get_or rest 1 0) (get_or rest 2 0) (get_or rest 3 0))))

-- a byte in front, of two digits
abbrev pub is_pair : Option ℕ → ℕ → Bool
is_pair None byte = false
is_pair (Some n) byte = eqb n byte

-- the line of a byte
unfoldable pub claim_in : ℕ → List ℕ → Option (Option ℕ)
claim_in byte line =
    refuse None (ltb (length line) 3)
    (refuse None (not (is_pair (pair_in (get_or line 0 0) (get_or line 1 0)) byte))
    (refuse None (not (eqb (get_or line 2 0) SPACE))
    (claim_behind (drop 3 line))))

-- whether it is our table's entry. 65,535 is no code point of ours
abbrev pub agrees : Option (Option ℕ) → ℕ → Bool
agrees (Some (Some p)) byte = not (eqb p NONE) && eqb p (point_of byte)
agrees (Some None) byte = eqb (point_of byte) NONE
agrees None byte = false
