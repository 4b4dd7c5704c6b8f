-- "A program compares the table with the published one": it prints `256 agree`, or a line for each byte that doesn't.
use Rattle.std.specs.Prelude.{ℕ, suc, ◌+◌, ◌*◌, ◌/◌, ◌%◌, cond, ◌&&◌, List, [], ◌∷◌, ◌++◌, eqb, ltb, length, Option, None, Some, is_some, Result, Ok, Err}
use Rattle.paper.specs.Rows.{refuse}
use Rattle.lists.specs.Bytes.{laid}
use Rattle.lists.specs.Lines.{LF, lines_in}
use Rattle.lines.specs.Decimal.{FIELD_MAX, field}
use Rattle.lines.specs.Hex.{hex_byte}
use Rattle.lines.specs.Lines.{SPACE}
use Rattle.codepage.specs.Points.{NONE, BYTES, point_of}
use Rattle.published.specs.declared.NotCompared.{NotCompared}
use Rattle.published.specs.declared.NotCompared.TheVariants.{Wrong, NoRoom}
use Rattle.published.specs.Claims.{claim_in, agrees}

-- ---- which files

-- "a file of other than 256 such lines": the first line that isn't one, counted from 1. The lines go from byte 00 to FF; from the k-th byte on
unfoldable pub wrong_from : ℕ → List (List ℕ) → Option ℕ
wrong_from k [] = cond (eqb k BYTES) None (Some (k + 1))
wrong_from k (line ∷ lines) = cond (ltb k BYTES && is_some (claim_in k line)) (wrong_from (suc k) lines) (Some (k + 1))

-- a line has at most a byte, a space, `undefined` and its end
unfoldable pub FILE_MAX : ℕ
FILE_MAX = BYTES * 13

-- ---- the lines of those that differ

-- " ours "
abbrev pub OURS : List ℕ
OURS = 32 ∷ 111 ∷ 117 ∷ 114 ∷ 115 ∷ 32 ∷ []

-- " published "
abbrev pub PUBLISHED : List ℕ
PUBLISHED = 32 ∷ 112 ∷ 117 ∷ 98 ∷ 108 ∷ 105 ∷ 115 ∷ 104 ∷ 101 ∷ 100 ∷ 32 ∷ []

-- four digits
unfoldable pub point_text : ℕ → List ℕ
point_text p = hex_byte (p / 256) ++ hex_byte (p % 256)

-- "(hexadecimal, `-` for none)"
unfoldable pub our_text : ℕ → List ℕ
our_text p = cond (eqb p NONE) (45 ∷ []) (point_text p)

unfoldable pub their_text : Option (Option ℕ) → List ℕ
their_text (Some (Some p)) = point_text p
their_text (Some None) = 45 ∷ []
their_text None = []

-- "a line `BYTE ours OURS published THEIRS` for each that doesn't"
unfoldable pub difference_of : ℕ → Option (Option ℕ) → List ℕ
difference_of byte claim =
    cond (agrees claim byte) []
    (((((hex_byte byte ++ OURS) ++ our_text (point_of byte)) ++ PUBLISHED) ++ their_text claim) ++ (LF ∷ []))

unfoldable pub differences_from : ℕ → List (List ℕ) → List ℕ
differences_from k [] = []
differences_from k (line ∷ lines) = difference_of k (claim_in k line) ++ differences_from (suc k) lines

-- the most bytes of such a line, and of all
abbrev pub DIFFERENCE_MAX : ℕ
DIFFERENCE_MAX = 28

unfoldable pub COMPARED_MAX : ℕ
COMPARED_MAX = BYTES * DIFFERENCE_MAX

-- ---- what is printed

-- "256 agree"
abbrev pub AGREE : List ℕ
AGREE = 50 ∷ 53 ∷ 54 ∷ 32 ∷ 97 ∷ 103 ∷ 114 ∷ 101 ∷ 101 ∷ 10 ∷ []

-- "it prints `256 agree`, or a line [..] for each that doesn't"
unfoldable pub text_of : List (List ℕ) → List ℕ
text_of lines = cond (eqb (length (differences_from 0 lines)) 0) AGREE (differences_from 0 lines)

-- by the first line that isn't as it should be
abbrev pub compared_by : Option ℕ → List ℕ → Result ℕ NotCompared
compared_by None text = Ok (length text)
compared_by (Some line) text = Err (Wrong line)

-- with less room than any file can need nothing is compared
unfoldable pub compared_for : List ℕ → List ℕ → Result ℕ NotCompared
compared_for file out =
    refuse (Err NoRoom) (ltb (length out) COMPARED_MAX)
    (compared_by (wrong_from 0 (lines_in file)) (text_of (lines_in file)))

abbrev pub buffer_by : Result ℕ NotCompared → List ℕ → List ℕ → List ℕ
buffer_by (Ok n) text out = laid out 0 text
buffer_by (Err why) text out = out

unfoldable pub compared_in : List ℕ → List ℕ → List ℕ
compared_in file out = buffer_by (compared_for file out) (text_of (lines_in file)) out

-- ---- what is said of a file that isn't such

-- "names: line "
abbrev pub NAMES_LINE : List ℕ
NAMES_LINE = 110 ∷ 97 ∷ 109 ∷ 101 ∷ 115 ∷ 58 ∷ 32 ∷ 108 ∷ 105 ∷ 110 ∷ 101 ∷ 32 ∷ []

-- "isn't as it should be: 256 lines are wanted, `BYTE POINT` or `BYTE undefined` in hexadecimal, from 00 to FF"
abbrev pub IS_WRONG : List ℕ
IS_WRONG =
    105 ∷ 115 ∷ 110 ∷ 39 ∷ 116 ∷ 32 ∷ 97 ∷ 115 ∷ 32 ∷ 105 ∷ 116 ∷ 32 ∷ 115 ∷ 104 ∷ 111 ∷ 117 ∷ 108 ∷ 100 ∷ 32 ∷ 98 ∷ 101 ∷ 58 ∷ 32 ∷ 50 ∷ 53 ∷ 54
    ∷ 32 ∷ 108 ∷ 105 ∷ 110 ∷ 101 ∷ 115 ∷ 32 ∷ 97 ∷ 114 ∷ 101 ∷ 32 ∷ 119 ∷ 97 ∷ 110 ∷ 116 ∷ 101 ∷ 100 ∷ 44 ∷ 32 ∷ 96 ∷ 66 ∷ 89 ∷ 84 ∷ 69 ∷ 32 ∷ 80
    ∷ 79 ∷ 73 ∷ 78 ∷ 84 ∷ 96 ∷ 32 ∷ 111 ∷ 114 ∷ 32 ∷ 96 ∷ 66 ∷ 89 ∷ 84 ∷ 69 ∷ 32 ∷ 117 ∷ 110 ∷ 100 ∷ 101 ∷ 102 ∷ 105 ∷ 110 ∷ 101 ∷ 100 ∷ 96 ∷ 32
    ∷ 105 ∷ 110 ∷ 32 ∷ 104 ∷ 101 ∷ 120 ∷ 97 ∷ 100 ∷ 101 ∷ 99 ∷ 105 ∷ 109 ∷ 97 ∷ 108 ∷ 44 ∷ 32 ∷ 102 ∷ 114 ∷ 111 ∷ 109 ∷ 32 ∷ 48 ∷ 48 ∷ 32 ∷ 116 ∷ 111
    ∷ 32 ∷ 70 ∷ 70 ∷ 10 ∷ []

abbrev pub WRONG_MAX : ℕ
WRONG_MAX = 12 + FIELD_MAX + 108

unfoldable pub wrong_line : ℕ → List ℕ
wrong_line n = (NAMES_LINE ++ field n SPACE) ++ IS_WRONG
