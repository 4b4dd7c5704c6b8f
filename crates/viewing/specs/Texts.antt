-- Lines of UTF-8, as the viewer takes them back: "writes a list again, each name and a zero byte".
use Rattle.std.specs.Prelude.{ℕ, zero, suc, ◌+◌, min, cond, not, List, [], ◌∷◌, ◌++◌, eqb, ltb, leb, length, drop, is_some, Result, Ok, Err, is_ok, ⊤}
use Rattle.paper.specs.Refusals.{refusal_number}
use Rattle.paper.specs.Rows.{refuse}
use Rattle.paper.specs.declared.Refusal.TheVariants.{NoPartner}
use Rattle.lists.specs.Bytes.{is_byte, is_zero, laid}
use Rattle.lists.specs.Places.{place}
use Rattle.lists.specs.Lines.{LF, lines_in, first_line}
use Rattle.lines.specs.Decimal.{FIELD_MAX, field}
use Rattle.lines.specs.Lines.{SPACE, REFUSED_MAX, refused_line}
use Rattle.codepage.specs.Names.{name_of, result_of}
use Rattle.viewing.specs.declared.LeftOut.{LeftOut}
use Rattle.viewing.specs.declared.LeftOut.TheVariants.{Empty, HasZero, Unnamed}
use Rattle.viewing.specs.declared.Line.{Line}
use Rattle.viewing.specs.declared.NotGathered.{NotGathered}
use Rattle.viewing.specs.declared.NotGathered.TheVariants.{TooLong, NoRoom}

-- ---- line by line

-- "a line that can't be converted, an empty one and one with a zero byte are left out"
unfoldable pub verdict_on : List ℕ → Result ⊤ LeftOut
verdict_on line =
    refuse (Err Empty) (eqb (length line) 0)
    (refuse (Err HasZero) (ltb (place is_zero line) (length line))
    (refuse (Err Unnamed) (not (is_some (name_of line)))
    (Ok tt)))

-- "each name and a zero byte"
unfoldable pub entry_of : List ℕ → List ℕ
entry_of line = cond (is_ok (verdict_on line)) (result_of (name_of line) ++ (0 ∷ [])) []

unfoldable pub entries_of : List (List ℕ) → List ℕ
entries_of [] = []
entries_of (line ∷ lines) = entry_of line ++ entries_of lines

-- ---- the list of a text

-- "over 65,536 bytes of input"
unfoldable pub TEXT_MAX : ℕ
TEXT_MAX = 65536

-- "is said on standard error and nothing is written". A text's list has at most one byte more than the text: with less room than any can
-- need nothing is written either
unfoldable pub gathered_for : List ℕ → List ℕ → Result ℕ NotGathered
gathered_for text out =
    refuse (Err TooLong) (ltb TEXT_MAX (length text))
    (refuse (Err NoRoom) (leb (length out) TEXT_MAX)
    (Ok (length (entries_of (lines_in text)))))

abbrev pub buffer_by : Result ℕ NotGathered → List ℕ → List ℕ → List ℕ
buffer_by (Ok n) list out = laid out 0 list
buffer_by (Err why) list out = out

unfoldable pub gathered_in : List ℕ → List ℕ → List ℕ
gathered_in text out = buffer_by (gathered_for text out) (entries_of (lines_in text)) out

-- ---- what is said of a line that is left out

-- "viewer: line "
abbrev pub VIEWER_LINE : List ℕ
VIEWER_LINE =
    118 ∷ 105 ∷ 101 ∷ 119 ∷ 101 ∷ 114 ∷ 58 ∷ 32 ∷ 108 ∷ 105 ∷ 110 ∷ 101 ∷ 32 ∷ []

-- "is left out: "
abbrev pub IS_LEFT_OUT : List ℕ
IS_LEFT_OUT =
    105 ∷ 115 ∷ 32 ∷ 108 ∷ 101 ∷ 102 ∷ 116 ∷ 32 ∷ 111 ∷ 117 ∷ 116 ∷ 58 ∷ 32 ∷ []

-- "it is empty", "it has a zero byte", or the refusal
unfoldable pub reason_for : LeftOut → List ℕ
reason_for Empty =
    105 ∷ 116 ∷ 32 ∷ 105 ∷ 115 ∷ 32 ∷ 101 ∷ 109 ∷ 112 ∷ 116 ∷ 121 ∷ 10 ∷ []
reason_for HasZero =
    105 ∷ 116 ∷ 32 ∷ 104 ∷ 97 ∷ 115 ∷ 32 ∷ 97 ∷ 32 ∷ 122 ∷ 101 ∷ 114 ∷ 111 ∷ 32 ∷ 98 ∷ 121 ∷ 116 ∷ 101 ∷ 10 ∷ []
reason_for Unnamed = refused_line (refusal_number NoPartner)

-- the most bytes of it
abbrev pub SAY_MAX : ℕ
SAY_MAX = 26 + FIELD_MAX + REFUSED_MAX

-- lines are counted from 1. Nothing is said of one that is kept
unfoldable pub left_out_line : ℕ → Result ⊤ LeftOut → List ℕ
left_out_line k (Ok kept) = []
left_out_line k (Err why) = ((VIEWER_LINE ++ field k SPACE) ++ IS_LEFT_OUT) ++ reason_for why

-- ", and said on standard error": of all lines, from the k-th on
unfoldable pub left_out : ℕ → List (List ℕ) → List ℕ
left_out k [] = []
left_out k (line ∷ lines) = left_out_line k (verdict_on line) ++ left_out (suc k) lines

-- ---- at a place of a text

-- the verdict on the line that begins there, and where the next begins
unfoldable pub line_at : List ℕ → ℕ → Line
line_at text at =
    record {
      verdict = verdict_on (first_line (drop at text));
      next = min at (length text) + place (is_byte LF) (drop at text) + 1;
    }

-- what is said when a text is gone through so, line by line. The first number only bounds the steps
unfoldable pub said_from : ℕ → List ℕ → ℕ → ℕ → List ℕ
said_from zero text k at = []
said_from (suc steps) text k at =
    cond (ltb at (length text)) (left_out_line k (line_at text at).verdict ++ said_from steps text (suc k) (line_at text at).next) []
