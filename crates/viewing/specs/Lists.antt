-- A listener list, as the viewer shows it: "prints each name of a listener list [..] as a line of UTF-8".
use Rattle.std.specs.Prelude.{ℕ, ◌*◌, not, List, [], ◌∷◌, ◌++◌, ltb, length, Option, None, Some, Result, Ok, Err}
use Rattle.paper.specs.Sizes.{LIST_MAX}
use Rattle.paper.specs.Refusals.{refusal_number}
use Rattle.paper.specs.Rows.{refuse}
use Rattle.paper.specs.declared.Refusal.TheVariants.{NoPartner}
use Rattle.lists.specs.Bytes.{laid}
use Rattle.lists.specs.Lines.{LF}
use Rattle.listeners.specs.Listeners.{names, good_list}
use Rattle.lines.specs.Lines.{refused_line}
use Rattle.codepage.specs.Names.{utf8_of}
use Rattle.viewing.specs.declared.NotShown.{NotShown}
use Rattle.viewing.specs.declared.NotShown.TheVariants.{Outside, NoRoom}

-- "A name with one of the five bytes: the line `refused 19` in its place"
abbrev pub line_by : Option (List ℕ) → List ℕ
line_by None = refused_line (refusal_number NoPartner)
line_by (Some text) = text ++ (LF ∷ [])

unfoldable pub name_line : List ℕ → List ℕ
name_line name = line_by (utf8_of name)

-- ", and the others are still printed"
unfoldable pub name_lines : List (List ℕ) → List ℕ
name_lines [] = []
name_lines (name ∷ rest) = name_line name ++ name_lines rest

-- the most bytes of all lines: for each byte of a list at most six
unfoldable pub LINES_MAX : ℕ
LINES_MAX = 6 * LIST_MAX

-- "a list outside its rule: [..] nothing printed". With less room than any list can need nothing is shown either
unfoldable pub shown_for : List ℕ → List ℕ → Result ℕ NotShown
shown_for list out =
    refuse (Err NoRoom) (ltb (length out) LINES_MAX)
    (refuse (Err Outside) (not (good_list list))
    (Ok (length (name_lines (names list)))))

abbrev pub buffer_by : Result ℕ NotShown → List ℕ → List ℕ → List ℕ
buffer_by (Ok n) lines out = laid out 0 lines
buffer_by (Err why) lines out = out

unfoldable pub shown_in : List ℕ → List ℕ → List ℕ
shown_in list out = buffer_by (shown_for list out) (name_lines (names list)) out
