-- The page of the log viewer: what is promised of the two ways.
-- Assumes nothing.
use mathlib.Core.Path.{◌≡◌, refl}
use mathlib.Core.Bool.{true}
use mathlib.Core.List.{List, [], ◌∷◌}
use Prim.Native.Nat.{ℕ}
use lib.ListN.{length}
use Rattle.lists.specs.Places.{place}
use Rattle.lists.specs.Lines.{lines_in}
use Rattle.records.specs.Walks.{front_of, records_in, records_of, size_of, rest_of}
use Rattle.records.specs.Items.{items_in}
use Rattle.lines.specs.Decimal.{digits_in, decimal, field}
use Rattle.lines.specs.Lines.{word_field, refused_line}
use Rattle.listeners.specs.Listeners.{names, all_names, good_list}
use Rattle.codepage.specs.Points.{points, point_of, point_for, byte_for}
use Rattle.codepage.specs.Utf8.{sequences, sequence_of, spelled, point_in, begins, width_by, width_at, points_in, is_well_formed}
use Rattle.codepage.specs.Names.{partners, utf8_of, name_of}
use Rattle.std.specs.Prelude.{Ok}
use Rattle.viewing.specs.Lists.{name_line, name_lines}
use Rattle.viewing.specs.Texts.{verdict_on, entry_of, entries_of, left_out, said_from}
use Rattle.viewing.specs.Promises.{Tellable, AllKept, ended}
use Rattle.viewing.proofs.Verdicts as verdicts
use Rattle.viewing.proofs.Back as back

-- ---- there and back

-- what is shown of a good list is gathered as that list, where each name can be converted and none has an LF
pub list_back : (list : List ℕ) → good_list list ≡ true → Tellable (names list) → entries_of (lines_in (name_lines (names list))) ≡ list
list_back = back.list_back

-- lines of which none is left out are gathered as names that are shown as these lines
pub lines_back : (lines : List (List ℕ)) → AllKept lines → name_lines (names (entries_of lines)) ≡ ended lines
lines_back = back.lines_back

-- ---- what is gathered

-- a line is kept exactly if it has bytes, none of them zero, and a name
pub kept_so : (line : List ℕ) → verdict_on line ≡ Ok tt → verdicts.Keeps line
kept_so = verdicts.kept_keeps

pub so_kept : (line : List ℕ) → verdicts.Keeps line → verdict_on line ≡ Ok tt
so_kept = verdicts.so_kept

-- whatever is left out, what is gathered is names, each ended by a zero byte
pub all_names_law : (lines : List (List ℕ)) → all_names (entries_of lines) ≡ true
all_names_law = back.entries_names

-- ---- what is said

-- gone through line by line, as the program does, a text has said of it what is said of its lines
pub said_of_all : (text : List ℕ) → said_from (length text) text 1 0 ≡ left_out 1 (lines_in text)
said_of_all = back.said_of_all

-- ---- by computing

-- "PUMP", "caf\233" and a name with 81: three lines, the last of them `refused 19`
pub shown : name_lines (names (80 ∷ 85 ∷ 77 ∷ 80 ∷ 0 ∷ 99 ∷ 97 ∷ 102 ∷ 233 ∷ 0 ∷ 65 ∷ 129 ∷ 0 ∷ []))
    ≡ 80 ∷ 85 ∷ 77 ∷ 80 ∷ 10 ∷ 99 ∷ 97 ∷ 102 ∷ 195 ∷ 169 ∷ 10 ∷ 114 ∷ 101 ∷ 102 ∷ 117 ∷ 115 ∷ 101 ∷ 100 ∷ 32 ∷ 49 ∷ 57 ∷ 10 ∷ []
unfolding name_lines names name_line utf8_of partners point_for point_of points spelled sequence_of refused_line word_field field decimal digits_in
shown = refl

-- "PUMP", an empty line, "\226\130\172", one with a zero byte, one that isn't well formed, and a last one without an end
abbrev TEXT : List ℕ
TEXT = 80 ∷ 85 ∷ 77 ∷ 80 ∷ 10 ∷ 10 ∷ 226 ∷ 130 ∷ 172 ∷ 10 ∷ 65 ∷ 0 ∷ 66 ∷ 10 ∷ 195 ∷ 40 ∷ 10 ∷ 76 ∷ 65 ∷ 77 ∷ 80 ∷ []

pub gathered : entries_of (lines_in TEXT) ≡ 80 ∷ 85 ∷ 77 ∷ 80 ∷ 0 ∷ 128 ∷ 0 ∷ 76 ∷ 65 ∷ 77 ∷ 80 ∷ 0 ∷ []
unfolding entries_of lines_in entry_of verdict_on place name_of is_well_formed rest_of size_of records_of records_in front_of width_at width_by begins sequences
    points_in items_in point_in partners byte_for points
gathered = refl

-- One outcome for each input, of every public function: proofs/One
