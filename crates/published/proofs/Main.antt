-- The page of the comparison: what is promised of a file that is compared with our table.
-- Assumes nothing.
use mathlib.Core.Path.{◌≡◌, refl}
use mathlib.Core.List.{List, [], ◌∷◌}
use Prim.Native.Nat.{ℕ, ◌+◌, ◌≤◌}
use Rattle.std.specs.Prelude.{None, Some}
use lib.ListN.{length, take}
use Rattle.lists.specs.Lines.{lines_in}
use Rattle.listeners.specs.Listeners.{same_bytes}
use Rattle.lines.specs.Hex.{hex_digit, hex_byte}
use Rattle.codepage.specs.Points.{BYTES, points, point_of}
use Rattle.published.specs.Claims.{digit_in, pair_in, four_in, claim_behind, claim_in}
use Rattle.published.specs.Comparing.{wrong_from, FILE_MAX, point_text, our_text, their_text, difference_of, AGREE, text_of, compared_for, compared_in}
use Rattle.published.specs.Promises.{table_in, our_table}
use Rattle.published.proofs.Tables as tables
use Rattle.published.proofs.Lengths as lengths

-- ---- `256 agree`

-- of 256 lines that are as they should be it is printed exactly if the table they tell is ours, byte by byte
pub only_ours : (file : List ℕ) → wrong_from 0 (lines_in file) ≡ None → text_of (lines_in file) ≡ AGREE → table_in 0 (lines_in file) ≡ our_table 0 BYTES
only_ours file = tables.only_ours (lines_in file)

pub for_ours : (file : List ℕ) → wrong_from 0 (lines_in file) ≡ None → table_in 0 (lines_in file) ≡ our_table 0 BYTES → text_of (lines_in file) ≡ AGREE
for_ours file = tables.for_ours (lines_in file)

-- ---- other files

-- what has more bytes than the most isn't as it should be
pub file_short : (file : List ℕ) → wrong_from 0 (lines_in file) ≡ None → length file ≤ FILE_MAX
file_short = lengths.file_short

-- so the program reads one byte more than the most, and no more: what comes of these, and what is left in the buffer, is what does of all
pub front_enough : (file out : List ℕ)
    → (compared_for (take (FILE_MAX + 1) file) out ≡ compared_for file out) × (compared_in (take (FILE_MAX + 1) file) out ≡ compared_in file out)
front_enough = lengths.front_enough

-- ---- by computing

-- `80 20AC`, `80 20ac` and `81 undefined`; not `81 20AC` for byte 80
pub claims : (claim_in 0x80 (56 ∷ 48 ∷ 32 ∷ 50 ∷ 48 ∷ 65 ∷ 67 ∷ []) ≡ Some (Some 0x20AC))
    × ((claim_in 0x80 (56 ∷ 48 ∷ 32 ∷ 50 ∷ 48 ∷ 97 ∷ 99 ∷ []) ≡ Some (Some 0x20AC))
    × ((claim_in 0x81 (56 ∷ 49 ∷ 32 ∷ 117 ∷ 110 ∷ 100 ∷ 101 ∷ 102 ∷ 105 ∷ 110 ∷ 101 ∷ 100 ∷ []) ≡ Some None)
    × (claim_in 0x80 (56 ∷ 49 ∷ 32 ∷ 50 ∷ 48 ∷ 65 ∷ 67 ∷ []) ≡ None)))
unfolding claim_in claim_behind same_bytes four_in pair_in digit_in
claims = (refl, (refl, (refl, refl)))

-- where the file has a control for 81, as WHATWG's table does, and where it has FFFF: `81 ours - published 0081`, `81 ours - published ffff`
pub told : (difference_of 0x81 (Some (Some 0x81))
    ≡ 56 ∷ 49 ∷ 32 ∷ 111 ∷ 117 ∷ 114 ∷ 115 ∷ 32 ∷ 45 ∷ 32 ∷ 112 ∷ 117 ∷ 98 ∷ 108 ∷ 105 ∷ 115 ∷ 104 ∷ 101 ∷ 100 ∷ 32 ∷ 48 ∷ 48 ∷ 56 ∷ 49 ∷ 10 ∷ [])
    × (difference_of 0x81 (Some (Some 0xFFFF))
    ≡ 56 ∷ 49 ∷ 32 ∷ 111 ∷ 117 ∷ 114 ∷ 115 ∷ 32 ∷ 45 ∷ 32 ∷ 112 ∷ 117 ∷ 98 ∷ 108 ∷ 105 ∷ 115 ∷ 104 ∷ 101 ∷ 100 ∷ 32 ∷ 102 ∷ 102 ∷ 102 ∷ 102 ∷ 10 ∷ [])
unfolding difference_of our_text their_text point_text hex_byte hex_digit point_of points
told = (refl, refl)

-- One outcome for each input, of every public function: proofs/One
