-- The page of the planner's report: what is printed for a file.
-- Assumes nothing.
use Rattle.std.proofs.Common.{◌≡◌, ℕ, ◌/◌, ◌%◌, not, ◌||◌, eqb, ltb, List, [], ◌∷◌, ◌++◌, length, refl}
use Rattle.paper.specs.Sizes.{SETS_MAX}
use Rattle.numbers.specs.Numbers.{little, value_of, value_at}
use Rattle.lines.specs.Decimal.{digits_in, decimal, field}
use Rattle.lines.specs.Lines.{word_field, refused_line}
use Rattle.charges.specs.Formula.{product, but_one, non_zero, share_of, shares_of}
use Rattle.records.specs.Walks.{front_of, records_in, records_of}
use Rattle.records.specs.Items.{items_in, all_of}
use Rattle.planning.specs.Sets.{SET, set_extent, charges_in, sets_of}
use Rattle.planning.specs.Lines.{four_line, shares_line, last_line}
use Rattle.planning.specs.Report.{lines_of, sums_of, is_refused, last_of, report}
use Rattle.planning.specs.Course.{start_course, printed}
use Rattle.planning.proofs.Pieces as pieces

-- However the file is cut into reads, what is printed read by read is the file's report: a line for each set within the limit, then each
-- class's exact sum, or 17 in place of the sums.
pub however_cut : (reads : List (List ℕ)) → printed start_course [] reads ≡ report (all_of reads)
however_cut = pieces.however_cut

-- A file has as many sets as its bytes have eights, and 17 comes by its length alone.
pub count_sets : (file : List ℕ) → length (sets_of file) ≡ length file / SET
count_sets = pieces.count_sets

pub refused_when : (file : List ℕ) → is_refused file ≡ (not (eqb (length file % SET) 0) || ltb SETS_MAX (length file / SET))
refused_when = pieces.refused_when

-- ---- by computing

-- the protocol's example: charges 936, 3276, 9362 and 21845
abbrev EXAMPLE : List ℕ
EXAMPLE = 168 ∷ 3 ∷ 204 ∷ 12 ∷ 146 ∷ 36 ∷ 85 ∷ 85 ∷ []

-- "7000 2000 699 299"
abbrev SHARES : List ℕ
SHARES = 55 ∷ 48 ∷ 48 ∷ 48 ∷ 32 ∷ 50 ∷ 48 ∷ 48 ∷ 48 ∷ 32 ∷ 54 ∷ 57 ∷ 57 ∷ 32 ∷ 50 ∷ 57 ∷ 57 ∷ 10 ∷ []

-- "sums 0 0 0 0"
pub empty_file : report [] ≡ 115 ∷ 117 ∷ 109 ∷ 115 ∷ 32 ∷ 48 ∷ 32 ∷ 48 ∷ 32 ∷ 48 ∷ 32 ∷ 48 ∷ 10 ∷ []
unfolding report lines_of items_in records_of records_in set_extent last_of is_refused sums_of last_line four_line field decimal digits_in SETS_MAX
empty_file = refl

-- a set, its shares, and "sums " before the same
pub one_set : report EXAMPLE ≡ SHARES ++ (115 ∷ 117 ∷ 109 ∷ 115 ∷ 32 ∷ SHARES)
unfolding report lines_of items_in records_of records_in front_of set_extent charges_in value_at value_of little last_of is_refused sums_of last_line
    shares_line four_line field decimal digits_in shares_of share_of product but_one non_zero SETS_MAX
one_set = refl

-- with one byte more "refused 17" stands in place of the sums
pub one_byte_more : report (EXAMPLE ++ (0 ∷ [])) ≡ SHARES ++ (114 ∷ 101 ∷ 102 ∷ 117 ∷ 115 ∷ 101 ∷ 100 ∷ 32 ∷ 49 ∷ 55 ∷ 10 ∷ [])
unfolding report lines_of items_in records_of records_in front_of set_extent charges_in value_at value_of little last_of is_refused sums_of last_line
    refused_line shares_line four_line field decimal digits_in word_field shares_of share_of product but_one non_zero SETS_MAX
one_byte_more = refl

-- One outcome for each input, of every public function: proofs/OneOutcome
