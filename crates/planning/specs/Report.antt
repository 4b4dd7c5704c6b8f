-- "A report program reads a file of eight-byte sets and prints each set's shares, then each class's exact sum. Refusals: 17, length not a
-- multiple of eight or more than 65,536 sets, printed after the whole sets up to there and in place of the sums."
use Rattle.std.specs.Prelude.{ℕ, ◌+◌, ◌%◌, Bool, cond, not, ◌||◌, List, [], ◌∷◌, ◌++◌, length, take, ◌==◌, nat_lt, Result, Err, Ok}
use Rattle.paper.specs.Sizes.{SETS_MAX}
use Rattle.paper.specs.declared.Refusal.{Refusal}
use Rattle.paper.specs.declared.Refusal.TheVariants.{NotSets}
use Rattle.reading.specs.declared.Charges.{Charges}
use Rattle.charges.specs.declared.Shares.{Shares}
use Rattle.charges.specs.Formula.{shares_of}
use Rattle.planning.specs.declared.Sums.{Sums}
use Rattle.planning.specs.Sets.{SET, sets_of}
use Rattle.planning.specs.Lines.{shares_line, last_line}

-- "each set's shares"
unfoldable pub lines_of : List Charges → List ℕ
lines_of [] = []
lines_of (set ∷ sets) = shares_line (shares_of set) ++ lines_of sets

-- "each class's exact sum": of the ten-thousandths that are printed
abbrev pub plus : Sums → Shares → Sums
plus sums s =
    record {
      class0 = sums.class0 + s.class0;
      class1 = sums.class1 + s.class1;
      class2 = sums.class2 + s.class2;
      class3 = sums.class3 + s.class3;
    }

abbrev pub no_sums : Sums
no_sums = record { class0 = 0; class1 = 0; class2 = 0; class3 = 0 }

unfoldable pub sums_of : List Charges → Sums
sums_of [] = no_sums
sums_of (set ∷ sets) = plus (sums_of sets) (shares_of set)

-- "length not a multiple of eight or more than 65,536 sets"
unfoldable pub is_refused : List ℕ → Bool
is_refused file = not (length file % SET == 0) || nat_lt SETS_MAX (length (sets_of file))

unfoldable pub last_of : List ℕ → Result Sums Refusal
last_of file = cond (is_refused file) (Err NotSets) (Ok (sums_of (sets_of file)))

-- "printed after the whole sets up to there and in place of the sums"
unfoldable pub report : List ℕ → List ℕ
report file = lines_of (take SETS_MAX (sets_of file)) ++ last_line (last_of file)
