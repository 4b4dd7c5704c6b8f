-- The lines of the report: four numbers for a set, and behind them the sums or the refusal.
use Rattle.std.specs.Prelude.{ℕ, ◌+◌, ◌*◌, List, [], ◌∷◌, ◌++◌, Result, Err, Ok}
use Rattle.paper.specs.declared.Refusal.{Refusal}
use Rattle.paper.specs.Refusals.{refusal_number}
use Rattle.lines.specs.Decimal.{FIELD_MAX, field}
use Rattle.lines.specs.Lines.{SPACE, LF, refused_line}
use Rattle.charges.specs.declared.Shares.{Shares}
use Rattle.planning.specs.declared.Sums.{Sums}

-- the most bytes of a line of four numbers
abbrev pub FOUR_MAX : ℕ
FOUR_MAX = 4 * FIELD_MAX

-- `a b c d`
unfoldable pub four_line : ℕ → ℕ → ℕ → ℕ → List ℕ
four_line a b c d = ((field a SPACE ++ field b SPACE) ++ field c SPACE) ++ field d LF

-- "each set's shares"
unfoldable pub shares_line : Shares → List ℕ
shares_line s = four_line s.class0 s.class1 s.class2 s.class3

-- "sums "
abbrev pub SUMS : List ℕ
SUMS = 115 ∷ 117 ∷ 109 ∷ 115 ∷ 32 ∷ []

-- the most bytes of the last line
abbrev pub LAST_MAX : ℕ
LAST_MAX = 5 + FOUR_MAX

-- "then each class's exact sum", or a refusal "in place of the sums"
unfoldable pub last_line : Result Sums Refusal → List ℕ
last_line (Ok sums) = SUMS ++ four_line sums.class0 sums.class1 sums.class2 sums.class3
last_line (Err why) = refused_line (refusal_number why)
