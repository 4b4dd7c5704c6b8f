-- The report on its way: set by set, and over a file in pieces, as reads give it.
use Rattle.std.specs.Prelude.{ℕ, ◌+◌, ◌*◌, ◌%◌, ◌^◌, Bool, cond, not, ◌||◌, List, [], ◌∷◌, ◌++◌, length, ◌==◌, nat_lt, Result, Err, Ok}
use Rattle.paper.specs.Sizes.{SETS_MAX}
use Rattle.paper.specs.declared.Refusal.{Refusal}
use Rattle.paper.specs.declared.Refusal.TheVariants.{NotSets}
use Rattle.reading.specs.declared.Charges.{Charges}
use Rattle.records.specs.Items.{Stood, stood_by}
use Rattle.charges.specs.declared.Shares.{Shares}
use Rattle.charges.specs.Formula.{shares_of}
use Rattle.planning.specs.declared.Sums.{Sums}
use Rattle.planning.specs.declared.Course.{Course}
use Rattle.planning.specs.declared.Stand.{Stand}
use Rattle.planning.specs.Sets.{set_extent, charges_in}
use Rattle.planning.specs.Lines.{FOUR_MAX, shares_line, last_line}
use Rattle.planning.specs.Report.{no_sums}

-- ---- set by set

-- sums are kept in 64 bits, which no report uses up
abbrev pub KEPT : ℕ
KEPT = 2 ^ 64

unfoldable pub added : Sums → Shares → Sums
added sums s =
    record {
      class0 = (sums.class0 + s.class0) % KEPT;
      class1 = (sums.class1 + s.class1) % KEPT;
      class2 = (sums.class2 + s.class2) % KEPT;
      class3 = (sums.class3 + s.class3) % KEPT;
    }

-- with one set more: within the limit it is added, and behind it there are too many
unfoldable pub course_after : Course → Charges → Course
course_after c set =
    cond (nat_lt c.sets SETS_MAX) (record { sets = c.sets + 1; sums = added c.sums (shares_of set) })
    (record { sets = SETS_MAX + 1; sums = c.sums })

-- its line: behind the limit it has none
unfoldable pub line_for : Course → Charges → List ℕ
line_for c set = cond (nat_lt c.sets SETS_MAX) (shares_line (shares_of set)) []

-- the most bytes that all lines have
abbrev pub TEXT_MAX : ℕ
TEXT_MAX = FOUR_MAX * (SETS_MAX + 1)

-- where a report has come: its course, and what is printed
pub record Run : Type 0 where
  pub course : Course
  pub text : List ℕ

abbrev pub run_of : Course → List ℕ → Run
run_of course text = record { course = course; text = text }

unfoldable pub run_after : Run → Charges → Run
run_after r set = run_of (course_after r.course set) (r.text ++ line_for r.course set)

-- ---- in pieces

unfoldable pub start_course : Course
start_course = record { sets = 0; sums = no_sums }

-- where it stands after the whole sets of what is there, with what is printed for them: the rest is left
abbrev pub turned_to : Course → List ℕ → Stood Run
turned_to c input = stood_by set_extent charges_in run_after (run_of c []) input

abbrev pub stand_of : Stood Run → Stand
stand_of at = record { course = at.kept.course; had = length at.left; laid = length at.kept.text }

-- more than a file may have: no more is read
unfoldable pub is_over : Course → Bool
is_over c = nat_lt SETS_MAX c.sets

-- what it ends with, where so many bytes are left
unfoldable pub ending_of : Course → ℕ → Result Sums Refusal
ending_of c left = cond (is_over c || not (left == 0)) (Err NotSets) (Ok c.sums)

abbrev pub end_line : Course → List ℕ → List ℕ
end_line c left = last_line (ending_of c (length left))

-- all that is printed, read by read
unfoldable pub printed : Course → List ℕ → List (List ℕ) → List ℕ
printed c left [] = end_line c left
printed c left (piece ∷ pieces) =
    (turned_to c (left ++ piece)).kept.text
    ++ cond (is_over (turned_to c (left ++ piece)).kept.course)
    (end_line (turned_to c (left ++ piece)).kept.course (turned_to c (left ++ piece)).left)
    (printed (turned_to c (left ++ piece)).kept.course (turned_to c (left ++ piece)).left pieces)
