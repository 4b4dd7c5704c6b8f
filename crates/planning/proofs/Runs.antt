-- A report on its way: what it prints stands behind what it printed, behind the limit nothing moves, and within it every set has its line
-- and is added.
-- Assumes nothing.
use Rattle.std.proofs.Common.{◌≡◌, ℕ, suc, ◌+◌, ◌-◌, ◌*◌, ◌<◌, ◌≤◌, min, List, [], ◌∷◌, ◌++◌, length, take, sym, refl, ap, ◌∙◌, ⊎_elim, append_assoc, append-nil, mod-eq_of_lt, zero-add, arith, le-ltb, lt-ltb}
use lib.Seq.{take-nil}
use Rattle.paper.specs.Sizes.{SETS_MAX}
use Rattle.lists.proofs.Cases.{lt_or_le}
use Rattle.reading.specs.declared.Charges.{Charges}
use Rattle.charges.specs.declared.Shares.{Shares}
use Rattle.charges.specs.Formula.{WHOLE, shares_of}
use Rattle.charges.proofs.Laws.{at_most}
use Rattle.records.specs.Items.{after_items}
use Rattle.planning.specs.declared.Sums.{Sums}
use Rattle.planning.specs.declared.Course.{Course}
use Rattle.planning.specs.Report.{lines_of, plus, no_sums, sums_of}
use Rattle.planning.specs.Course.{KEPT, added, course_after, line_for, Run, run_of, run_after, start_course}
use Rattle.planning.proofs.Sets.{sets_max}

-- where sets lead from a course, with nothing printed yet
abbrev pub from : Course → List Charges → Run
from c sets = after_items run_after (run_of c []) sets

-- ---- behind what is printed

pub behind : (c : Course) (text : List ℕ) (sets : List Charges)
    → after_items run_after (run_of c text) sets ≡ run_of (from c sets).course (text ++ (from c sets).text)
unfolding after_items run_after
behind c text [] = ap (run_of c) (sym (append-nil text))
behind c text (set ∷ sets) =
    let next = course_after c set in
    let line = line_for c set in
    rw (behind next (text ++ line) sets, behind next line sets, append_assoc text line (from next sets).text) refl

-- the first set, and the others
first : (c : Course) (set : Charges) (sets : List Charges)
    → from c (set ∷ sets) ≡ run_of (from (course_after c set) sets).course (line_for c set ++ (from (course_after c set) sets).text)
unfolding after_items run_after
first c set sets = behind (course_after c set) (line_for c set) sets

-- ---- behind the limit

module _ (c : Course) (over : SETS_MAX ≤ c.sets) (set : Charges) where
  too_many : course_after c set ≡ record { sets = SETS_MAX + 1; sums = c.sums }
  unfolding course_after
  too_many = rw (le-ltb c.sets SETS_MAX over)

  no_line : line_for c set ≡ []
  unfolding line_for
  no_line = rw (le-ltb c.sets SETS_MAX over)

-- nothing is printed, and it stays over
pub stays_over : (c : Course) (sets : List Charges) → SETS_MAX < c.sets → ((from c sets).text ≡ []) × (SETS_MAX < (from c sets).course.sets)
unfolding after_items
stays_over c [] over = (refl, over)
stays_over c (set ∷ sets) over =
    let within : SETS_MAX ≤ c.sets = omega arith in
    let later = stays_over (record { sets = SETS_MAX + 1; sums = c.sums }) sets (omega arith) in
    rw (first c set sets, too_many c within set, no_line c within set) later

-- nothing moves any more
stands : (sums : Sums) (sets : List Charges)
    → from (record { sets = SETS_MAX + 1; sums = sums }) sets ≡ run_of (record { sets = SETS_MAX + 1; sums = sums }) []
unfolding after_items
stands sums [] = refl
stands sums (set ∷ sets) =
    let c : Course = record { sets = SETS_MAX + 1; sums = sums } in
    rw (first c set sets, too_many c (omega arith) set, no_line c (omega arith) set, stands sums sets) refl

-- ---- within it

abbrev both : Sums → Sums → Sums
both s t =
    record {
      class0 = s.class0 + t.class0;
      class1 = s.class1 + t.class1;
      class2 = s.class2 + t.class2;
      class3 = s.class3 + t.class3;
    }

-- sums of so many sets
abbrev Small : Sums → ℕ → Type 0
Small s n = ((s.class0 ≤ WHOLE * n) × (s.class1 ≤ WHOLE * n)) × ((s.class2 ≤ WHOLE * n) × (s.class3 ≤ WHOLE * n))

-- nothing wraps
exact : (s : Sums) (set : Charges) (n : ℕ) → n < SETS_MAX → Small s n → added s (shares_of set) ≡ plus s (shares_of set)
unfolding added
exact s set n h small =
    let most = at_most set in
    rw (
      mod-eq_of_lt {n = s.class0 + (shares_of set).class0} {m = KEPT} (omega (arith, most, small.0.0, sets_max)),
      mod-eq_of_lt {n = s.class1 + (shares_of set).class1} {m = KEPT} (omega (arith, most, small.0.1, sets_max)),
      mod-eq_of_lt {n = s.class2 + (shares_of set).class2} {m = KEPT} (omega (arith, most, small.1.0, sets_max)),
      mod-eq_of_lt {n = s.class3 + (shares_of set).class3} {m = KEPT} (omega (arith, most, small.1.1, sets_max)),
    )

smaller : (s : Sums) (set : Charges) (n : ℕ) → Small s n → Small (plus s (shares_of set)) (n + 1)
smaller s set n small =
    let most = at_most set in (
      (omega (arith, most, small.0.0), omega (arith, most, small.0.1)),
      (omega (arith, most, small.1.0), omega (arith, most, small.1.1)),
    )

-- what is added to the first sums may as well be added to the second
moved : (s t : Sums) (x : Shares) → both (plus s x) t ≡ both s (plus t x)
moved s t x =
    let e0 : s.class0 + x.class0 + t.class0 ≡ s.class0 + (t.class0 + x.class0) = omega arith in
    let e1 : s.class1 + x.class1 + t.class1 ≡ s.class1 + (t.class1 + x.class1) = omega arith in
    let e2 : s.class2 + x.class2 + t.class2 ≡ s.class2 + (t.class2 + x.class2) = omega arith in
    let e3 : s.class3 + x.class3 + t.class3 ≡ s.class3 + (t.class3 + x.class3) = omega arith in
    rw (e0, e1, e2, e3) refl

with_none : (s : Sums) → s ≡ both s (sums_of [])
unfolding sums_of
with_none s =
    let e0 : s.class0 + 0 ≡ s.class0 = omega arith in
    let e1 : s.class1 + 0 ≡ s.class1 = omega arith in
    let e2 : s.class2 + 0 ≡ s.class2 = omega arith in
    let e3 : s.class3 + 0 ≡ s.class3 = omega arith in
    rw (e0, e1, e2, e3) refl

-- what sets come to behind so many that are within the limit
abbrev Comes : ℕ → Sums → List Charges → Run
Comes n s sets =
    run_of (record { sets = min (n + length sets) (SETS_MAX + 1); sums = both s (sums_of (take (SETS_MAX - n) sets)) })
    (lines_of (take (SETS_MAX - n) sets))

-- one more within the limit
one_more : (n : ℕ) (s : Sums) (set : Charges) (sets : List Charges) → n < SETS_MAX → Small s n
    → from (record { sets = n + 1; sums = plus s (shares_of set) }) sets ≡ Comes (n + 1) (plus s (shares_of set)) sets
    → from (record { sets = n; sums = s }) (set ∷ sets) ≡ Comes n s (set ∷ sets)
unfolding course_after line_for lines_of sums_of
one_more n s set sets h small later =
    let c : Course = record { sets = n; sums = s } in
    let here : SETS_MAX - n ≡ suc (SETS_MAX - (n + 1)) = omega arith in
    let count : n + 1 + length sets ≡ n + suc (length sets) = omega arith in
    rw (
      first c set sets,
      lt-ltb n SETS_MAX h,
      exact s set n h small,
      later,
      here,
      count,
      moved s (sums_of (take (SETS_MAX - (n + 1)) sets)) (shares_of set),
    ) refl

-- one more behind it
one_over : (n : ℕ) (s : Sums) (set : Charges) (sets : List Charges) → n ≡ SETS_MAX
    → from (record { sets = n; sums = s }) (set ∷ sets) ≡ Comes n s (set ∷ sets)
unfolding lines_of sums_of
one_over n s set sets e =
    let c : Course = record { sets = n; sums = s } in
    let here : SETS_MAX - n ≡ 0 = omega arith in
    let count : min (n + suc (length sets)) (SETS_MAX + 1) ≡ SETS_MAX + 1 = omega arith in
    rw (first c set sets, too_many c (omega arith) set, no_line c (omega arith) set, stands s sets, here, count) (nothing s)
  where
    nothing : (s : Sums) → run_of (record { sets = SETS_MAX + 1; sums = s }) [] ≡ run_of (record { sets = SETS_MAX + 1; sums = both s (sums_of []) }) []
    nothing s = ap (λ (t : Sums). run_of (record { sets = SETS_MAX + 1; sums = t }) []) (with_none s)

-- the sets of a file
comes : (sets : List Charges) (n : ℕ) (s : Sums) → n ≤ SETS_MAX → Small s n → from (record { sets = n; sums = s }) sets ≡ Comes n s sets
unfolding after_items lines_of
comes [] n s h small =
    let count : min (n + 0) (SETS_MAX + 1) ≡ n = omega arith in
    rw (take-nil {A = Charges} (SETS_MAX - n), count) (ap (λ (t : Sums). run_of (record { sets = n; sums = t }) []) (with_none s))
comes (set ∷ sets) n s h small =
    ⊎_elim
    (λ (within : n < SETS_MAX). one_more n s set sets within small (comes sets (n + 1) (plus s (shares_of set)) (omega arith) (smaller s set n small)))
    (λ (full : SETS_MAX ≤ n). one_over n s set sets (omega arith))
    (lt_or_le n SETS_MAX)

-- from the start: the sets within the limit have their lines and are added
pub from_start : (sets : List Charges)
    → from start_course sets
    ≡ run_of (record { sets = min (length sets) (SETS_MAX + 1); sums = sums_of (take SETS_MAX sets) }) (lines_of (take SETS_MAX sets))
unfolding start_course
from_start sets =
    let all : SETS_MAX - 0 ≡ SETS_MAX = omega arith in
    let small : Small no_sums 0 = ((omega arith, omega arith), (omega arith, omega arith)) in
    let t = sums_of (take SETS_MAX sets) in
    comes sets 0 no_sums (omega arith) small
    ∙ rw (all, zero-add (length sets), zero-add t.class0, zero-add t.class1, zero-add t.class2, zero-add t.class3) refl
