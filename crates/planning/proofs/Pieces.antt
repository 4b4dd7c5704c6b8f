-- However a file is cut into reads, what is printed is its report.
-- Assumes nothing.
use Rattle.std.proofs.Common.{◌≡◌, ℕ, ◌+◌, ◌*◌, ◌/◌, ◌%◌, ◌<◌, ◌≤◌, min, true, false, not, ◌||◌, eqb, ltb, List, [], ◌∷◌, ◌++◌, length, take, sym, refl, ap, ◌∙◌, ⊎_elim, append_assoc, append-nil, arith, length-drop, take_all, ltb-true, le-ltb, lt-ltb}
use Rattle.std.specs.Prelude.{Err}
use mathlib.Core.Bool.{or-true, or-false}
use lib.ListN.{length-map}
use Rattle.paper.specs.Sizes.{SETS_MAX}
use Rattle.paper.specs.declared.Refusal.TheVariants.{NotSets}
use Rattle.lists.proofs.Cases.{choice, lt_or_le}
use Rattle.records.specs.Walks.{records_of, size_of, rest_of}
use Rattle.records.specs.Items.{items_in, after_items, all_of}
use Rattle.records.proofs.Framings.{records_none, records_first}
use Rattle.records.proofs.Rests.{by_records, size_none, size_first, size_within, rest_none, rest_has_none, rest_more}
use Rattle.records.proofs.Items.{over_both, items_more}
use Rattle.planning.specs.declared.Course.{Course}
use Rattle.planning.specs.Sets.{SET, set_extent, charges_in, sets_of}
use Rattle.planning.specs.Report.{sums_of, is_refused, last_of, report}
use Rattle.planning.specs.Course.{run_of, run_after, start_course, is_over, ending_of, end_line, printed}
use Rattle.planning.proofs.Sets.{set_framing, short, long, none_short}
use Rattle.planning.proofs.Runs.{from, behind, stays_over, from_start}

-- ---- in pieces

-- all that is printed for an input at once
abbrev whole : Course → List ℕ → List ℕ
whole c input = (from c (sets_of input)).text ++ end_line (from c (sets_of input)).course (rest_of set_extent input)

-- what a piece prints, and then what is printed for what it left, with more behind
more_behind : (c : Course) (input more : List ℕ)
    → whole c (input ++ more) ≡ (from c (sets_of input)).text ++ whole (from c (sets_of input)).course (rest_of set_extent input ++ more)
more_behind c input more =
    let here = from c (sets_of input) in
    let rest = sets_of (rest_of set_extent input ++ more) in
    rw (
      items_more set_framing charges_in more input,
      rest_more set_framing more input,
      over_both run_after (run_of c []) (sets_of input) rest,
      behind here.course here.text rest,
    ) (append_assoc here.text (from here.course rest).text _)

-- once there are too many sets, no more is printed but the refusal
over_refused : (c : Course) (left : ℕ) → SETS_MAX < c.sets → ending_of c left ≡ Err NotSets
unfolding ending_of is_over
over_refused c left over = rw (lt-ltb SETS_MAX c.sets over)

over_ends : (c : Course) (left input : List ℕ) → is_over c ≡ true → whole c input ≡ end_line c left
unfolding is_over
over_ends c left input is =
    let over = ltb-true SETS_MAX c.sets is in
    let later = stays_over c (sets_of input) over in
    rw (later.0, over_refused c (length left) over, over_refused (from c (sets_of input)).course (length (rest_of set_extent input)) later.1) refl

-- fewer bytes than a set
few : (c : Course) (left : List ℕ) → set_extent left ≡ 0 → whole c left ≡ end_line c left
unfolding items_in after_items
few c left none = rw (records_none set_extent left none, rest_none set_extent left none) refl

in_pieces : (c : Course) (left : List ℕ) (pieces : List (List ℕ)) → set_extent left ≡ 0 → printed c left pieces ≡ whole c (left ++ all_of pieces)
unfolding printed all_of
in_pieces c left [] none = rw (append-nil left) (sym (few c left none))
in_pieces c left (piece ∷ pieces) none =
    let input = left ++ piece in
    let next = (from c (sets_of input)).course in
    let rest = rest_of set_extent input in
    let later = in_pieces next rest pieces (rest_has_none set_framing input) in
    rw (sym (append_assoc left piece (all_of pieces)), more_behind c input (all_of pieces))
    (ap (λ (text : List ℕ). (from c (sets_of input)).text ++ text)
    (choice (λ (text : List ℕ). text ≡ whole next (rest ++ all_of pieces)) (is_over next)
    (λ over. sym (over_ends next rest (rest ++ all_of pieces) over))
    (λ on. later)))

-- ---- the report

-- sets have eight bytes each
pub size_sets : (input : List ℕ) → size_of (records_of set_extent input) ≡ SET * length (records_of set_extent input)
size_sets =
    by_records set_framing (λ input. size_of (records_of set_extent input) ≡ SET * length (records_of set_extent input))
    (λ input no. rw (size_none set_extent input no, records_none set_extent input no) refl)
    (λ input one later.
    let is : set_extent input ≡ SET = eight input one in
    rw (size_first set_framing input one, records_first set_framing input one) (omega (arith, later, is)))
  where
    eight : (input : List ℕ) → 0 < set_extent input → set_extent input ≡ SET
    eight input one =
        ⊎_elim (λ (h : length input < SET). absurd (omega (arith, one, short input h))) (λ (h : SET ≤ length input). long input h)
        (lt_or_le (length input) SET)

-- behind whole sets fewer than eight bytes are left
pub left_over : (file : List ℕ) → (length file ≡ SET * length (records_of set_extent file) + length (rest_of set_extent file)) × (length (rest_of set_extent file) < SET)
unfolding rest_of
left_over file =
    let size = size_of (records_of set_extent file) in (
      omega (arith, length-drop size file, size_sets file, size_within set_framing file),
      none_short (rest_of set_extent file) (rest_has_none set_framing file),
    )

length_rest : (file : List ℕ) → length (rest_of set_extent file) ≡ length file % SET
length_rest file = omega (arith, left_over file)

-- a file has as many sets as eights of bytes
pub count_sets : (file : List ℕ) → length (sets_of file) ≡ length file / SET
unfolding items_in
count_sets file = length-map (records_of set_extent file) charges_in ∙ omega (arith, left_over file)

-- which files are refused, by their length alone
pub refused_when : (file : List ℕ) → is_refused file ≡ (not (eqb (length file % SET) 0) || ltb SETS_MAX (length file / SET))
unfolding is_refused
refused_when file = rw (count_sets file) refl

-- what the report ends with
ends_so : (file : List ℕ)
    → ending_of (record { sets = min (length (sets_of file)) (SETS_MAX + 1); sums = sums_of (take SETS_MAX (sets_of file)) }) (length (rest_of set_extent file))
    ≡ last_of file
unfolding ending_of is_over last_of is_refused
ends_so file =
    let sets = sets_of file in
    ⊎_elim
    (λ (over : SETS_MAX < length sets).
    let is : ltb SETS_MAX (min (length sets) (SETS_MAX + 1)) ≡ true = lt-ltb SETS_MAX (min (length sets) (SETS_MAX + 1)) (omega arith) in
    rw (is, lt-ltb SETS_MAX (length sets) over, or-true (not (eqb (length file % SET) 0))) refl)
    (λ (within : length sets ≤ SETS_MAX).
    let is : ltb SETS_MAX (min (length sets) (SETS_MAX + 1)) ≡ false = le-ltb SETS_MAX (min (length sets) (SETS_MAX + 1)) (omega arith) in
    rw (is, le-ltb SETS_MAX (length sets) within, or-false (not (eqb (length file % SET) 0)), length_rest file, take_all SETS_MAX sets within) refl)
    (lt_or_le SETS_MAX (length sets))

at_once : (file : List ℕ) → whole start_course file ≡ report file
unfolding report
at_once file = rw (from_start (sets_of file), ends_so file) refl

-- ---- the two together

pub however_cut : (pieces : List (List ℕ)) → printed start_course [] pieces ≡ report (all_of pieces)
however_cut pieces = in_pieces start_course [] pieces (omega (arith, set_framing.fits [])) ∙ at_once (all_of pieces)
