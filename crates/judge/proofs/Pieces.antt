-- A run is the same however its input is cut into reads, and what is said at its end is the program's line.
-- Assumes nothing.
use Rattle.std.proofs.Common.{◌≡◌, ℕ, ◌-◌, ◌<◌, ◌≤◌, ltb, List, [], ◌++◌, length, take, drop, refl, ap, ⊎_elim, append-nil, arith, length-append, length-drop, drop_of_length-le, take_all, take_at, drop_at, le-ltb}
use lib.Seq.{drop-append-le, take-append-le}
use Rattle.lists.proofs.Cases.{choice, lt_or_le}
use Rattle.numbers.specs.Numbers.{value_at}
use Rattle.records.specs.Items.{all_of}
use Rattle.records.specs.Records.{pdu_in}
use Rattle.records.proofs.Records.{whole_framing}
use Rattle.records.proofs.Items.{however_cut}
use Rattle.records.proofs.Pdus.{none_at_first}
use Rattle.judge.specs.Judge.{beginning, course_after}
use Rattle.judge.specs.Sender.{NUMBER, HEAD, head_needs, number_in, message_in}
use Rattle.judge.specs.Sender.{stand_of, turned, sender_says, in_pieces, said_at_end}

-- ---- a run

-- however the input is cut into reads, the run stands where one turn over all of it would
pub stands : (n : ℕ) (message : List ℕ) (pieces : List (List ℕ)) → in_pieces n message pieces ≡ turned n message beginning (all_of pieces)
unfolding in_pieces turned
stands n message pieces = ap stand_of (however_cut whole_framing pdu_in (course_after n message) beginning [] pieces none_at_first)

-- ---- the program's line

needs_head : (head : List ℕ) → HEAD ≤ head_needs head
unfolding head_needs
needs_head head = choice (λ (k : ℕ). HEAD ≤ k) (ltb (length head) HEAD) (λ e. omega arith) (λ e. omega arith)

-- more behind number and length leaves what they need
needs_more : (head more : List ℕ) → HEAD ≤ length head → head_needs (head ++ more) ≡ head_needs head
unfolding head_needs value_at
needs_more head more h =
    let long : HEAD ≤ length (head ++ more) = rw length-append (omega arith) in
    let there : HEAD - NUMBER ≤ length (drop NUMBER head) = rw length-drop (omega arith) in
    rw (
      le-ltb (length (head ++ more)) HEAD long,
      le-ltb (length head) HEAD h,
      drop-append-le NUMBER head more (omega arith),
      take-append-le (HEAD - NUMBER) (drop NUMBER head) more there,
    ) refl

-- what was read first is the head of all that was read
head_is : (head more : List ℕ) → length head ≤ head_needs head → (length head < head_needs head → more ≡ [])
    → (take (head_needs (head ++ more)) (head ++ more) ≡ head) × (drop (head_needs (head ++ more)) (head ++ more) ≡ more)
head_is head more within short =
    ⊎_elim
    (λ (cut : length head < head_needs head).
    rw (short cut, append-nil head) (take_all (head_needs head) head within, drop_of_length-le head {i = head_needs head} within))
    (λ (whole : head_needs head ≤ length head).
    let is : head_needs head ≡ length head = omega arith in
    rw (needs_more head more (omega (arith, needs_head head)), is) (take_at head more (length head) refl, drop_at head more (length head) refl))
    (lt_or_le (length head) (head_needs head))

-- what is said at the end of a run is the line for all that was read
pub says_for_all : (head : List ℕ) (pieces : List (List ℕ)) → length head ≤ head_needs head
    → (length head < head_needs head → all_of pieces ≡ []) → said_at_end head pieces ≡ sender_says (head ++ all_of pieces)
unfolding said_at_end sender_says
says_for_all head pieces within short =
    let is = head_is head (all_of pieces) within short in
    rw (is.0, is.1, stands (number_in head) (message_in head) pieces) refl
