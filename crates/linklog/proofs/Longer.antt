-- Whatever stands in a file, no record that reading gives is longer than a record can be.
-- Assumes nothing.
use mathlib.Core.Path.{◌≡◌, sym, ◌∙◌}
use mathlib.Core.Logic.{⊎_elim}
use mathlib.Core.Bool.{Bool, false}
use mathlib.Core.List.{List, [], ◌∷◌, ◌++◌}
use Prim.Native.Nat.{ℕ, zero, suc, ◌+◌, ◌≤◌, ◌<◌}
use native.Mathlib.Omega.{arith}
use borrow.Author.Tests.{lt-ltb}
use lib.Dec.{lit≤, ltb, eqb}
use lib.ListN.{length, take, drop}
use Rattle.lists.proofs.Cases.{lt_or_le, choice, true_not_false}
use Rattle.records.specs.Records.{LENGTH, announced}
use Rattle.records.specs.Desk.{CLOSE}
use Rattle.records.specs.Walks.{records_of}
use Rattle.records.proofs.Framings.{length_front, records_none, records_first}
use Rattle.records.proofs.Rests.{by_records}
use Rattle.blocks.specs.Block.{BLOCK, NONE, place_in, payload_in, is_good}
use Rattle.linklog.specs.Records.{CUT, RECORD_MAX, logged_whole}
use Rattle.linklog.specs.Reading.{Course, Seeking, Within, Gave, through, entered, taken, read_from, records_read}
use Rattle.linklog.specs.Promises.{NoneLonger}
use Rattle.linklog.proofs.Framing.{log_framing, stray_for, needs_for, whole_for, short_whole, long_whole}

both_short : (rs ss : List (List ℕ)) → NoneLonger rs → NoneLonger ss → NoneLonger (rs ++ ss)
both_short [] ss a b = b
both_short (bytes ∷ rs) ss a b = (a.0, both_short rs ss a.1 b)

-- ---- a record

-- a length that a record has
pub for_short : (a n : ℕ) → whole_for a n ≤ RECORD_MAX
for_short a n =
    choice (λ (x : ℕ). x ≤ RECORD_MAX) (stray_for a) (λ _. lit≤ tt)
    (λ right. choice (λ (x : ℕ). x ≤ RECORD_MAX) (ltb n (needs_for a)) (λ _. lit≤ tt)
    (λ _. choice (λ (x : ℕ). x ≤ RECORD_MAX) (eqb a CLOSE) (λ _. lit≤ tt) (fits right)))
  where
    fits : stray_for a ≡ false → eqb a CLOSE ≡ false → LENGTH + a ≤ RECORD_MAX
    fits right other =
        ⊎_elim
        (λ (long : CUT < a). absurd (true_not_false (sym (rw (lt-ltb CUT a long, other)) ∙ right)))
        (λ (short : a ≤ CUT). omega arith)
        (lt_or_le CUT a)

whole_short : (input : List ℕ) → logged_whole input ≤ RECORD_MAX
whole_short input =
    ⊎_elim
    (λ (short : length input < LENGTH). omega (arith, short_whole input short))
    (λ (long : LENGTH ≤ length input). rw (long_whole input long) (for_short (announced input) (length input)))
    (lt_or_le (length input) LENGTH)

records_short : (input : List ℕ) → NoneLonger (records_of logged_whole input)
records_short =
    by_records log_framing (λ input. NoneLonger (records_of logged_whole input)) (λ input no. rw (records_none logged_whole input no) tt)
    (λ input one later. rw (records_first log_framing input one) (rw (length_front log_framing input) (whole_short input), later))

-- ---- a block, and a file

abbrev Given : Gave → Type 0
Given gave = NoneLonger gave.given

entered_short : (course : Course) (block : List ℕ) → Given (entered course block)
unfolding entered through
entered_short Seeking block =
    choice Given (eqb (place_in block) NONE) (λ _. tt) (λ _. records_short (drop (place_in block) (payload_in block)))
entered_short (Within left) block = records_short (left ++ payload_in block)

taken_short : (last : Bool) (number : ℕ) (course : Course) (block : List ℕ) → Given (taken last number course block)
unfolding taken
taken_short last number course block = choice Given (is_good last number block) (λ _. entered_short course block) (λ _. tt)

read_short : (n number : ℕ) (course : Course) (file : List ℕ) → NoneLonger (read_from n number course file)
unfolding read_from
read_short zero number course file = tt
read_short (suc n) number course file =
    let gave = taken (eqb n 0) number course (take BLOCK file) in
    both_short gave.given (read_from n (suc number) gave.course (drop BLOCK file)) (taken_short (eqb n 0) number course (take BLOCK file))
    (read_short n (suc number) gave.course (drop BLOCK file))

pub never_longer : (file : List ℕ) → NoneLonger (records_read file)
unfolding records_read
never_longer file = read_short _ 0 Seeking file
