-- A file gone through line by line: which line isn't as it should be, and what differs so far.
-- Assumes nothing.
use mathlib.Core.Path.{◌≡◌, refl, sym, ap, ◌∙◌}
use mathlib.Core.Bool.{Bool, true, false, cond, not, ◌&&◌}
use mathlib.Core.List.{List, [], ◌∷◌, ◌++◌, append_assoc, append-nil}
use Prim.Native.Nat.{ℕ, suc, ◌+◌, ◌*◌, ◌≤◌, ◌<◌}
use native.Mathlib.Numerals.{add-one}
use native.Mathlib.Omega.{arith}
use borrow.Author.Tests.{lt-ltb, le-ltb, ltb-true, eq-eqb, ne_eqb, eqb-true}
use lib.Dec.{ltb, eqb}
use Rattle.std.specs.Prelude.{Option, None, Some, is_some}
use lib.ListN.{length, length-append}
use Rattle.lists.specs.Bytes.{laid}
use Rattle.lists.specs.Lines.{lines_in, first_line, behind_line}
use Rattle.lists.proofs.Cases.{both}
use Rattle.lists.proofs.Laid.{laid_next, length_laid}
use Rattle.lists.proofs.Cuts.{lines_first}
use Rattle.codepage.specs.Points.{BYTES}
use Rattle.published.specs.Claims.{claim_in}
use Rattle.published.specs.Comparing.{wrong_from, DIFFERENCE_MAX, difference_of, differences_from, AGREE, text_of}

-- ---- the lines behind a place

pub empty : (text : List ℕ) → length text ≡ 0 → text ≡ []
empty [] e = refl
empty (b ∷ text) e = absurd (omega arith)

pub no_some : {A : Type 0} (r : Option A) (t : Bool) → is_some r ≡ not t → t ≡ true → is_some r ≡ false
no_some r t e is = rw is at e

pub a_some : {A : Type 0} (r : Option A) (t : Bool) → is_some r ≡ not t → t ≡ false → is_some r ≡ true
a_some r t e is = rw is at e

pub no_lines : lines_in [] ≡ []
unfolding lines_in
no_lines = refl

-- ---- which is wrong

pub missing : (k : ℕ) → k < BYTES → wrong_from k [] ≡ Some (k + 1)
unfolding wrong_from
missing k h = rw (ne_eqb k BYTES (λ e. omega arith))

pub complete : (k : ℕ) → k ≡ BYTES → wrong_from k [] ≡ None
unfolding wrong_from
complete k e = rw (eq-eqb k BYTES e)

pub one_more : (k : ℕ) (line : List ℕ) (lines : List (List ℕ)) → k < BYTES → is_some (claim_in k line) ≡ true
    → wrong_from k (line ∷ lines) ≡ wrong_from (k + 1) lines
unfolding wrong_from
one_more k line lines h is = rw (lt-ltb k BYTES h, is, add-one k)

pub not_such : (k : ℕ) (line : List ℕ) (lines : List (List ℕ)) → k < BYTES → is_some (claim_in k line) ≡ false → wrong_from k (line ∷ lines) ≡ Some (k + 1)
unfolding wrong_from
not_such k line lines h off = rw (lt-ltb k BYTES h, off)

pub too_many : (k : ℕ) (line : List ℕ) (lines : List (List ℕ)) → BYTES ≤ k → wrong_from k (line ∷ lines) ≡ Some (k + 1)
unfolding wrong_from
too_many k line lines h = rw (le-ltb k BYTES h)

-- where none is, no line is missing, and the next is of a byte, and as it should be
pub none_missing : (k : ℕ) → wrong_from k [] ≡ None → k ≡ BYTES
unfolding wrong_from
none_missing k e = go (eqb k BYTES) refl e
  where
    go : (t : Bool) → eqb k BYTES ≡ t → cond t None (Some (k + 1)) ≡ None → k ≡ BYTES
    go true is e = eqb-true k BYTES is
    go false off e = cc

pub none_wrong : (k : ℕ) (line : List ℕ) (lines : List (List ℕ)) → wrong_from k (line ∷ lines) ≡ None
    → (k < BYTES) × ((is_some (claim_in k line) ≡ true) × (wrong_from (suc k) lines ≡ None))
unfolding wrong_from
none_wrong k line lines e = go (ltb k BYTES && is_some (claim_in k line)) refl e
  where
    go : (t : Bool) → (ltb k BYTES && is_some (claim_in k line)) ≡ t → cond t (wrong_from (suc k) lines) (Some (k + 1)) ≡ None
        → (k < BYTES) × ((is_some (claim_in k line) ≡ true) × (wrong_from (suc k) lines ≡ None))
    go true is e = let h = both (ltb k BYTES) (is_some (claim_in k line)) is in (ltb-true k BYTES h.0, (h.1, e))
    go false is e = cc

pub within_bytes : (k : ℕ) (lines : List (List ℕ)) → wrong_from k lines ≡ None → k ≤ BYTES
within_bytes k [] e = omega (arith, none_missing k e)
within_bytes k (line ∷ lines) e = omega (arith, (none_wrong k line lines e).0)

-- so a line is left for each byte, and no other
pub line_left : (k : ℕ) (rest : List ℕ) → wrong_from k (lines_in rest) ≡ None → k < BYTES → 0 < length rest
line_left k [] good h = absurd (omega (arith, none_missing k (rw no_lines at good)))
line_left k (b ∷ rest) good h = omega arith

pub none_left : (k : ℕ) (rest : List ℕ) → wrong_from k (lines_in rest) ≡ None → BYTES ≤ k → rest ≡ []
none_left k [] good h = refl
none_left k (b ∷ rest) good h =
    absurd (omega (arith, (none_wrong k _ _ (sym (ap (wrong_from k) (lines_first (b ∷ rest) (omega arith))) ∙ good)).0))

-- ---- what differs

-- at the line of the k-th byte: what is laid so far, and what is left, make the whole
pub record On (file out₀ out rest : List ℕ) (k used : ℕ) : Type 0 where
  pub done : List ℕ
  pub leads : differences_from 0 (lines_in file) ≡ done ++ differences_from k (lines_in rest)
  pub so_far : out ≡ laid out₀ 0 done
  pub used_is : used ≡ length done
  pub few : used ≤ DIFFERENCE_MAX * k
  pub good : wrong_from k (lines_in rest) ≡ None

pub on_first : (file out : List ℕ) → wrong_from 0 (lines_in file) ≡ None → On file out out file 0 0
unfolding laid
on_first file out good = record { done = []; leads = refl; so_far = refl; used_is = refl; few = omega arith; good = good }

module _ (file out₀ out rest : List ℕ) (k used : ℕ) (on : On file out₀ out rest k used) where
  pub on_long : length out ≡ length out₀
  on_long = ap length on.so_far ∙ length_laid out₀ 0 on.done

  -- no more lines than bytes
  pub on_bytes : k ≤ BYTES
  on_bytes = within_bytes k (lines_in rest) on.good

  pub on_end : BYTES ≤ k → differences_from 0 (lines_in file) ≡ on.done
  unfolding differences_from
  on_end all = on.leads ∙ rw (none_left k rest on.good all, no_lines, append-nil on.done)

  -- while bytes are left, a line is, and those behind it are as they should be
  module _ (due : k < BYTES) where
    there : 0 < length rest
    there = line_left k rest on.good due

    line_good : (k < BYTES) × (wrong_from (k + 1) (lines_in (behind_line rest)) ≡ None)
    line_good =
        let h = none_wrong k _ _ (sym (ap (wrong_from k) (lines_first rest there)) ∙ on.good) in
        (h.0, rw (add-one k) h.1.1)

    pub on_next : (claim : Option (Option ℕ)) (out' : List ℕ) (m : ℕ) → claim ≡ claim_in k (first_line rest) → m ≡ length (difference_of k claim)
        → m ≤ DIFFERENCE_MAX → out' ≡ laid out used (difference_of k claim) → On file out₀ out' (behind_line rest) (k + 1) (used + m)
    unfolding differences_from
    on_next claim out' m is long short left =
        let piece = difference_of k claim in
        let one : differences_from k (lines_in rest) ≡ piece ++ differences_from (k + 1) (lines_in (behind_line rest)) =
        ap (differences_from k) (lines_first rest there) ∙ rw (is, add-one k) in
        record {
          done = on.done ++ piece;
          leads = on.leads ∙ rw (one, append_assoc on.done piece (differences_from (k + 1) (lines_in (behind_line rest))));
          so_far = laid_next out₀ out out' on.done piece used on.used_is on.so_far left;
          used_is = omega (arith, on.used_is, long, length-append on.done piece);
          few = omega (arith, on.few, short);
          good = line_good.1;
        }

-- ---- what is printed

pub all_agree : (lines : List (List ℕ)) → length (differences_from 0 lines) ≡ 0 → text_of lines ≡ AGREE
unfolding text_of
all_agree lines e = rw (eq-eqb (length (differences_from 0 lines)) 0 e)

pub some_differ : (lines : List (List ℕ)) → (length (differences_from 0 lines) ≡ 0 → ⊥) → text_of lines ≡ differences_from 0 lines
unfolding text_of
some_differ lines off = rw (ne_eqb (length (differences_from 0 lines)) 0 off)

-- nothing laid
pub none_laid : (out bs : List ℕ) → length bs ≡ 0 → laid out 0 bs ≡ out
unfolding laid
none_laid out [] e = refl
none_laid out (b ∷ bs) e = absurd (omega arith)
