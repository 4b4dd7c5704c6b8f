-- What the page promises.
-- Assumes nothing.
use Rattle.std.specs.Prelude.{Option, None, Some, option_map, is_some, Result, Ok, Err}
use mathlib.Core.Path.{◌≡◌, refl, sym, ◌∙◌}
use mathlib.Core.Bool.{Bool, true, false, cond, not, ◌||◌}
use mathlib.Core.List.{List, [], ◌∷◌, append-nil}
use Prim.Native.Nat.{ℕ, ◌≤◌}
use native.Mathlib.Nat.{zero-add}
use native.Mathlib.Omega.{arith}
use borrow.Author.Tests.{le-ltb}
use lib.Dec.{ltb}
use lib.ListN.{length, take, drop}
use lib.Seq.{drop_at}
use Rattle.lists.proofs.Laid.{laid_eq, front, length_laid}
use Rattle.paper.specs.Rows.{fine, refused_with, first_held, comes_to}
use Rattle.paper.specs.declared.Refusal.TheVariants.{NoRoom}
use Rattle.paper.specs.declared.Refusal.{Refusal}
use Rattle.codepage.specs.Points.{is_five, point_of, point_for}
use Rattle.codepage.specs.Utf8.{IsScalar, sequence_of, spelled, Spells, nothing, one_more}
use Rattle.codepage.specs.Names.{with_first, partners, utf8_of, result_of, answer_for, buffer_for, number_for}
use Rattle.codepage.specs.Promises.{WellFormed, has_five, Bytes, converting_rows, outcome, answer_in}
use Rattle.codepage.proofs.Points.{none_at_five}
use Rattle.codepage.proofs.Answers.{length_laid_so}
use Rattle.codepage.proofs.Bits.{scalar_spelled}
use Rattle.codepage.proofs.Grammar.{spelled_read}
use Rattle.codepage.proofs.Names.{spells_spelled, utf8_same}

-- ---- the standard

-- every scalar value has its sequence
pub every_scalar : (p : ℕ) → IsScalar p → Spells (p ∷ []) (sequence_of p)
every_scalar p s =
    let one = scalar_spelled p s in
    rw (one.point, append-nil (sequence_of p)) at (one_more one.row (sequence_of p) [] [] one.of_table one.within nothing)

-- no two texts spell the same code points, and no text spells two
pub one_spelling : (points text text' : List ℕ) → Spells points text → Spells points text' → text ≡ text'
one_spelling points text text' s s' = sym (spells_spelled points text s) ∙ spells_spelled points text' s'

pub one_reading : (points points' text : List ℕ) → Spells points text → Spells points' text → points ≡ points'
one_reading points points' text s s' = sym (spelled_read points text s).0 ∙ (spelled_read points' text s').0

pub well_formed : (name text : List ℕ) → utf8_of name ≡ Some text → WellFormed text
well_formed name text e =
    let same = utf8_same name text e in
    record { points = same.points; spell = same.spell }

-- ---- 19 for a name: one of the five

five_points : (name : List ℕ) → Bytes name → is_some (partners point_for name) ≡ not (has_five name)
unfolding partners has_five point_for
five_points [] bytes = refl
five_points (b ∷ name) bytes = rw (none_at_five b bytes.0) (go (is_five b) (partners point_for name) (has_five name) (five_points name bytes.1))
  where
    go : (t : Bool) (r : Option (List ℕ)) (rest : Bool) → is_some r ≡ not rest
        → is_some (with_first (cond t None (Some (point_of b))) r) ≡ not (t || rest)
    go true r rest same = refl
    go false None rest same = same
    go false (Some points) rest same = same

pub by_the_five : (name : List ℕ) → Bytes name → is_some (utf8_of name) ≡ not (has_five name)
unfolding utf8_of
by_the_five name bytes = go (partners point_for name) ∙ five_points name bytes
  where
    go : (r : Option (List ℕ)) → is_some (option_map spelled r) ≡ is_some r
    go None = refl
    go (Some points) = refl

-- ---- what a call answers and leaves

pub first_row : (r : Option (List ℕ)) (out : List ℕ) → outcome (answer_for r out) ≡ comes_to (length (result_of r)) (first_held (converting_rows r out))
unfolding outcome answer_for comes_to first_held converting_rows
first_row None out = refl
first_row (Some result) out = go (ltb (length out) (length result))
  where
    go : (t : Bool)
        → outcome (cond t (Err NoRoom) (Ok (length result))) ≡ comes_to (length result) (cond t (refused_with NoRoom) fine)
    go true = refl
    go false = refl

-- a length is that of the result, which stands at the front, and the bytes behind it stay
pub record Written (r : Option (List ℕ)) (out : List ℕ) (n : ℕ) : Type 0 where
  pub result : List ℕ
  pub is_result : r ≡ Some result
  pub its_length : n ≡ length result
  pub at_front : take n (buffer_for r out) ≡ result
  pub behind_stays : drop n (buffer_for r out) ≡ drop n out
  pub as_long : length (buffer_for r out) ≡ length out

pub length_written : (r : Option (List ℕ)) (out : List ℕ) (n : ℕ) → answer_for r out ≡ Ok n → Written r out n
length_written r out n e =
    let so = length_laid_so r out n e in
    let result = result_of r in
    let whole = so.buffer ∙ rw zero-add at (laid_eq out 0 result (omega (arith, so.fits))) in
    record {
      result = result;
      is_result = so.has_result;
      its_length = so.its_length;
      at_front = rw (so.buffer, so.its_length) (front out result so.fits);
      behind_stays = rw (whole, so.its_length) (drop_at result (drop (length result) out) (length result) refl);
      as_long = rw so.buffer (length_laid out 0 result);
    }

-- what a call wrote is well formed
pub written_formed : (name out after : List ℕ) (n : ℕ) → answer_for (utf8_of name) out ≡ Ok n → after ≡ buffer_for (utf8_of name) out
    → WellFormed (take n after)
written_formed name out after n is left =
    let did = length_written (utf8_of name) out n is in
    rw (left, did.at_front) (well_formed name did.result did.is_result)

-- ---- through both functions

-- where one conversion undoes the other, what the first call wrote is by the second call what the first was given
pub back_again :
    (f g : List ℕ → Option (List ℕ)) → ((x y : List ℕ) → f x ≡ Some y → g y ≡ Some x) → (x out after : List ℕ) (n : ℕ) (r : Result ℕ Refusal)
    → r ≡ answer_for (f x) out → after ≡ buffer_for (f x) out → r ≡ Ok n → (y out' after' : List ℕ) (r' : Result ℕ Refusal) → y ≡ take n after
    → r' ≡ answer_for (g y) out' → after' ≡ buffer_for (g y) out' → length x ≤ length out'
    → (r' ≡ Ok (length x)) × (take (length x) after' ≡ x)
unfolding answer_for buffer_for
back_again f g back x out after n r e h is y out' after' r' given e' h' room =
    let did = length_written (f x) out n (sym e ∙ is) in
    let text : y ≡ did.result = given ∙ rw h did.at_front in
    let name : g y ≡ Some x = rw text (back x did.result did.is_result) in
    let fits = le-ltb (length out') (length x) room in
    (rw (e', name, fits), rw (h', name, fits) (front out' x room))

-- ---- from C

pub number_undone : (r : Option (List ℕ)) (out : List ℕ) → answer_in (number_for (answer_for r out)) ≡ answer_for r out
unfolding answer_in number_for answer_for
number_undone None out = refl
number_undone (Some result) out = go (ltb (length out) (length result))
  where
    go : (t : Bool) → answer_in (number_for (cond t (Err NoRoom) (Ok (length result)))) ≡ cond t (Err NoRoom) (Ok (length result))
    go true = refl
    go false = refl
