-- A conversion into the part of a buffer from a place on, and a byte behind what it writes.
-- Assumes nothing.
use Rattle.std.specs.Prelude.{Option, None, Some, Result, Ok, Err}
use mathlib.Core.Path.{◌≡◌, refl, sym, ◌∙◌}
use mathlib.Core.List.{List, [], ◌∷◌, ◌++◌}
use Prim.Native.Nat.{ℕ, ◌+◌, ◌-◌, ◌≤◌}
use native.Mathlib.Omega.{arith}
use borrow.Rule.Slice.PartMut.{put_mid}
use lib.ListN.{length, take, drop, set, length-drop}
use lib.Seq.{length-take-le}
use Rattle.paper.specs.declared.Refusal.{Refusal}
use Rattle.lists.specs.Bytes.{laid}
use Rattle.lists.proofs.Laid.{back_end, laid_behind}
use Rattle.codepage.specs.Names.{result_of, answer_for, buffer_for}
use Rattle.codepage.proofs.Answers.{refused_none, refused_leaves, length_laid_so}

-- bytes and one behind them
pub byte_behind : (out : List ℕ) (at : ℕ) (text : List ℕ) (n b : ℕ) → n ≡ length text → set (laid out at text) (at + n) b ≡ laid out at (text ++ (b ∷ []))
unfolding laid
byte_behind out at text n b e = rw e (laid_behind out at text (b ∷ []))

module _ (r : Option (List ℕ)) (out : List ℕ) (at : ℕ) (there : at ≤ length out) where
  -- the part that is lent
  abbrev part : List ℕ
  part = take (length out - at) (drop at out)

  part_long : length part ≡ length out - at
  part_long = length-take-le (length out - at) (drop at out) (rw length-drop (omega arith))

  -- what was lent comes back as it was
  nothing_laid : put_mid at (length out - at) out part ≡ out
  unfolding laid
  nothing_laid = back_end out at part [] there refl

  module _ (answer : Result ℕ Refusal) (after : List ℕ) (said : answer ≡ answer_for r part) (left : after ≡ buffer_for r part) where
    -- with room it is refused only where there is no result, and the buffer stays
    pub refused_so : (why : Refusal) → answer ≡ Err why → length (result_of r) ≤ length out - at
        → (r ≡ None) × (put_mid at (length out - at) out after ≡ out)
    refused_so why e room =
        let is = sym said ∙ e in
        (refused_none r part why is (rw part_long room), rw (left, refused_leaves r part why is) nothing_laid)

    -- a length is that of the result, which stands in the buffer from the place on
    pub written_so : (n : ℕ) → answer ≡ Ok n
        → (r ≡ Some (result_of r))
        × ((n ≡ length (result_of r)) × ((at + n ≤ length out) × (put_mid at (length out - at) out after ≡ laid out at (result_of r))))
    written_so n e =
        let so = length_laid_so r part n (sym said ∙ e) in (
          so.has_result,
          (so.its_length, (omega (arith, so.its_length, so.fits, part_long), back_end out at after (result_of r) there (left ∙ so.buffer))),
        )
