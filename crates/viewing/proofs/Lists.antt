-- A good list: how long it is, and what is shown of none.
-- Assumes nothing.
use mathlib.Core.Path.{◌≡◌, refl}
use mathlib.Core.Bool.{true}
use mathlib.Core.List.{List, [], ◌∷◌}
use Prim.Native.Nat.{ℕ, ◌*◌, ◌≤◌}
use native.Mathlib.Omega.{arith}
use borrow.Author.Tests.{leb-true}
use lib.Dec.{leb, eqb}
use lib.Pointwise.{pointwise}
use lib.ListN.{length}
use Rattle.paper.specs.Sizes.{LIST_MAX}
use Rattle.lists.proofs.Cases.{both}
use Rattle.listeners.specs.Listeners.{names, all_names, good_list, same_bytes}
use Rattle.viewing.specs.Lists.{LINES_MAX, name_lines}

-- six bytes of lines for each byte of the list are no more than the most
pub short_names : (list : List ℕ) → good_list list ≡ true → (6 * length list ≤ LINES_MAX) × (all_names list ≡ true)
unfolding good_list LINES_MAX
short_names list good =
    let t = both (leb (length list) LIST_MAX) (all_names list) good in
    (omega (arith, leb-true (length list) LIST_MAX t.0), t.1)

pub no_names : name_lines (names []) ≡ []
unfolding names name_lines
no_names = refl

-- the library's test of equal bytes
pub same_pointwise : (a b : List ℕ) → pointwise eqb a b ≡ same_bytes a b
unfolding same_bytes
same_pointwise [] [] = refl
same_pointwise [] (y ∷ b) = refl
same_pointwise (x ∷ a) [] = refl
same_pointwise (x ∷ a) (y ∷ b) = rw (same_pointwise a b)
