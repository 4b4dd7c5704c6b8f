-- Parts of a list, lent from a place on: what the list doesn't have is left out.
-- Assumes nothing.
use mathlib.Core.Path.{◌≡◌, refl, ◌∙◌}
use mathlib.Core.Logic.{⊎_elim}
use mathlib.Core.List.{List, [], ◌∷◌}
use Prim.Native.Nat.{ℕ, zero, suc, ◌+◌, ◌-◌, ◌≤◌, ◌<◌, min}
use native.Mathlib.Omega.{arith}
use lib.ListN.{length, take, drop, get_or, length-drop, drop_of_length-le}
use Rattle.lists.proofs.Cases.{lt_or_le}
use Rattle.lists.proofs.Laid.{take_least, to_end}

-- past the end there is nothing
pub drop_least : (s : ℕ) (l : List ℕ) → drop (min s (length l)) l ≡ drop s l
drop_least s l =
    ⊎_elim
    (λ (k : s < length l). let e : min s (length l) ≡ s = omega arith in rw e)
    (λ (k : length l ≤ s). rw (drop_of_length-le l {i = s} k, drop_of_length-le l {i = min s (length l)} (omega arith)))
    (lt_or_le s (length l))

-- from a place to the end
pub rest_lent : (l : List ℕ) (s at : ℕ) → at ≡ min s (length l) → take (length l - at) (drop at l) ≡ drop s l
rest_lent l s at h = to_end l at ∙ rw h (drop_least s l)

-- some bytes from a place on
pub part_lent : (l : List ℕ) (s n start end : ℕ) → start ≡ min s (length l) → end ≡ min (s + n) (length l)
    → take (end - start) (drop start l) ≡ take n (drop s l)
part_lent l s n start end from to =
    let size : end - start ≡ min n (length (drop s l)) = simp length-drop (omega arith) in
    rw (size, from, drop_least s l) (take_least n (drop s l))

-- as many bytes from a place on as there are
pub size_lent : (l : List ℕ) (s n start end : ℕ) → start ≡ min s (length l) → end ≡ start + min n (length l - start)
    → take (end - start) (drop start l) ≡ take n (drop s l)
size_lent l s n start end from to =
    let size : end - start ≡ min n (length (drop s l)) = simp length-drop (omega arith) in
    rw (size, from, drop_least s l) (take_least n (drop s l))

-- a byte that isn't there
pub none_there : (l : List ℕ) (at : ℕ) → length l ≤ at → 0 ≡ get_or l at 0
none_there [] at h = refl
none_there (b ∷ l) zero h = absurd (omega arith)
none_there (b ∷ l) (suc at) h = none_there l at (omega arith)
