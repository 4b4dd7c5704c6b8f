-- Parts of lists, and bytes laid over a front.
-- Assumes nothing.
use mathlib.Core.Path.{◌≡◌, refl, sym, ap, ◌∙◌}
use mathlib.Core.List.{List, [], ◌∷◌, ◌++◌, append_assoc}
use Prim.Native.Nat.{ℕ, zero, suc, ◌+◌, ◌≤◌}
use native.Mathlib.Omega.{arith}
use lib.ListN.{length, take, drop, length-take, take-append-drop}
use lib.Seq.{take-nil, drop-append-le, length-take-le}
use Rattle.lists.specs.Bytes.{laid}
use Rattle.lists.proofs.Laid.{laid_eq}

-- what is behind a place of a front
pub drop_front : (k n : ℕ) (l : List ℕ) → drop k (take (k + n) l) ≡ take n (drop k l)
drop_front zero n l = let e : 0 + n ≡ n = omega arith in rw e refl
drop_front (suc k) n [] = rw (take-nil (suc k + n)) (sym (take-nil n))
drop_front (suc k) n (x ∷ l) = let e : suc k + n ≡ suc (k + n) = omega arith in rw e (drop_front k n l)

-- bytes laid over a list's front are laid over the list
pub laid_front : (l : List ℕ) (m : ℕ) (bs : List ℕ) → length bs ≤ m → m ≤ length l → laid (take m l) 0 bs ++ drop m l ≡ laid l 0 bs
laid_front l m bs few fits =
    let long = length-take-le m l fits in
    let over : drop (0 + length bs) (take m l) ++ drop m l ≡ drop (0 + length bs) l =
    sym (drop-append-le (0 + length bs) (take m l) (drop m l) (omega (arith, long, few))) ∙ ap (drop (0 + length bs)) (take-append-drop m l) in
    ap (λ (x : List ℕ). x ++ drop m l) (laid_eq (take m l) 0 bs (omega (arith, long, few)))
    ∙ append_assoc bs (drop (0 + length bs) (take m l)) (drop m l)
    ∙ ap (λ (x : List ℕ). bs ++ x) over
    ∙ sym (laid_eq l 0 bs (omega (arith, few, fits)))

-- bytes behind a place of a front, brought to the list's front
pub brought_front : (l : List ℕ) (from n : ℕ) (part : List ℕ) → from + n ≤ length l
    → part ≡ laid (take (from + n) l) 0 (drop from (take (from + n) l)) → part ++ drop (from + n) l ≡ laid l 0 (take n (drop from l))
brought_front l from n part fits e =
    let is : part ≡ laid (take (from + n) l) 0 (take n (drop from l)) = rw (drop_front from n l) at e in
    rw is (laid_front l (from + n) (take n (drop from l)) (rw (length-take n (drop from l)) (omega arith)) fits)
