-- The laws of bytes laid over a list.
-- Assumes nothing.
use mathlib.Core.Path.{◌≡◌, refl, ◌∙◌}
use mathlib.Core.List.{List, [], ◌∷◌, ◌++◌, append_assoc, append-nil}
use Prim.Native.Nat.{ℕ, zero, suc, ◌+◌, ◌-◌, ◌≤◌, ◌<◌, min}
use native.Mathlib.Nat.{add-sub_cancel_left}
use native.Mathlib.Numerals.{add-one}
use native.Mathlib.Omega.{arith}
use lib.ListN.{length, take, drop, get_or, set, length-set, length-drop, length-replicate, drop_of_length-le}
use lib.Seq.{sets-eq, length-sets, set_out, drop-cons, take_at, take_all, drop-drop}
use mathlib.Core.Logic.{⊎_elim}
use borrow.Rule.Slice.PartMut.{put_mid}
use Rattle.lists.proofs.Cases.{lt_or_le}
use Rattle.lists.specs.Bytes.{laid, zeros}

pub length_laid : (l : List ℕ) (at : ℕ) (bs : List ℕ) → length (laid l at bs) ≡ length l
unfolding laid
length_laid l at bs = length-sets l at bs

pub laid_none : (l : List ℕ) (at : ℕ) → laid l at [] ≡ l
unfolding laid
laid_none l at = refl

-- laying goes by the list's head
pub laid_on : (x : ℕ) (l : List ℕ) (at : ℕ) (bs : List ℕ) → laid (x ∷ l) (suc at) bs ≡ x ∷ laid l at bs
unfolding laid
laid_on x l at [] = refl
laid_on x l at (b ∷ bs) = laid_on x (set l at b) (suc at) bs

pub laid_head : (x : ℕ) (l : List ℕ) (b : ℕ) (bs : List ℕ) → laid (x ∷ l) 0 (b ∷ bs) ≡ b ∷ laid l 0 bs
unfolding laid
laid_head x l b bs = laid_on b l 0 bs

-- bytes that fit, laid: what stands before, the bytes, what stands behind
pub laid_eq : (l : List ℕ) (at : ℕ) (bs : List ℕ) → at + length bs ≤ length l
    → laid l at bs ≡ take at l ++ (bs ++ drop (at + length bs) l)
unfolding laid
laid_eq l at bs h = sets-eq bs l at h ∙ append_assoc (take at l) bs (drop (at + length bs) l)

-- bytes laid right behind bytes are the two together
pub laid_behind : (l : List ℕ) (at : ℕ) (bs cs : List ℕ)
    → laid (laid l at bs) (at + length bs) cs ≡ laid l at (bs ++ cs)
unfolding laid
laid_behind l at [] cs = let e : at + 0 ≡ at = omega arith in rw e
laid_behind l at (b ∷ bs) cs = let e : at + suc (length bs) ≡ suc at + length bs =
    omega arith in rw e (laid_behind (set l at b) (suc at) bs cs)

-- a buffer written from the front in two steps
pub laid_next : (out mid after bs cs : List ℕ) (at : ℕ) → at ≡ length bs → mid ≡ laid out 0 bs
    → after ≡ laid mid at cs → after ≡ laid out 0 (bs ++ cs)
laid_next out mid after bs cs at e f g =
    let h : at ≡ 0 + length bs = omega arith in
    g ∙ rw (f, h) (laid_behind out 0 bs cs)

-- past the end nothing is laid
pub laid_past : (l : List ℕ) (at : ℕ) (bs : List ℕ) → length l ≤ at → laid l at bs ≡ l
unfolding laid
laid_past l at [] h = refl
laid_past l at (b ∷ bs) h = rw (set_out l at b h) (laid_past l (suc at) bs (omega arith))

-- from whatever place past the end
pub laid_least : (l : List ℕ) (at : ℕ) (bs : List ℕ) → laid l (min at (length l)) bs ≡ laid l at bs
laid_least l at bs =
    ⊎_elim
    (λ (h : at < length l). let e : min at (length l) ≡ at = omega arith in rw e)
    (λ (h : length l ≤ at). rw (laid_past l at bs h) (laid_past l (min at (length l)) bs (omega arith)))
    (lt_or_le at (length l))

-- of bytes that are laid over the end, those past it don't count
pub laid_fits : (l : List ℕ) (at : ℕ) (bs : List ℕ) → laid l at (take (length l - at) bs) ≡ laid l at bs
unfolding laid
laid_fits l at [] = let none : take {A = ℕ} (length l - at) [] ≡ [] = take_all (length l - at) [] (omega arith) in rw none
laid_fits l at (b ∷ bs) =
    ⊎_elim
    (λ (h : at < length l).
    let one : length l - at ≡ suc (length (set l at b) - suc at) = rw (length-set l at b) (omega arith) in
    rw one (laid_fits (set l at b) (suc at) bs))
    (λ (h : length l ≤ at). let none : length l - at ≡ 0 = omega arith in rw (none, laid_past l at (b ∷ bs) h))
    (lt_or_le at (length l))

-- one turn of a copy: the byte at i is laid, and those behind it are still to come
pub laid_turn : (l bs : List ℕ) (i : ℕ) → i < length bs
    → laid (set l i (get_or bs i 0)) (i + 1) (drop (i + 1) bs) ≡ laid l i (drop i bs)
unfolding laid
laid_turn l bs i h = rw (add-one, drop-cons bs i 0 h)

-- a copy that has come to the end of either list
pub laid_end : (l bs : List ℕ) (i : ℕ) → min (length l) (length bs) ≤ i → laid l i (drop i bs) ≡ l
unfolding laid
laid_end l bs i h =
    ⊎_elim
    (λ (k : i < length l). rw (drop_of_length-le bs {i = i} (omega arith)))
    (λ (k : length l ≤ i). laid_past l i (drop i bs) k)
    (lt_or_le i (length l))

-- laid bytes stand at the front
pub front : (l bs : List ℕ) → length bs ≤ length l → take (length bs) (laid l 0 bs) ≡ bs
front l bs h = rw (laid_eq l 0 bs (omega arith)) (take_at bs (drop (0 + length bs) l) (length bs) refl)

-- laid over the end of a list from a place on
pub laid_end_part : (l : List ℕ) (at : ℕ) (bs : List ℕ) → at ≤ length l
    → take at l ++ laid (drop at l) 0 bs ≡ laid l at bs
laid_end_part l zero bs h = refl
laid_end_part [] (suc at) bs h = absurd (omega arith)
laid_end_part (x ∷ l) (suc at) bs h = rw (laid_on x l at bs, laid_end_part l at bs (omega arith))

-- laid over as many bytes, they are all
pub whole : (l bs : List ℕ) → length bs ≡ length l → laid l 0 bs ≡ bs
whole l bs h = rw (laid_eq l 0 bs (omega arith), drop_of_length-le l {i = 0 + length bs} (omega arith)) (append-nil bs)

-- a part that is lent from a place to the end
pub to_end : (l : List ℕ) (at : ℕ) → take (length l - at) (drop at l) ≡ drop at l
to_end l at = take_all (length l - at) (drop at l) (rw length-drop (omega arith))

-- taking at most all there is
pub take_least : (n : ℕ) (l : List ℕ) → take (min n (length l)) l ≡ take n l
take_least zero l = let e : min 0 (length l) ≡ 0 = omega arith in rw e
take_least (suc n) [] = let e : min (suc n) 0 ≡ 0 = omega arith in rw e
take_least (suc n) (x ∷ l) =
    let e : min (suc n) (suc (length l)) ≡ suc (min n (length l)) = omega arith in
    rw (e, take_least n l)

-- a part of n that is lent from a place on
pub from_to : (l : List ℕ) (at n : ℕ) → take (at + n - at) (drop at l) ≡ take n (drop at l)
from_to l at n = rw add-sub_cancel_left

-- a part that was lent from a place to the end, with bytes laid over its front
pub back_end : (l : List ℕ) (at : ℕ) (part bs : List ℕ) → at ≤ length l
    → part ≡ laid (take (length l - at) (drop at l)) 0 bs → put_mid at (length l - at) l part ≡ laid l at bs
back_end l at part bs h e =
    let none : drop (length l - at) (drop at l) ≡ [] =
    drop_of_length-le (drop at l) {i = length l - at} (rw length-drop (omega arith)) in
    rw (e, to_end l at, none, append-nil) (laid_end_part l at bs h)

-- a part that was lent from a up to e and has come back as bytes of its length
pub back : (l : List ℕ) (a e : ℕ) (bs : List ℕ) → a ≤ e → e ≤ length l → length bs ≡ e - a
    → put_mid a (e - a) l bs ≡ laid l a bs
back l a e bs h k n =
    let f : a + length bs ≤ length l = omega arith in
    rw (laid_eq l a bs f, n, drop-drop)

pub length_zeros : (n : ℕ) → length (zeros n) ≡ n
unfolding zeros
length_zeros n = length-replicate n 0

-- a part of zeros
pub mid_zeros : (a n m : ℕ) → a + n ≤ m → take n (drop a (zeros m)) ≡ zeros n
unfolding zeros
mid_zeros zero zero m h = refl
mid_zeros zero (suc n) zero h = absurd (omega arith)
mid_zeros zero (suc n) (suc m) h = rw (mid_zeros zero n m (omega arith))
mid_zeros (suc a) n zero h = absurd (omega arith)
mid_zeros (suc a) n (suc m) h = mid_zeros a n m (omega arith)
