-- The bytes of a message in the store.
-- Assumes nothing.
use mathlib.Core.Path.{◌≡◌, sym}
use mathlib.Core.Logic.{⊎_elim}
use mathlib.Core.List.{List, []}
use Prim.Native.Nat.{ℕ, ◌+◌, ◌-◌, ◌*◌, ◌/◌, ◌≤◌, ◌<◌, min}
use native.Mathlib.Omega.{arith}
use lib.ListN.{length, take, drop, length-drop, length-take, drop_of_length-le}
use lib.Seq.{take-take, take_all, take-nil}
use Rattle.paper.specs.Sizes.{PART}
use Rattle.lists.proofs.Cases.{lt_or_le}
use Rattle.lists.proofs.Laid.{take_least}
use Rattle.lists.proofs.Lent.{drop_least}
use Rattle.store.specs.Parts.{part}

-- the first bytes of a front
take_front : (n m : ℕ) (l : List ℕ) → take (min n m) l ≡ take n (take m l)
take_front n m l =
    ⊎_elim
    (λ (k : n < m). let e : min n m ≡ n = omega arith in rw e (sym (take-take n m l (omega arith))))
    (λ (k : m ≤ n). let e : min n m ≡ m = omega arith in rw e (sym (take_all n (take m l) (omega (arith, length-take m l)))))
    (lt_or_le n m)

-- the bytes of a message, lent from the store: at most a part, and at most what the store has
pub message_lent : (store : List ℕ) (k n start end : ℕ) → start ≡ min (PART * k) (length store) → end ≡ start + min (min n PART) (length store - start)
    → take (end - start) (drop start store) ≡ take n (part store k)
unfolding part
message_lent store k n start end from to =
    let here = drop_least (PART * k) store in
    let l = drop (PART * k) store in
    let long : length store - start ≡ length l = simp length-drop (omega arith) in
    let size : end - start ≡ min (min n PART) (length l) = omega arith in
    rw (size, from, here, take_least (min n PART) l) (take_front n PART l)

-- a part that the store doesn't have
pub no_part : (store : List ℕ) (k n : ℕ) → length store / PART < k → take n (part store k) ≡ []
unfolding part PART
no_part store k n h =
    rw (drop_of_length-le store {i = 4096 * k} (omega arith), take-nil 4096) (take-nil n)
