-- A write to part k reads back as written and leaves every other part as it was.
-- Assumes nothing.
use mathlib.Core.Path.{◌≡◌, sym, ap, ◌∙◌}
use mathlib.Core.Logic.{◌≢◌, ⊎_elim}
use mathlib.Core.Bool.{true, false}
use mathlib.Core.List.{List, ◌++◌, append_assoc}
use Prim.Native.Nat.{ℕ, ◌+◌, ◌-◌, ◌*◌, ◌≤◌, ◌<◌, min}
use native.Mathlib.Nat.{mul-le-mul_left}
use native.Mathlib.Omega.{arith}
use borrow.Author.Tests.{ltb-true, eqb-true, eq-eqb, lt-ltb}
use borrow.Rule.Slice.PartMut.{put_mid}
use lib.Dec.{ltb, eqb}
use lib.ListN.{length, take, drop, length-append, length-take, length-drop, take-append-drop}
use lib.Seq.{take-append-le, drop-append-le, take_at, drop_at, drop-drop}
use Rattle.paper.specs.Sizes.{PART, PARTS, STORE}
use Rattle.lists.specs.Bytes.{laid, zeros}
use Rattle.lists.proofs.Cases.{both, lt_or_le}
use Rattle.lists.proofs.Laid.{laid_eq, laid_fits, length_laid, length_zeros, take_least, mid_zeros, back, from_to}
use Rattle.store.specs.Parts.{part, with_part, has_part, block_put, part_cleared}

-- part j ends before part k begins
apart : {j k : ℕ} → j < k → PART * j + PART ≤ PART * k
apart h = omega (arith, mul-le-mul_left PART h)

-- a part that is there lies in the store
pub inside : (store : List ℕ) (k : ℕ) → has_part (length store) k ≡ true → PART * k + PART ≤ length store
unfolding has_part STORE
inside store k h =
    let b = both (eqb (length store) STORE) (ltb k PARTS) h in
    omega (arith, eqb-true (length store) STORE b.0, apart (ltb-true k PARTS b.1))

-- the store's size and the place decide
pub there : (store : List ℕ) (k : ℕ) → length store ≡ STORE → k < PARTS → has_part (length store) k ≡ true
unfolding has_part
there store k h l = rw (eq-eqb (length store) STORE h, lt-ltb k PARTS l)

pub length_with : (store : List ℕ) (k : ℕ) (bytes : List ℕ) → length (with_part store k bytes) ≡ length store
unfolding with_part
length_with store k bytes = length_laid store (PART * k) bytes

pub length_part : (store : List ℕ) (k : ℕ) → PART * k + PART ≤ length store → length (part store k) ≡ PART
unfolding part
length_part store k h = simp (length-take, length-drop) (omega arith)

with_eq : (store : List ℕ) (k : ℕ) (bytes : List ℕ) → length bytes ≡ PART → PART * k + PART ≤ length store
    → with_part store k bytes ≡ take (PART * k) store ++ (bytes ++ drop (PART * k + PART) store)
unfolding with_part
with_eq store k bytes e h = rw e at (laid_eq store (PART * k) bytes (omega arith))

-- the part itself is as written
pub part_same : (store : List ℕ) (k : ℕ) (bytes : List ℕ) → length bytes ≡ PART → PART * k + PART ≤ length store
    → part (with_part store k bytes) k ≡ bytes
unfolding part
part_same store k bytes e h =
    let f : length (take (PART * k) store) ≡ PART * k = simp length-take (omega arith) in
    rw (with_eq store k bytes e h, drop_at (take (PART * k) store) _ _ f, take_at bytes _ _ e)

-- a part that lies in a list's front
part_front : (j : ℕ) (a b : List ℕ) → PART * j + PART ≤ length a → part (a ++ b) j ≡ part a j
unfolding part
part_front j a b h = rw (
  drop-append-le (PART * j) a b (omega arith),
  take-append-le PART (drop (PART * j) a) b (simp length-drop (omega arith)),
)

part_before : (store rest : List ℕ) (j n : ℕ) → PART * j + PART ≤ n → n ≤ length store
    → part (take n store ++ rest) j ≡ part store j
part_before store rest j n h l =
    let f : PART * j + PART ≤ length (take n store) = simp length-take (omega arith) in
    part_front j (take n store) rest f ∙ sym (part_front j (take n store) (drop n store) f) ∙ rw take-append-drop

part_behind : (a b : List ℕ) (j n : ℕ) → n ≤ PART * j → drop n a ≡ drop n b → part a j ≡ part b j
unfolding part
part_behind a b j n h e =
    let f : n + (PART * j - n) ≡ PART * j = omega arith in
    rw (← f, ← drop-drop (PART * j - n) n a, ← drop-drop (PART * j - n) n b, e)

-- every other part is as it was
pub part_other : (store : List ℕ) (k j : ℕ) (bytes : List ℕ) → j ≢ k → length bytes ≡ PART
    → PART * k + PART ≤ length store → part (with_part store k bytes) j ≡ part store j
part_other store k j bytes d e h =
    ⊎_elim
    (λ (l : j < k). rw (with_eq store k bytes e h) (part_before store _ j (PART * k) (apart l) (omega arith)))
    (λ (l : k ≤ j). part_behind _ store j (PART * k + PART) (apart (omega arith)) behind)
    (lt_or_le j k)
  where
    behind : drop (PART * k + PART) (with_part store k bytes) ≡ drop (PART * k + PART) store
    behind = rw (with_eq store k bytes e h, ← append_assoc)
        (drop_at (take (PART * k) store ++ bytes) _ (PART * k + PART)
        (simp (length-append, length-take) (omega arith)))

-- a part written with its own bytes
pub with_own : (store : List ℕ) (k : ℕ) → PART * k + PART ≤ length store → with_part store k (part store k) ≡ store
unfolding part
with_own store k h =
    let l = length_part store k h in
    with_eq store k (part store k) l h ∙ rw (← drop-drop PART (PART * k) store, take-append-drop PART, take-append-drop)

-- every part of a store of zeros
pub zeros_part : (k : ℕ) → k < PARTS → part (zeros STORE) k ≡ zeros PART
unfolding part STORE
zeros_part k l = mid_zeros (PART * k) PART STORE (omega (arith, apart l))

-- ---- the two writes

pub put_there : (store : List ℕ) (k at : ℕ) (block : List ℕ) → has_part (length store) k ≡ true
    → block_put store k at block ≡ with_part store k (laid (part store k) at block)
unfolding block_put
put_there store k at block h = rw h

pub cleared_there : (store : List ℕ) (k : ℕ) → has_part (length store) k ≡ true
    → part_cleared store k ≡ with_part store k (zeros PART)
unfolding part_cleared
cleared_there store k h = rw h

pub put_nowhere : (store : List ℕ) (k at : ℕ) (block : List ℕ) → has_part (length store) k ≡ false
    → block_put store k at block ≡ store
unfolding block_put
put_nowhere store k at block h = rw h

pub cleared_nowhere : (store : List ℕ) (k : ℕ) → has_part (length store) k ≡ false → part_cleared store k ≡ store
unfolding part_cleared
cleared_nowhere store k h = rw h

-- ---- a part that is lent, and that has come back

pub lent : (store : List ℕ) (k : ℕ) → take (PART * k + PART - PART * k) (drop (PART * k) store) ≡ part store k
unfolding part
lent store k = from_to store (PART * k) PART

pub come_back : (store : List ℕ) (k : ℕ) (bytes : List ℕ) → PART * k + PART ≤ length store → length bytes ≡ PART
    → put_mid (PART * k) (PART * k + PART - PART * k) store bytes ≡ with_part store k bytes
unfolding with_part
come_back store k bytes h e = back store (PART * k) (PART * k + PART) bytes (omega arith) h (omega arith)

pub put_back :
    (store : List ℕ) (k at : ℕ) (block filled : List ℕ) → has_part (length store) k ≡ true
    → filled ≡ laid (take (PART * k + PART - PART * k) (drop (PART * k) store)) at block
    → put_mid (PART * k) (PART * k + PART - PART * k) store filled ≡ block_put store k at block
put_back store k at block filled h e =
    let fits = inside store k h in
    let new : filled ≡ laid (part store k) at block = e ∙ rw (lent store k) in
    let long : length filled ≡ PART = rw new (length_laid (part store k) at block ∙ length_part store k fits) in
    come_back store k filled fits long ∙ rw new (sym (put_there store k at block h))

pub cleared_back :
    (store : List ℕ) (k : ℕ) (cleared : List ℕ) → has_part (length store) k ≡ true
    → cleared ≡ zeros (length (take (PART * k + PART - PART * k) (drop (PART * k) store)))
    → put_mid (PART * k) (PART * k + PART - PART * k) store cleared ≡ part_cleared store k
cleared_back store k cleared h e =
    let fits = inside store k h in
    let new : cleared ≡ zeros PART = e ∙ rw (lent store k, length_part store k fits) in
    come_back store k cleared fits (rw new (length_zeros PART)) ∙ rw new (sym (cleared_there store k h))

-- what the two writes rest on
pub ruleset putting = (inside, lent, length_part, put_nowhere, put_back)

pub ruleset clearing = (inside, cleared_nowhere, cleared_back)

-- ---- a block that goes by way of an array: as much of it as the part has room for

pub filled :
    (part block : List ℕ) (at n : ℕ) → at ≤ length part → n ≡ min (length block) (length part - at)
    → put_mid at (at + n - at) part (take n block) ≡ laid part at block
filled part block at n h e =
    let size : length (take n block) ≡ at + n - at = simp length-take (omega arith) in
    let all : take n block ≡ take (length part - at) block = rw (← (take_least (length part - at) block)) (ap (λ (k : ℕ). take k block) (omega arith)) in
    back part at (at + n) (take n block) (omega arith) (omega arith) size ∙ rw all (laid_fits part at block)
