-- The laws of the starts of blocks.
-- Assumes nothing.
use mathlib.Core.Path.{◌≡◌, refl, sym, ◌∙◌}
use mathlib.Core.Bool.{Bool, true, false, ◌||◌, ◌&&◌, or-true}
use mathlib.Core.Logic.{◌⊎◌, inl, inr, ⊎_elim}
use Prim.Native.Nat.{ℕ, zero, suc, ◌+◌, ◌-◌, ◌≤◌, ◌<◌}
use native.Mathlib.Omega.{arith}
use borrow.Author.Tests.{lt-ltb, le-ltb, eq-eqb, ne_eqb, eqb-true, ltb-true}
use lib.Dec.{eqb, ltb}
use Rattle.paper.specs.Sizes.{WHOLE_MAX}
use Rattle.lists.proofs.Cases.{true_not_false, lt_or_le}
use Rattle.cutting.specs.Cutting.{block_end, meets, is_start}
use Rattle.cutting.proofs.Blocks.{end_after_law, end_from_law, end_within, whole_end}

-- ---- the walk: one look at a time

-- behind the offset it is not met
pub meets_past : (more number total offset at : ℕ) → offset < at → meets more number total offset at ≡ false
unfolding meets
meets_past zero number total offset at h = refl
meets_past (suc more) number total offset at h =
    let k : at ≡ offset → ⊥ = λ e. omega arith in
    let i = meets_past more number total offset (block_end number total at) (omega (arith, end_from_law number total at)) in
    go (ltb (block_end number total at) total) (ne_eqb at offset k) i
  where
    go : (t : Bool) {e r : Bool} → e ≡ false → r ≡ false → (e || (t && r)) ≡ false
    go true p q = simp (p, q)
    go false p q = simp p

-- at the offset it is
pub meets_here : (more number total offset at : ℕ) → at ≡ offset → meets (suc more) number total offset at ≡ true
unfolding meets
meets_here more number total offset at e = simp (eq-eqb at offset e)

-- before it, the walk goes on where the block ends,
pub meets_on : (more number total offset at : ℕ) → at < offset → block_end number total at < total
    → meets (suc more) number total offset at ≡ meets more number total offset (block_end number total at)
unfolding meets
meets_on more number total offset at h l =
    let k : at ≡ offset → ⊥ = λ e. omega arith in
    simp (ne_eqb at offset k, lt-ltb _ _ l)

-- until the length is reached
pub meets_end : (more number total offset at : ℕ) → at < offset
    → total ≤ block_end number total at → meets (suc more) number total offset at ≡ false
unfolding meets
meets_end more number total offset at h l =
    let k : at ≡ offset → ⊥ = λ e. omega arith in
    simp (ne_eqb at offset k, le-ltb _ _ l)

-- ---- the starts as a chain, each where the block before ended

pub data Chain (number total : ℕ) : ℕ → ℕ → Type 0 where
  here : {at : ℕ} → Chain number total at at
  onward : {at offset : ℕ} → block_end number total at < total → Chain number total (block_end number total at) offset
      → Chain number total at offset

chained : (more number total offset at : ℕ) → meets more number total offset at ≡ true → Chain number total at offset
unfolding meets
chained zero number total offset at h = absurd (true_not_false (sym h))
chained (suc more) number total offset at h =
    go (eqb at offset) (ltb (block_end number total at) total) refl refl
    (chained more number total offset (block_end number total at)) h
  where
    go : (s t : Bool) {r : Bool} → eqb at offset ≡ s → ltb (block_end number total at) total ≡ t
        → (r ≡ true → Chain number total (block_end number total at) offset) → (s || (t && r)) ≡ true
        → Chain number total at offset
    go true t e f rest h = rw (eqb-true at offset e) here
    go false true e f rest h = onward (ltb-true _ _ f) (rest h)
    go false false e f rest h = absurd (true_not_false (sym h))

-- and back, where the looks are enough
met : {number total at offset : ℕ} → Chain number total at offset → (more : ℕ) → at ≤ total → total < at + more
    → meets more number total offset at ≡ true
unfolding meets
met chain zero h k = absurd (omega arith)
met {number} {total} {at} here (suc more) h k = simp (eq-eqb at at refl)
met {number} {total} {at} {offset} (onward l chain) (suc more) h k =
    let r = met {at = block_end number total at} chain more (omega arith)
    (omega (arith, end_after_law number total at (omega (arith, end_from_law number total at)))) in
    simp (lt-ltb _ _ l, r) (or-true (eqb at offset))

-- one more at the chain's end
longer : {number total at offset : ℕ} → Chain number total at offset → block_end number total offset < total
    → Chain number total at (block_end number total offset)
longer here l = onward l here
longer (onward k chain) l = onward k (longer chain l)

pub start_chain : (number total offset : ℕ) → is_start number total offset ≡ true → Chain number total 0 offset
unfolding is_start
start_chain number total offset h = chained (suc total) number total offset 0 h

pub chain_start : (number total offset : ℕ) → Chain number total 0 offset → is_start number total offset ≡ true
unfolding is_start
chain_start number total offset chain = met chain (suc total) (omega arith) (omega arith)

-- ---- how many looks are enough

both_or_none : (s t : Bool) → (s ≡ true → t ≡ true) → (t ≡ true → s ≡ true) → s ≡ t
both_or_none true t p q = sym (p refl)
both_or_none false true p q = q refl
both_or_none false false p q = refl

-- from a place in the message on, one for each byte left and one more: further ones change nothing
pub enough : (more number total offset at : ℕ) → at ≤ total → total < at + more
    → meets more number total offset at ≡ meets (suc (total - at)) number total offset at
enough more number total offset at h k =
    both_or_none _ _
    (λ m. met (chained more number total offset at m) (suc (total - at)) h (omega arith))
    (λ m. met (chained (suc (total - at)) number total offset at m) more h k)

-- so that starts don't depend on how many are made
pub more_looks : (more number total offset : ℕ)
    → meets (suc total + more) number total offset 0 ≡ is_start number total offset
unfolding is_start
more_looks more number total offset = both_or_none _ _
    (λ m. met (chained (suc total + more) number total offset 0 m) (suc total) (omega arith) (omega arith))
    (λ m. met (chained (suc total) number total offset 0 m) (suc total + more) (omega arith) (omega arith))

-- ---- which offsets are starts

pub start_zero : (number total : ℕ) → is_start number total 0 ≡ true
start_zero number total = chain_start number total 0 here

-- where a block ends and the length is not reached, the next one starts
pub start_next : (number total at : ℕ) → is_start number total at ≡ true → block_end number total at < total
    → is_start number total (block_end number total at) ≡ true
start_next number total at h l = chain_start number total _ (longer (start_chain number total at h) l)

-- what holds at 0, and goes on from start to start, holds at each
pub each_start :
    (number total : ℕ) (P : ℕ → Type 0)
    → P 0
    → ((at : ℕ) → is_start number total at ≡ true → block_end number total at < total
    → P at → P (block_end number total at))
    → (offset : ℕ) → is_start number total offset ≡ true → P offset
each_start number total P begin next offset h =
    along (start_chain number total offset h) (start_zero number total) begin
  where
    along : {at offset : ℕ} → Chain number total at offset → is_start number total at ≡ true → P at → P offset
    along here s p = p
    along {at} (onward l chain) s p = along chain (start_next number total at s l) (next at s l p)

-- a start other than 0 has bytes behind it
pub start_within : (number total offset : ℕ) → is_start number total offset ≡ true → offset ≤ total
start_within number total = each_start number total (λ offset. offset ≤ total) (omega arith) (λ at s l _. omega arith)

-- "a message of at most 1,590 bytes is one Data PDU, at offset 0 only"
pub only_zero : (number total offset : ℕ) → total ≤ WHOLE_MAX → is_start number total offset ≡ true → offset ≡ 0
only_zero number total offset h =
    each_start number total (λ offset. offset ≡ 0) refl
    (λ at s l e. let w : block_end number total at ≡ total = rw e (whole_end number total h) in absurd (omega arith))
    offset

-- the next offset is the message's length, or a start again
pub next_start : (number total at : ℕ) → is_start number total at ≡ true
    → (block_end number total at ≡ total) ⊎ (is_start number total (block_end number total at) ≡ true)
next_start number total at h =
    ⊎_elim
    (λ (l : block_end number total at < total). inr (start_next number total at h l))
    (λ (l : total ≤ block_end number total at). inl
    (omega (arith, end_within number total at (start_within number total at h))))
    (lt_or_le (block_end number total at) total)

-- ---- following the blocks, as the code does

pub walk_begins : (number total offset : ℕ)
    → is_start number total offset ≡ meets (suc (total - 0)) number total offset 0
unfolding is_start
walk_begins number total offset = let e : total - 0 ≡ total = omega arith in rw e

pub walk_on : (number total offset at : ℕ) → at ≤ total → at < offset → block_end number total at < total
    → meets (suc (total - at)) number total offset at ≡ meets (suc (total - block_end number total at)) number total
    offset (block_end number total at)
walk_on number total offset at w h l =
    meets_on (total - at) number total offset at h l
    ∙ enough (total - at) number total offset (block_end number total at) (omega arith)
    (omega (arith, end_after_law number total at (omega (arith, end_from_law number total at))))

pub walk_ends : (more number total offset at : ℕ)
    → offset ≤ at → eqb at offset ≡ meets (suc more) number total offset at
walk_ends more number total offset at h =
    ⊎_elim
    (λ (l : offset < at). let k : at ≡ offset → ⊥ =
    λ e. omega arith in ne_eqb at offset k ∙ sym (meets_past (suc more) number total offset at l))
    (λ (l : at ≤ offset). let e : at ≡ offset =
    omega arith in eq-eqb at offset e ∙ sym (meets_here more number total offset at e))
    (lt_or_le offset at)
