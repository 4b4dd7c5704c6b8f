-- Bytes on their way to the front of their own list, lowest first: what is still to be moved has not been written over.
-- Assumes nothing.
use mathlib.Core.Path.{◌≡◌, refl, sym, ap, ◌∙◌}
use mathlib.Core.List.{List}
use Prim.Native.Nat.{ℕ, ◌+◌, ◌-◌, ◌≤◌, ◌<◌}
use native.Mathlib.Numerals.{add-one}
use native.Mathlib.Omega.{arith}
use lib.ListN.{length, drop, get_or, set, length-set, drop_of_length-le}
use lib.Seq.{drop-cons, drop-drop, drop-set-lt, get_or-drop}
use Rattle.lists.specs.Bytes.{laid}

-- the bytes below i have been moved: those from i on stand where they stood, and laid behind the moved ones they make the whole
pub record Moving (l₀ : List ℕ) (from : ℕ) (l : List ℕ) (i : ℕ) : Type 0 where
  pub long : length l ≡ length l₀
  pub begun : from ≤ i
  pub same : drop i l ≡ drop i l₀
  pub moved : laid l (i - from) (drop i l₀) ≡ laid l₀ 0 (drop from l₀)

pub moving_first : (l : List ℕ) (from : ℕ) → Moving l from l from
moving_first l from =
    let e : from - from ≡ 0 = omega arith in
    record { long = refl; begun = omega arith; same = refl; moved = rw e }

-- the byte at i is still the first list's
still : {l₀ : List ℕ} {from : ℕ} {l : List ℕ} {i : ℕ} → Moving l₀ from l i → get_or l i 0 ≡ get_or l₀ i 0
still {l₀} {from} {l} {i} m =
    let e : i + 0 ≡ i = omega arith in
    let p = rw e at (get_or-drop i l 0 0) in
    let q = rw e at (get_or-drop i l₀ 0 0) in
    sym p ∙ ap (λ (r : List ℕ). get_or r 0 0) m.same ∙ q

-- one byte on
pub moving_on : {l₀ : List ℕ} {from : ℕ} {l : List ℕ} {i : ℕ} → Moving l₀ from l i → i < length l
    → Moving l₀ from (set l (i - from) (get_or l i 0)) (i + 1)
unfolding laid
moving_on {l₀} {from} {l} {i} m h =
    let less : i - from < i + 1 = omega (arith, m.begun) in
    let k : i + 1 - from ≡ i - from + 1 = omega (arith, m.begun) in
    let short : i < length l₀ = omega (arith, m.long) in
    let rest : drop (i + 1) l ≡ drop (i + 1) l₀ = sym (drop-drop 1 i l) ∙ rw m.same (drop-drop 1 i l₀) in
    record {
      long = simp length-set m.long;
      begun = omega (arith, m.begun);
      same = drop-set-lt (i + 1) l (i - from) (get_or l i 0) less ∙ rest;
      moved = rw (k, still m, add-one (i - from), add-one i) (rw (drop-cons l₀ i 0 short) at m.moved);
    }

-- past the last byte all are moved
pub moving_last : {l₀ : List ℕ} {from : ℕ} {l : List ℕ} {i : ℕ} → Moving l₀ from l i → length l ≤ i → l ≡ laid l₀ 0 (drop from l₀)
unfolding laid
moving_last {l₀} {from} {l} {i} m h = rw (drop_of_length-le l₀ {i = i} (omega (arith, m.long))) at m.moved
