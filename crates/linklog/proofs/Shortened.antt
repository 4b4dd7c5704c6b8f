-- A written block with fewer bytes, and a front of blocks cut behind some of the records' bytes.
-- Assumes nothing.
use mathlib.Core.Path.{◌≡◌, refl}
use mathlib.Core.Logic.{⊎_elim}
use mathlib.Core.Bool.{Bool, true, false, cond}
use mathlib.Core.List.{List, [], ◌∷◌, ◌++◌}
use Prim.Native.Nat.{ℕ, zero, suc, ◌+◌, ◌-◌, ◌*◌, ◌≤◌, ◌<◌, min}
use native.Mathlib.Nat.{zero-add}
use native.Mathlib.Omega.{arith}
use borrow.Author.Tests.{lt-ltb, le-ltb}
use lib.Dec.{ltb}
use lib.ListN.{length, take, drop, length-append, length-take, length-drop}
use lib.Seq.{take_at, drop-append-le, length-take-le, take_all}
use Rattle.lists.specs.Places.{place, here_or}
use Rattle.lists.proofs.Cases.{lt_or_le, choice}
use Rattle.blocks.specs.Block.{BLOCK, PAYLOAD, NONE}
use Rattle.linklog.specs.Written.{Mark, byte_at, begins_at, first_place, block_with, blocks_from}
use Rattle.linklog.specs.TakenBack.{shortened}
use Rattle.linklog.proofs.Blocks.{take_map, take_behind, place_with, payload_with, blocks_last, blocks_front, take_blocks, one_block}

-- ---- a block with fewer bytes

-- the first that passes, among the first so many
place_take : {A : Type 0} (p : A → Bool) (n : ℕ) (t : List A) → place p (take n t) ≡ min n (place p t)
unfolding place
place_take p zero t = omega arith
place_take p (suc n) [] = omega arith
place_take p (suc n) (x ∷ t) = go (p x) (place_take p n t)
  where
    go : (b : Bool) → place p (take n t) ≡ min n (place p t) → here_or b (place p (take n t)) ≡ min (suc n) (here_or b (place p t))
    go true ih = omega arith
    go false ih = omega arith

first_take : (n : ℕ) (marks : List Mark) → n ≤ length marks → n ≤ PAYLOAD
    → first_place (take n marks) ≡ cond (ltb (first_place marks) n) (first_place marks) NONE
unfolding first_place
first_take n marks h few =
    let at = place begins_at marks in
    let size = length-take-le n marks h in
    let found = place_take begins_at n marks in
    ⊎_elim
    (λ (k : at < n).
    let same : place begins_at (take n marks) ≡ at = omega arith in
    rw (same, size, lt-ltb at n k, lt-ltb at (length marks) (omega arith), lt-ltb at n k))
    (λ (k : n ≤ at).
    let far : n ≤ first_place marks = choice (λ (x : ℕ). n ≤ x) (ltb at (length marks)) (λ e. k) (λ e. omega arith) in
    rw (le-ltb (place begins_at (take n marks)) (length (take n marks)) (omega arith), le-ltb (first_place marks) n far))
    (lt_or_le at n)

pub shortened_with : (number used : ℕ) (marks : List Mark) → used ≤ length marks → length marks ≤ PAYLOAD
    → shortened number used (block_with number marks) ≡ block_with number (take used marks)
unfolding shortened block_with
shortened_with number used marks h few =
    rw (place_with number marks few, payload_with number marks few, first_take used marks h (omega arith), take_map byte_at used marks) refl

-- ---- a front of blocks, cut behind some of the records' bytes

module _ (marks more : List Mark) (j n : ℕ) (some : PAYLOAD * j < length marks) (few : length marks ≤ PAYLOAD * suc j) where
  abbrev file : List ℕ
  file = blocks_from (j + suc n) 0 (marks ++ more)

  last_cut : shortened j (length marks - PAYLOAD * j) (take BLOCK (drop (BLOCK * j) file)) ≡ block_with j (take PAYLOAD (drop (PAYLOAD * j) marks))
  last_cut =
      let part = drop (PAYLOAD * j) marks in
      let used = length marks - PAYLOAD * j in
      let size : length part ≡ used = length-drop (PAYLOAD * j) marks in
      let there : take PAYLOAD (drop (PAYLOAD * j) (marks ++ more)) ≡ part ++ take (PAYLOAD - used) more =
      rw (drop-append-le (PAYLOAD * j) marks more (omega arith)) (take_behind PAYLOAD (PAYLOAD - used) part more (omega arith)) in
      let long = length-append part (take (PAYLOAD - used) more) in
      let short = length-take (PAYLOAD - used) more in
      rw (
        one_block j n 0 (marks ++ more),
        zero-add,
        there,
        shortened_with j used (part ++ take (PAYLOAD - used) more) (omega arith) (omega arith),
        take_at part (take (PAYLOAD - used) more) used size,
        take_all PAYLOAD part (omega arith),
      ) refl

  pub cut_back : take (BLOCK * j) file ++ shortened j (length marks - PAYLOAD * j) (take BLOCK (drop (BLOCK * j) file)) ≡ blocks_from (suc j) 0 marks
  cut_back = rw (last_cut, take_blocks j (suc n) 0 (marks ++ more), blocks_front j 0 marks more (omega arith), blocks_last j marks) refl
