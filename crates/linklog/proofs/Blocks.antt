-- The blocks of a written log: each has its length, a front of them holds a front of the records' bytes, and those behind it the rest.
-- Assumes nothing.
use mathlib.Core.Path.{◌≡◌, refl, sym, ap, ◌∙◌}
use mathlib.Core.List.{List, [], ◌∷◌, ◌++◌, map, append_assoc, append-nil}
use Prim.Native.Nat.{ℕ, zero, suc, ◌+◌, ◌*◌, ◌≤◌, ◌<◌}
use native.Mathlib.Nat.{zero-add}
use native.Mathlib.Omega.{arith}
use borrow.Author.Tests.{ltb-true, le-ltb}
use lib.Dec.{ltb}
use lib.ListN.{length, take, drop, length-append, length-take, length-drop, length-map}
use lib.Seq.{take-append-add, drop-append-add, take-append-le, drop-append-le, take_at, drop_at, drop-drop}
use Rattle.lists.specs.Places.{place}
use Rattle.lists.proofs.Cases.{choice}
use Rattle.blocks.specs.Block.{BLOCK, PAYLOAD, NONE, number_in, used_in, place_in, payload_in}
use Rattle.blocks.proofs.Blocks.{length_block, number_back, used_back, place_back, payload_back}
use Rattle.linklog.specs.Written.{Mark, byte_at, begins_at, inside, marked, marked_all, first_place, block_with, blocks_from, blocks_in, written}

-- ---- a part of what each element becomes

pub take_map : {A B : Type 0} (f : A → B) (n : ℕ) (l : List A) → take n (map f l) ≡ map f (take n l)
take_map f zero l = refl
take_map f (suc n) [] = refl
take_map f (suc n) (x ∷ l) = rw (take_map f n l)

pub drop_map : {A B : Type 0} (f : A → B) (n : ℕ) (l : List A) → drop n (map f l) ≡ map f (drop n l)
drop_map f zero l = refl
drop_map f (suc n) [] = refl
drop_map f (suc n) (x ∷ l) = drop_map f n l

-- a cut behind the first of two
pub take_behind : {A : Type 0} (n k : ℕ) (xs ys : List A) → n ≡ length xs + k → take n (xs ++ ys) ≡ xs ++ take k ys
take_behind n k xs ys e = rw e (take-append-add xs ys k)

pub drop_behind : {A : Type 0} (n k : ℕ) (xs ys : List A) → n ≡ length xs + k → drop n (xs ++ ys) ≡ drop k ys
drop_behind n k xs ys e = rw e (drop-append-add xs ys k)

-- ---- the records' bytes

pub bytes_inside : (bytes : List ℕ) → map byte_at (map inside bytes) ≡ bytes
bytes_inside [] = refl
bytes_inside (byte ∷ bytes) = rw (bytes_inside bytes)

pub bytes_marked : (bytes : List ℕ) → map byte_at (marked bytes) ≡ bytes
unfolding marked
bytes_marked [] = refl
bytes_marked (byte ∷ bytes) = rw (bytes_inside bytes)

pub length_marked : (bytes : List ℕ) → length (marked bytes) ≡ length bytes
length_marked bytes = sym (length-map (marked bytes) byte_at) ∙ ap length (bytes_marked bytes)

-- records behind records
pub marked_both : (rs ss : List (List ℕ)) → marked_all (rs ++ ss) ≡ marked_all rs ++ marked_all ss
unfolding marked_all
marked_both [] ss = refl
marked_both (r ∷ rs) ss = rw (marked_both rs ss, append_assoc)

-- ---- the place where the first record begins

-- inside a record none begins
pub place_inside : (bytes : List ℕ) → place begins_at (map inside bytes) ≡ length (map inside bytes)
unfolding place
place_inside [] = refl
place_inside (byte ∷ bytes) = ap suc (place_inside bytes)

pub none_inside : (bytes : List ℕ) → first_place (map inside bytes) ≡ NONE
unfolding first_place
none_inside bytes =
    let marks = map inside bytes in
    rw (le-ltb (place begins_at marks) (length marks) (omega (arith, place_inside bytes)))

-- a place is a number of two bytes
pub place_below : (marks : List Mark) → length marks ≤ PAYLOAD → first_place marks < 65536
unfolding first_place
place_below marks h =
    choice (λ (at : ℕ). at < 65536) (ltb (place begins_at marks) (length marks)) (λ e. omega (arith, ltb-true (place begins_at marks) (length marks) e))
    (λ e. omega arith)

-- ---- a block

module _ (number : ℕ) (marks : List Mark) (few : length marks ≤ PAYLOAD) where
  fits : length (map byte_at marks) ≤ PAYLOAD
  fits = rw (length-map marks byte_at) few

  pub length_with : length (block_with number marks) ≡ BLOCK
  unfolding block_with
  length_with = length_block number (first_place marks) (map byte_at marks) fits

  -- its parts are read back
  pub number_with : number < 65536 → number_in (block_with number marks) ≡ number
  unfolding block_with
  number_with = number_back number (first_place marks) (map byte_at marks)

  pub used_with : used_in (block_with number marks) ≡ length marks
  unfolding block_with
  used_with = used_back number (first_place marks) (map byte_at marks) fits ∙ length-map marks byte_at

  pub place_with : place_in (block_with number marks) ≡ first_place marks
  unfolding block_with
  place_with = place_back number (first_place marks) (map byte_at marks) (place_below marks few)

  pub payload_with : payload_in (block_with number marks) ≡ map byte_at marks
  unfolding block_with
  payload_with = payload_back number (first_place marks) (map byte_at marks) fits

-- a block's bytes
pub one_few : (marks : List Mark) → length (take PAYLOAD marks) ≤ PAYLOAD
one_few marks = rw length-take (omega arith)

length_one : (number : ℕ) (marks : List Mark) → length (block_with number (take PAYLOAD marks)) ≡ BLOCK
length_one number marks = length_with number (take PAYLOAD marks) (one_few marks)

-- ---- blocks

-- blocks, and blocks behind them
pub blocks_both : (j n number : ℕ) (marks : List Mark)
    → blocks_from (j + n) number marks ≡ blocks_from j number marks ++ blocks_from n (number + j) (drop (PAYLOAD * j) marks)
unfolding blocks_from
blocks_both zero n number marks =
    let none : 0 + n ≡ n = omega arith in
    let same : number + 0 ≡ number = omega arith in
    rw (none, same) refl
blocks_both (suc j) n number marks =
    let one : suc j + n ≡ suc (j + n) = omega arith in
    let next : number + suc j ≡ suc number + j = omega arith in
    let on : PAYLOAD * suc j ≡ PAYLOAD + PAYLOAD * j = omega arith in
    rw (one, next, on, blocks_both j n (suc number) (drop PAYLOAD marks), drop-drop (PAYLOAD * j) PAYLOAD marks)
    (sym (append_assoc (block_with number (take PAYLOAD marks)) (blocks_from j (suc number) (drop PAYLOAD marks)) _))

-- so many, and one behind them
one_from : (number : ℕ) (marks : List Mark) → blocks_from 1 number marks ≡ block_with number (take PAYLOAD marks)
unfolding blocks_from
one_from number marks = append-nil (block_with number (take PAYLOAD marks))

pub blocks_last : (j : ℕ) (marks : List Mark) → blocks_from (suc j) 0 marks ≡ blocks_from j 0 marks ++ block_with j (take PAYLOAD (drop (PAYLOAD * j) marks))
blocks_last j marks =
    let one : suc j ≡ j + 1 = omega arith in
    rw (one, blocks_both j 1 0 marks, zero-add, one_from j (drop (PAYLOAD * j) marks)) refl

-- what is behind the bytes of so many blocks doesn't count
pub blocks_front : (n number : ℕ) (marks more : List Mark) → PAYLOAD * n ≤ length marks
    → blocks_from n number (marks ++ more) ≡ blocks_from n number marks
unfolding blocks_from
blocks_front zero number marks more h = refl
blocks_front (suc n) number marks more h =
    let all : PAYLOAD ≤ length marks = omega arith in
    rw (
      take-append-le PAYLOAD marks more all,
      drop-append-le PAYLOAD marks more all,
      blocks_front n (suc number) (drop PAYLOAD marks) more (rw length-drop (omega arith)),
    ) refl

pub length_blocks : (n number : ℕ) (marks : List Mark) → length (blocks_from n number marks) ≡ BLOCK * n
unfolding blocks_from
length_blocks zero number marks = refl
length_blocks (suc n) number marks =
    rw (
      length-append (block_with number (take PAYLOAD marks)) (blocks_from n (suc number) (drop PAYLOAD marks)),
      length_one number marks,
      length_blocks n (suc number) (drop PAYLOAD marks),
    ) (omega arith)

pub length_written : (rs : List (List ℕ)) → length (written rs) ≡ BLOCK * blocks_in rs
unfolding written
length_written rs = length_blocks (blocks_in rs) 0 (marked_all rs)

-- a front of blocks
pub take_blocks : (j n number : ℕ) (marks : List Mark) → take (BLOCK * j) (blocks_from (j + n) number marks) ≡ blocks_from j number marks
take_blocks j n number marks =
    rw (blocks_both j n number marks) (take_at (blocks_from j number marks) _ (BLOCK * j) (length_blocks j number marks))

-- and those behind it
pub drop_blocks : (j n number : ℕ) (marks : List Mark)
    → drop (BLOCK * j) (blocks_from (j + n) number marks) ≡ blocks_from n (number + j) (drop (PAYLOAD * j) marks)
drop_blocks j n number marks =
    rw (blocks_both j n number marks) (drop_at (blocks_from j number marks) _ (BLOCK * j) (length_blocks j number marks))

-- the first block, and those behind it
pub first_block : (n number : ℕ) (marks : List Mark) → take BLOCK (blocks_from (suc n) number marks) ≡ block_with number (take PAYLOAD marks)
unfolding blocks_from
first_block n number marks =
    take_at (block_with number (take PAYLOAD marks)) (blocks_from n (suc number) (drop PAYLOAD marks)) BLOCK (length_one number marks)

pub next_blocks : (n number : ℕ) (marks : List Mark) → drop BLOCK (blocks_from (suc n) number marks) ≡ blocks_from n (suc number) (drop PAYLOAD marks)
unfolding blocks_from
next_blocks n number marks =
    drop_at (block_with number (take PAYLOAD marks)) (blocks_from n (suc number) (drop PAYLOAD marks)) BLOCK (length_one number marks)

-- one block
pub one_block : (j n number : ℕ) (marks : List Mark)
    → take BLOCK (drop (BLOCK * j) (blocks_from (j + suc n) number marks)) ≡ block_with (number + j) (take PAYLOAD (drop (PAYLOAD * j) marks))
one_block j n number marks = rw (drop_blocks j (suc n) number marks) (first_block n (number + j) (drop (PAYLOAD * j) marks))
