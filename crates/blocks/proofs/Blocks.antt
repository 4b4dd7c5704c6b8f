-- A block's parts are read back from its bytes, and such a block is good.
-- Assumes nothing.
use mathlib.Core.Path.{◌≡◌, refl, sym}
use mathlib.Core.Bool.{Bool, true, false, ◌||◌}
use mathlib.Core.Logic.{◌⊎◌, ⊎_elim}
use mathlib.Core.List.{List, [], ◌++◌, append_assoc}
use Prim.Native.Nat.{ℕ, ◌+◌, ◌-◌, ◌≤◌, ◌<◌}
use native.Mathlib.Omega.{arith}
use borrow.Author.Tests.{lt-ltb, le-leb, eq-eqb}
use lib.Dec.{lit≤, ltb}
use lib.ListN.{length, drop, length-append}
use lib.Seq.{take_at, drop_at, drop-drop}
use Rattle.lists.specs.Bytes.{zeros}
use Rattle.lists.proofs.Cases.{true_not_false}
use Rattle.lists.proofs.Laid.{length_zeros}
use Rattle.numbers.specs.Numbers.{Bytes, bytes_of}
use Rattle.numbers.proofs.Widths.{length_bytes_of, value_in}
use Rattle.blocks.specs.Check.{check_of}
use Rattle.blocks.specs.Block.{BLOCK, HEAD, PAYLOAD, NONE, head_of, body_of, block_of, number_in, used_in, place_in, check_in, payload_in}
use Rattle.blocks.specs.Block.{may_use, may_begin, all_zero, is_good}
use Rattle.blocks.proofs.Bytes.{bytes_append, bytes_zeros, bytes_number}
use Rattle.blocks.proofs.Checks.{check_le, check_parts}
use Rattle.blocks.proofs.Zeros.{zeros_zero}

-- ---- its length

pub length_head : (number used place : ℕ) → length (head_of number used place) ≡ 6
unfolding head_of
length_head number used place = simp (length-append, length_bytes_of)

pub length_body : (payload : List ℕ) → length payload ≤ PAYLOAD → length (body_of payload) ≡ PAYLOAD
unfolding body_of
length_body payload h = simp (length-append, length_zeros) (omega arith)

pub length_block : (number place : ℕ) (payload : List ℕ) → length payload ≤ PAYLOAD → length (block_of number place payload) ≡ BLOCK
unfolding block_of
length_block number place payload h = simp (length-append, length_head, length_bytes_of, length_body payload h)

-- ---- what its head may say

uses : (last : Bool) (used : ℕ) → used ≤ PAYLOAD → (last ≡ true) ⊎ (used ≡ PAYLOAD) → may_use last used ≡ true
unfolding may_use
uses true used h l = le-leb used PAYLOAD h
uses false used h l = ⊎_elim (λ (e : false ≡ true). absurd (true_not_false (sym e))) (λ (e : used ≡ PAYLOAD). eq-eqb used PAYLOAD e) l

or_true : (t : Bool) → (t || true) ≡ true
or_true true = refl
or_true false = refl

begins : (used place : ℕ) → (place < used) ⊎ (place ≡ NONE) → may_begin used place ≡ true
unfolding may_begin
begins used place p = ⊎_elim (λ (h : place < used). rw (lt-ltb place used h)) (λ (e : place ≡ NONE). rw (eq-eqb place NONE e) (or_true (ltb place used))) p

-- ---- its parts

module _ (number place : ℕ) (payload : List ℕ) where
  -- the check, and its bytes
  check : ℕ
  check = check_of (head_of number (length payload) place ++ zeros 2 ++ body_of payload)

  check_bytes : List ℕ
  check_bytes = bytes_of 2 check

  -- one number behind the other
  in_order : block_of number place payload
      ≡ bytes_of 2 number ++ (bytes_of 2 (length payload) ++ (bytes_of 2 place ++ (check_bytes ++ body_of payload)))
  unfolding block_of head_of check check_bytes
  in_order = simp append_assoc

  pub number_back : number < 65536 → number_in (block_of number place payload) ≡ number
  unfolding number_in
  number_back h = rw in_order (value_in [] _ 2 number 0 refl (lit≤ tt) h)

  pub used_back : length payload ≤ PAYLOAD → used_in (block_of number place payload) ≡ length payload
  unfolding used_in
  used_back h = rw in_order (value_in (bytes_of 2 number) _ 2 (length payload) 2 (length_bytes_of 2 number) (lit≤ tt) (omega arith))

  pub place_back : place < 65536 → place_in (block_of number place payload) ≡ place
  unfolding place_in
  place_back h =
      let two : length (bytes_of 2 number ++ bytes_of 2 (length payload)) ≡ 4 = simp (length-append, length_bytes_of) in
      rw (in_order, ← (append_assoc (bytes_of 2 number) (bytes_of 2 (length payload)) (bytes_of 2 place ++ (check_bytes ++ body_of payload))))
      (value_in (bytes_of 2 number ++ bytes_of 2 (length payload)) _ 2 place 4 two (lit≤ tt) h)

  head_length : length (head_of number (length payload) place) ≡ 6
  head_length = length_head number (length payload) place

  pub drop_head : drop HEAD (block_of number place payload) ≡ body_of payload
  unfolding block_of check check_bytes
  drop_head =
      let head = head_of number (length payload) place in
      let all : length (head ++ check_bytes) ≡ 8 = rw (length-append, head_length, length_bytes_of) refl in
      drop_at (head ++ check_bytes) (body_of payload) 8 all

  pub check_back : check_in (block_of number place payload) ≡ check_of (block_of number place payload)
  unfolding check_in block_of check check_bytes
  check_back =
      let head = head_of number (length payload) place in
      let below : check < 65536 = omega (arith, check_le (head ++ zeros 2 ++ body_of payload)) in
      rw (check_parts head check_bytes (body_of payload) head_length (length_bytes_of 2 check), append_assoc head check_bytes (body_of payload))
      (value_in head (body_of payload) 2 check 6 head_length (lit≤ tt) below)

  pub payload_back : length payload ≤ PAYLOAD → payload_in (block_of number place payload) ≡ payload
  unfolding payload_in body_of
  payload_back h = rw (used_back h, drop_head) (take_at payload (zeros (PAYLOAD - length payload)) (length payload) refl)

  -- behind the payload all is zero
  behind : length payload ≤ PAYLOAD → drop (HEAD + used_in (block_of number place payload)) (block_of number place payload)
      ≡ zeros (PAYLOAD - length payload)
  unfolding body_of
  behind h =
      rw (used_back h, ← (drop-drop (length payload) HEAD (block_of number place payload)), drop_head)
      (drop_at payload (zeros (PAYLOAD - length payload)) (length payload) refl)

  -- such a block is good
  pub block_good : (last : Bool) → number < 65536 → length payload ≤ PAYLOAD → (place < length payload) ⊎ (place ≡ NONE)
      → (last ≡ true) ⊎ (length payload ≡ PAYLOAD) → is_good last number (block_of number place payload) ≡ true
  unfolding is_good
  block_good last n h p l =
      let block = block_of number place payload in
      let used = used_back h in
      let size = eq-eqb (length block) BLOCK (length_block number place payload h) in
      let sum = eq-eqb (check_in block) (check_of block) check_back in
      let which = eq-eqb (number_in block) number (number_back n) in
      let full : may_use last (used_in block) ≡ true = rw used (uses last (length payload) h l) in
      let begin : may_begin (used_in block) (place_in block) ≡ true = rw (used, place_back (⊎_elim (λ o. omega arith) (λ o. omega arith) p))
      (begins (length payload) place p) in
      let rest : all_zero (drop (HEAD + used_in block) block) ≡ true = rw (behind h) (zeros_zero (PAYLOAD - length payload)) in
      rw (size, sum, which, full, begin, rest)

  pub bytes_block : Bytes payload → Bytes (block_of number place payload)
  unfolding block_of head_of body_of check check_bytes
  bytes_block b =
      let n = bytes_of 2 number in
      let u = bytes_of 2 (length payload) in
      let p = bytes_of 2 place in
      let unused = PAYLOAD - length payload in
      bytes_append (n ++ u ++ p ++ check_bytes) (body_of payload)
      (bytes_append (n ++ u ++ p) check_bytes
      (bytes_append (n ++ u) p (bytes_append n u (bytes_number 2 number) (bytes_number 2 (length payload))) (bytes_number 2 place))
      (bytes_number 2 check))
      (bytes_append payload (zeros unused) b (bytes_zeros unused))
