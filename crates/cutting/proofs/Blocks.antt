-- The laws of one block: its header, its length, where it ends, and its PDU.
-- Assumes nothing.
use mathlib.Core.Path.{◌≡◌, refl, ◌∙◌, ap}
use mathlib.Core.Bool.{Bool, true, false, cond, and-false}
use mathlib.Core.List.{List, ◌++◌}
use Prim.Native.Nat.{ℕ, ◌+◌, ◌-◌, ◌≤◌, ◌<◌}
use native.Mathlib.Omega.{arith}
use borrow.Author.Tests.{le-ltb, lt-ltb, ne_eqb}
use lib.Dec.{ltb}
use lib.ListN.{length, take, drop, length-take, length-drop, take-append-drop}
use lib.Seq.{drop-drop}
use Rattle.paper.specs.Sizes.{PDU_MAX, WHOLE_MAX}
use Rattle.lists.proofs.Cases.{choice}
use Rattle.numbers.specs.Numbers.{narrowest}
use Rattle.numbers.proofs.Widths.{narrowest_le, narrowest_pos}
use Rattle.laying.specs.Laying.{data_bytes, data_first_bytes}
use Rattle.laying.proofs.Lengths.{length_data, length_data_first}
use Rattle.cutting.specs.Cutting.{is_first, header_len, block_len, block_end, block, cut_pdu}

-- ---- lengths

module _ (number total at : ℕ) where
  pub header_le : header_len number total at ≤ 9
  unfolding header_len
  header_le =
      let n = narrowest_le number in
      let t = narrowest_le total in
      choice (λ (k : ℕ). k ≤ 9) (is_first total at) (λ _. omega arith) (λ _. omega arith)

  pub header_pos : 2 ≤ header_len number total at
  unfolding header_len
  header_pos = let n = narrowest_pos number in choice (λ (k : ℕ). 2 ≤ k) (is_first total at) (λ _. omega arith)
      (λ _. omega arith)

  -- a PDU has room for its header
  pub header_fits : header_len number total at ≤ PDU_MAX
  unfolding PDU_MAX
  header_fits = omega (arith, header_le)

  -- header and block are a PDU's length at most
  pub block_fits : header_len number total at + block_len number total at ≤ PDU_MAX
  unfolding block_len
  block_fits = omega (arith, header_fits)

  -- just that where the message goes on
  pub block_full : block_end number total at < total → header_len number total at + block_len number total at ≡ PDU_MAX
  unfolding block_end block_len
  block_full h = omega (arith, header_fits)

  -- where bytes are left, the block has one
  pub block_pos : at < total → 0 < block_len number total at
  unfolding block_len PDU_MAX
  block_pos h = omega (arith, header_le)

  -- the next offset is the block's length further on,
  pub end_is : block_end number total at ≡ at + block_len number total at
  unfolding block_end
  end_is = refl

  pub end_from_law : at ≤ block_end number total at
  unfolding block_end
  end_from_law = omega arith

  -- past the offset where bytes are left,
  pub end_after_law : at < total → at < block_end number total at
  unfolding block_end
  end_after_law h = omega (arith, block_pos h)

  -- and within the message
  pub end_within : at ≤ total → block_end number total at ≤ total
  unfolding block_end block_len
  end_within h = omega arith

-- "a message of at most 1,590 bytes is one Data PDU"
pub whole_end : (number total : ℕ) → total ≤ WHOLE_MAX → block_end number total 0 ≡ total
unfolding block_end block_len PDU_MAX WHOLE_MAX
whole_end number total h = omega (arith, header_le number total 0)

-- in it, and in every block but the first, a Data; else a Data First
pub whole_data : (total at : ℕ) → total ≤ WHOLE_MAX → is_first total at ≡ false
unfolding is_first
whole_data total at h = rw (le-ltb WHOLE_MAX total h)

pub long_first : (total : ℕ) → WHOLE_MAX < total → is_first total 0 ≡ true
unfolding is_first
long_first total h = rw (lt-ltb WHOLE_MAX total h)

pub later_data : (total at : ℕ) → 0 < at → is_first total at ≡ false
unfolding is_first
later_data total at h = let n : at ≡ 0 → ⊥ = λ e. omega arith in rw (ne_eqb at 0 n) (and-false (ltb WHOLE_MAX total))

-- ---- bytes

module _ (number : ℕ) (message : List ℕ) (at : ℕ) where
  pub length_block : length (block number message at) ≡ block_len number (length message) at
  unfolding block block_len
  length_block = simp (length-take, length-drop) (omega arith)

  -- the part of the message up to the block's end
  pub part_block : (end : ℕ) → end ≡ block_end number (length message) at → take (end - at) (drop at message) ≡ block
      number message at
  unfolding block block_end
  part_block end e = let k : end - at ≡ block_len number (length message) at = omega arith in rw k

  -- the block, and what is left behind its end
  pub block_rest : block number message at ++ drop (block_end number (length message) at) message ≡ drop at message
  unfolding block block_end
  block_rest = rw (← drop-drop (block_len number (length message) at) at message)
      (take-append-drop (block_len number (length message) at) (drop at message))

  pub cut_first : is_first (length message) at ≡ true
      → cut_pdu number message at ≡ data_first_bytes number (length message) (block number message at)
  unfolding cut_pdu
  cut_first e = rw e

  pub cut_data : is_first (length message) at ≡ false
      → cut_pdu number message at ≡ data_bytes number (block number message at)
  unfolding cut_pdu
  cut_data e = rw e

  -- a PDU is its header and its block
  pub length_cut : length (cut_pdu number message at) ≡ header_len number (length message) at + block_len number
      (length message) at
  unfolding cut_pdu header_len
  length_cut =
      let b = length_block in
      let f = length_data_first number (length message) (block number message at) in
      let d = length_data number (block number message at) in
      go (is_first (length message) at) _ _ _ _ _
      (f ∙ ap (λ (k : ℕ). 1 + narrowest number + narrowest (length message) + k) b)
      (d ∙ ap (λ (k : ℕ). 1 + narrowest number + k) b)
    where
      go : (t : Bool) (x y : List ℕ) (k j l : ℕ) → length x ≡ k + l → length y ≡ j + l
          → length (cond t x y) ≡ cond t k j + l
      go true x y k j l p q = p
      go false x y k j l p q = q

  pub cut_fits : length (cut_pdu number message at) ≤ PDU_MAX
  cut_fits = omega (arith, length_cut, block_fits number (length message) at)
