-- A message of at most 4,096 bytes has at most three PDUs: its third block ends where the message does, if none ended there before.
-- So a count of PDUs over three sends all of them.
-- Assumes nothing.
use Prim.Native.Nat.{ℕ, ◌+◌, ◌≤◌, min}
use native.Mathlib.Omega.{arith}
use Rattle.paper.specs.Sizes.{PDU_MAX, MESSAGE_MAX}
use Rattle.numbers.proofs.Widths.{narrowest_le}
use Rattle.lists.proofs.Cases.{choice}
use Rattle.cutting.specs.Cutting.{is_first, header_len, block_len, block_end}

header_small : (n total at : ℕ) → header_len n total at ≤ 9
unfolding header_len
header_small n total at =
    choice (λ (k : ℕ). k ≤ 9) (is_first total at)
    (λ _. omega (arith, narrowest_le n, narrowest_le total))
    (λ _. omega (arith, narrowest_le n))

-- a block ends 1,591 bytes on, or where the message does
block_on : (n total at : ℕ) → min total (at + 1591) ≤ block_end n total at
unfolding block_end block_len PDU_MAX
block_on n total at = omega (arith, header_small n total at)

pub three_are_all : (n total : ℕ) → total ≤ MESSAGE_MAX → total ≤ block_end n total (block_end n total (block_end n total 0))
unfolding MESSAGE_MAX
three_are_all n total h =
    let one = block_end n total 0 in
    let two = block_end n total one in
    omega (arith, block_on n total 0, block_on n total one, block_on n total two)
