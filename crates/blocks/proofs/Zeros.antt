-- Bytes that are all zero.
-- Assumes nothing.
use mathlib.Core.Path.{◌≡◌, refl}
use mathlib.Core.Bool.{true}
use Prim.Native.Nat.{ℕ, zero, suc}
use Rattle.lists.specs.Bytes.{zeros}
use Rattle.blocks.specs.Block.{all_zero}

pub zeros_zero : (n : ℕ) → all_zero (zeros n) ≡ true
unfolding all_zero zeros
zeros_zero zero = refl
zeros_zero (suc n) = zeros_zero n
