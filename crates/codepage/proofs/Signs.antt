-- Small numbers of 64 bits with a sign. A signed local holds bits, so that goals speak of `to_z w64 (of_z w64 z)`, which is z where z fits.
-- Assumes nothing.
use mathlib.Core.Path.{◌≡◌, ◌∙◌}
use Prim.Native.Nat.{ℕ, zero, suc, ◌^◌, ◌<◌}
use native.Mathlib.Omega.{arith}
use lib.IntN.{pos, neg_ℤ, ◌-ℤ◌, +ℤ_idl}
use mir.Syntax.{w64}
use mir.Val.{to_z, of_z, SFits}
use mir.Facts.{to_z_pos, to_z-of_z}

-- nothing less a number
less : (n : ℕ) → n < 2 ^ 63 → pos 0 -ℤ to_z w64 n ≡ neg_ℤ (pos n)
less n h = rw (to_z_pos w64 h) (+ℤ_idl (neg_ℤ (pos n)))

fits : (n : ℕ) → n < 2 ^ 63 → SFits w64 (neg_ℤ (pos n))
fits zero h = record { sfits = h }
fits (suc n) h = record { sfits = omega arith }

pub less_fits : (n : ℕ) → n < 2 ^ 63 → SFits w64 (pos 0 -ℤ to_z w64 n)
less_fits n h = rw (less n h) (fits n h)

pub less_is : (n : ℕ) → n < 2 ^ 63 → to_z w64 (of_z w64 (pos 0 -ℤ to_z w64 n)) ≡ neg_ℤ (pos n)
less_is n h = to_z-of_z (less_fits n h) ∙ less n h
