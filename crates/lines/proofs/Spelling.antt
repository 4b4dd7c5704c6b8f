-- The laws of bytes in hexadecimal digits.
-- Assumes nothing.
use mathlib.Core.Path.{◌≡◌, refl}
use mathlib.Core.List.{List, [], ◌∷◌}
use Prim.Native.Nat.{ℕ, ◌*◌}
use native.Mathlib.Omega.{arith}
use lib.ListN.{length}
use Rattle.lines.specs.Hex.{hex_byte, hex_of, bytes_field}

pub length_hex : (bytes : List ℕ) → length (hex_of bytes) ≡ 2 * length bytes
unfolding hex_of hex_byte
length_hex [] = refl
length_hex (b ∷ bytes) = omega (arith, length_hex bytes)

-- the field of no bytes, and of some
pub field_none : (bytes : List ℕ) → length bytes ≡ 0 → bytes_field bytes ≡ 45 ∷ []
unfolding bytes_field
field_none [] h = refl
field_none (b ∷ bytes) h = absurd (omega arith)

pub field_some : (bytes : List ℕ) → (length bytes ≡ 0 → ⊥) → bytes_field bytes ≡ hex_of bytes
unfolding bytes_field
field_some [] h = absurd (h refl)
field_some (b ∷ bytes) h = refl
