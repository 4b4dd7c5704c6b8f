-- "CreationStatus is a signed 32-bit number: zero or more is success, below zero failure."
use Rattle.std.specs.Prelude.{ℕ, ◌-◌, Bool, true, false, cond, List, ltb, ℤ, pos, negsuc}
use Rattle.numbers.specs.Numbers.{little, bytes_of}

-- the signed number of 32 bits: from 2 ^ 31 on it is below zero (`negsuc n` is -1 - n)
unfoldable pub signed_of : ℕ → ℤ
signed_of v = cond (ltb v 2147483648) (pos v) (negsuc (4294967295 - v))

-- the same 32 bits of a signed number
unfoldable pub unsigned_of : ℤ → ℕ
unsigned_of (pos n) = n
unsigned_of (negsuc n) = 4294967295 - n

-- built from four bytes
unfoldable pub status_of : List ℕ → ℤ
status_of bytes = signed_of (little bytes)

-- and split again
unfoldable pub status_bytes : ℤ → List ℕ
status_bytes status = bytes_of 4 (unsigned_of status)

unfoldable pub is_success : ℤ → Bool
is_success (pos n) = true
is_success (negsuc n) = false
