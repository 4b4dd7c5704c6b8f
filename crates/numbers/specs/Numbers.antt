-- Numbers in bytes. "Numbers are little-endian. A width code 0, 1, 2 means 1, 2, 4 bytes; 3 is invalid."
use Rattle.std.specs.Prelude.{ℕ, zero, suc, ◌+◌, ◌*◌, ◌/◌, ◌%◌, ◌<◌, Bool, cond, List, [], ◌∷◌, ltb, eqb, length, take, drop, get_or}
use Rattle.numbers.specs.declared.Measured.{Measured}

-- each number of a list is a byte
abbrev pub Bytes : List ℕ → Type 0
Bytes l = (i : ℕ) → get_or l i 0 < 256

-- how many numbers four bytes hold
abbrev pub NUMBERS : ℕ
NUMBERS = 4294967296

-- the number that bytes make, the lowest first
unfoldable pub little : List ℕ → ℕ
little [] = 0
little (b ∷ bs) = b + 256 * little bs

-- the n low bytes of a value, the lowest first
unfoldable pub bytes_of : ℕ → ℕ → List ℕ
bytes_of zero v = []
bytes_of (suc n) v = v % 256 ∷ bytes_of n (v / 256)

-- the value of a number's bytes, at most four
unfoldable pub value_of : List ℕ → ℕ
value_of bytes = little (take 4 bytes)

-- the value of the n bytes from a place on
unfoldable pub value_at : List ℕ → ℕ → ℕ → ℕ
value_at list at n = value_of (take n (drop at list))

-- the bytes of a width code; the invalid code has none
unfoldable pub width_of : ℕ → ℕ
width_of code = cond (eqb code 0) 1 (cond (eqb code 1) 2 (cond (eqb code 2) 4 0))

-- "We write numbers and Length in the narrowest width": its code,
unfoldable pub code_for : ℕ → ℕ
code_for v = cond (ltb v 256) 0 (cond (ltb v 65536) 1 2)

-- its bytes,
unfoldable pub narrowest : ℕ → ℕ
narrowest v = width_of (code_for v)

-- and the value in it
unfoldable pub narrow_bytes : ℕ → List ℕ
narrow_bytes v = bytes_of (narrowest v) v

-- whether a narrower width than that of a number's bytes would do,
unfoldable pub wide_of : List ℕ → Bool
wide_of bytes = ltb (narrowest (value_of bytes)) (length bytes)

-- or than n, for the bytes from a place on
unfoldable pub wide_at : List ℕ → ℕ → ℕ → Bool
wide_at list at n = wide_of (take n (drop at list))

-- what reading a number finds
abbrev pub measured_of : List ℕ → Measured
measured_of bytes = record { value = value_of bytes; wide = wide_of bytes }

abbrev pub measured_at : List ℕ → ℕ → ℕ → Measured
measured_at list at n = record { value = value_at list at n; wide = wide_at list at n }
