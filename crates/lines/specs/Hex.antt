-- Bytes in hexadecimal digits, in ASCII, lower case.
use Rattle.std.specs.Prelude.{ℕ, ◌+◌, ◌/◌, ◌%◌, cond, List, [], ◌∷◌, ◌++◌, ltb}

-- the code of a digit below 16: `0` to `9`, then `a` to `f`
unfoldable pub hex_digit : ℕ → ℕ
hex_digit d = cond (ltb d 10) (48 + d) (87 + d)

-- the two digits of a byte
unfoldable pub hex_byte : ℕ → List ℕ
hex_byte b = hex_digit (b / 16) ∷ hex_digit (b % 16) ∷ []

unfoldable pub hex_of : List ℕ → List ℕ
hex_of [] = []
hex_of (b ∷ bytes) = hex_byte b ++ hex_of bytes

-- the bytes, and `-` for none
unfoldable pub bytes_field : List ℕ → List ℕ
bytes_field [] = 45 ∷ []
bytes_field (b ∷ bytes) = hex_of (b ∷ bytes)
