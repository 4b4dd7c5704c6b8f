-- Bytes laid over a list, and zeros.
use Rattle.std.specs.Prelude.{ℕ, Bool, List, eqb, replicate}
use Rattle.std.proofs.lemmas.List.Edits.{sets}

-- the list with the bytes in it from a place on. Its other bytes stay, and
-- bytes that would reach past its end fall away
unfoldable pub laid : List ℕ → ℕ → List ℕ → List ℕ
laid list at bytes = sets list at bytes

-- n zero bytes. Shut, since otherwise 4,096 of them are written out wherever they stand
unfoldable pub zeros : ℕ → List ℕ
zeros n = replicate n 0

-- the tests by which a byte is looked for
abbrev pub is_byte : ℕ → ℕ → Bool
is_byte byte b = eqb b byte

abbrev pub is_zero : ℕ → Bool
is_zero = is_byte 0
