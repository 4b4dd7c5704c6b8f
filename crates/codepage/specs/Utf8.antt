-- UTF-8 as the Unicode Standard has it, section 3.9: which bytes are well formed, and which code points they hold.
use Rattle.std.specs.Prelude.{◌⊎◌, ℕ, ◌+◌, ◌*◌, ◌/◌, ◌%◌, ◌≤◌, ◌<◌, Bool, true, false, cond, ◌&&◌, leb, ltb, eqb, length}
use mathlib.Core.List.{List, [], ◌∷◌, ◌++◌, Memᴰ}
use Rattle.records.specs.Walks.{rest_of}
use Rattle.records.specs.Items.{items_in}

-- ---- which bytes

-- a range of bytes, both its ends among them
pub record Range : Type 0 where
  pub from : ℕ
  pub to : ℕ

abbrev pub range : ℕ → ℕ → Range
range from to = record { from = from; to = to }

-- the bytes of a sequence behind its first, where nothing narrower is said
abbrev pub TAIL : Range
TAIL = range 0x80 0xBF

-- Table 3-7, "Well-Formed UTF-8 Byte Sequences", row by row: U+0000 to U+007F; to U+07FF; to U+0FFF; to U+CFFF; to U+D7FF; U+E000 to U+FFFF;
-- U+10000 to U+3FFFF; to U+FFFFF; to U+10FFFF
unfoldable pub sequences : List (List Range)
sequences =
    (range 0x00 0x7F ∷ [])
    ∷ (range 0xC2 0xDF ∷ TAIL ∷ [])
    ∷ (range 0xE0 0xE0 ∷ range 0xA0 0xBF ∷ TAIL ∷ [])
    ∷ (range 0xE1 0xEC ∷ TAIL ∷ TAIL ∷ [])
    ∷ (range 0xED 0xED ∷ range 0x80 0x9F ∷ TAIL ∷ [])
    ∷ (range 0xEE 0xEF ∷ TAIL ∷ TAIL ∷ [])
    ∷ (range 0xF0 0xF0 ∷ range 0x90 0xBF ∷ TAIL ∷ TAIL ∷ [])
    ∷ (range 0xF1 0xF3 ∷ TAIL ∷ TAIL ∷ TAIL ∷ [])
    ∷ (range 0xF4 0xF4 ∷ range 0x80 0x8F ∷ TAIL ∷ TAIL ∷ [])
    ∷ []

-- ---- which code points

-- "Unicode scalar value: any Unicode code point except high-surrogate and low-surrogate code points" (D76)
abbrev pub IsScalar : ℕ → Type 0
IsScalar p = (p < 0xD800) ⊎ ((0xE000 ≤ p) × (p ≤ 0x10FFFF))

-- Table 3-6, "UTF-8 Bit Distribution": 0xxxxxxx; 110yyyyy 10xxxxxx; 1110zzzz 10yyyyyy 10xxxxxx; 11110uuu 10uuzzzz 10yyyyyy 10xxxxxx
unfoldable pub point_in : List ℕ → ℕ
point_in [] = 0
point_in (a ∷ []) = a
point_in (a ∷ b ∷ []) = a % 32 * 64 + b % 64
point_in (a ∷ b ∷ c ∷ []) = (a % 16 * 64 + b % 64) * 64 + c % 64
point_in (a ∷ b ∷ c ∷ d ∷ more) = ((a % 8 * 64 + b % 64) * 64 + c % 64) * 64 + d % 64

-- the same bits the other way: the sequence of a code point
unfoldable pub sequence_of : ℕ → List ℕ
sequence_of p =
    cond (ltb p 0x80) (p ∷ [])
    (cond (ltb p 0x800) ((0xC0 + p / 64) ∷ (0x80 + p % 64) ∷ [])
    (cond (ltb p 0x10000) ((0xE0 + p / 4096) ∷ (0x80 + p / 64 % 64) ∷ (0x80 + p % 64) ∷ [])
    ((0xF0 + p / 262144) ∷ (0x80 + p / 4096 % 64) ∷ (0x80 + p / 64 % 64) ∷ (0x80 + p % 64) ∷ [])))

-- the sequences of code points, one behind the other
unfoldable pub spelled : List ℕ → List ℕ
spelled [] = []
spelled (p ∷ points) = sequence_of p ++ spelled points

-- ---- as a grammar: code points, and the bytes that spell them

-- a byte of each range, in order, and no others
abbrev pub Within : List Range → List ℕ → Type 0
Within [] [] = Unit {0}
Within [] (b ∷ bytes) = ⊥
Within (r ∷ row) [] = ⊥
Within (r ∷ row) (b ∷ bytes) = ((r.from ≤ b) × (b ≤ r.to)) × Within row bytes

-- a sequence of the table for each code point, one behind the other
pub data Spells : List ℕ → List ℕ → Type 0 where
  nothing : Spells [] []
  one_more :
      (row : List Range) (sequence points text : List ℕ) → Memᴰ row sequences → Within row sequence → Spells points text
      → Spells (point_in sequence ∷ points) (sequence ++ text)

-- ---- read from the front

abbrev pub is_in : Range → ℕ → Bool
is_in r b = leb r.from b && leb b r.to

-- bytes that begin with a sequence of the row
unfoldable pub begins : List Range → List ℕ → Bool
begins [] bytes = true
begins (r ∷ row) [] = false
begins (r ∷ row) (b ∷ bytes) = is_in r b && begins row bytes

-- how many bytes the sequence at the front has, by the first of some rows that has one, or 0
unfoldable pub width_by : List (List Range) → List ℕ → ℕ
width_by [] bytes = 0
width_by (row ∷ rows) bytes = cond (begins row bytes) (length row) (width_by rows bytes)

unfoldable pub width_at : List ℕ → ℕ
width_at bytes = width_by sequences bytes

-- the code points of the sequences from the front on
unfoldable pub points_in : List ℕ → List ℕ
points_in text = items_in width_at point_in text

-- nothing is left behind them
unfoldable pub is_well_formed : List ℕ → Bool
is_well_formed text = eqb (length (rest_of width_at text)) 0
