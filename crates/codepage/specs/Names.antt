-- "Names are single bytes of Windows-1252; the viewer takes UTF-8. We want the conversion both ways".
use Rattle.std.specs.Prelude.{ℕ, ◌-◌, ◌^◌, ◌<◌, Bool, cond, List, [], ◌∷◌, eqb, ltb, ℤ, pos, neg_ℤ, length, take, Option, None, Some, option_map, Result, Ok, Err}
use Rattle.lists.specs.Bytes.{laid}
use Rattle.paper.specs.Refusals.{refusal_number}
use Rattle.paper.specs.Rows.{refuse}
use Rattle.paper.specs.declared.Refusal.TheVariants.{NoPartner, NoRoom}
use Rattle.paper.specs.declared.Refusal.{Refusal}
use Rattle.codepage.specs.declared.Front.{Front}
use Rattle.codepage.specs.Points.{point_for, byte_for}
use Rattle.codepage.specs.Utf8.{point_in, spelled, width_at, points_in, is_well_formed}

-- ---- both ways

abbrev pub with_first : Option ℕ → Option (List ℕ) → Option (List ℕ)
with_first None others = None
with_first (Some first) None = None
with_first (Some first) (Some others) = Some (first ∷ others)

-- each one's partner in order, if each has one
unfoldable pub partners : (ℕ → Option ℕ) → List ℕ → Option (List ℕ)
partners partner [] = Some []
partners partner (x ∷ xs) = with_first (partner x) (partners partner xs)

-- a name in UTF-8, unless "a byte [..] without partner" is in it
unfoldable pub utf8_of : List ℕ → Option (List ℕ)
utf8_of name = option_map spelled (partners point_for name)

-- the name of a text, unless a "code point without partner" is in it, "or UTF-8 that isn't well formed"
unfoldable pub name_of : List ℕ → Option (List ℕ)
name_of text = cond (is_well_formed text) (partners byte_for (points_in text)) None

abbrev pub result_of : Option (List ℕ) → List ℕ
result_of None = []
result_of (Some result) = result

-- ---- a text from its front on

-- a sequence of so many bytes, if its code point has a byte
abbrev pub front_by : Option ℕ → ℕ → Option Front
front_by None width = None
front_by (Some byte) width = Some (record { byte = byte; width = width })

-- what stands at the front of a text
unfoldable pub front_of : List ℕ → Option Front
front_of text = cond (eqb (width_at text) 0) None (front_by (byte_for (point_in (take (width_at text) text))) (width_at text))

-- ---- what a call answers, and what it leaves

-- "20, the result doesn't fit the lent buffer"
abbrev pub is_over : List ℕ → List ℕ → Bool
is_over result out = ltb (length out) (length result)

-- "19, a byte or code point without partner, or UTF-8 that isn't well formed; 20 [..], after 19"
unfoldable pub answer_for : Option (List ℕ) → List ℕ → Result ℕ Refusal
answer_for None out = Err NoPartner
answer_for (Some result) out = refuse (Err NoRoom) (is_over result out) (Ok (length result))

-- "Both leave the buffer unchanged." Bytes behind the written ones stay
unfoldable pub buffer_for : Option (List ℕ) → List ℕ → List ℕ
buffer_for None out = out
buffer_for (Some result) out = cond (is_over result out) out (laid out 0 result)

-- how much room is left behind a result, if it fits
abbrev pub room_after : Option (List ℕ) → ℕ → Option ℕ
room_after None room = None
room_after (Some result) room = cond (ltb room (length result)) None (Some (room - length result))

-- how long a result is, if there is one
abbrev pub size_of : Option (List ℕ) → Option ℕ
size_of r = option_map length r

-- ---- for C: the length, or the refusal's number below zero

-- no slice has 2 ^ 63 bytes, so that each length can be told
abbrev pub Countable : Result ℕ Refusal → Type 0
Countable (Ok n) = n < 2 ^ 63
Countable (Err why) = Unit {0}

unfoldable pub number_for : Result ℕ Refusal → ℤ
number_for (Ok n) = pos n
number_for (Err why) = neg_ℤ (pos (refusal_number why))
