-- What is promised of names.
use Rattle.std.specs.Prelude.{◌≡◌, ℕ, ◌<◌, Bool, false, cond, not, ◌||◌, List, [], ◌∷◌, eqb, ℤ, pos, negsuc, Option, Some, is_some, Result, Ok, Err}
use Rattle.paper.specs.Refusals.{refusal_number}
use Rattle.paper.specs.Rows.{Row, row, Outcome, done, refusal}
use Rattle.paper.specs.declared.Refusal.TheVariants.{NoPartner, NoRoom}
use Rattle.paper.specs.declared.Refusal.{Refusal}
use Rattle.codepage.specs.Points.{BYTES, is_five, point_for}
use Rattle.codepage.specs.Utf8.{Spells}
use Rattle.codepage.specs.Names.{partners, result_of, is_over}

-- ---- which texts

-- "UTF-8 that [is] well formed": sequences of the standard's table, one behind the other, and nothing else
pub record WellFormed (text : List ℕ) : Type 0 where
  pub points : List ℕ
  pub spell : Spells points text

-- a name and its text: each byte's code point, and the bytes that spell these
pub record Same (name text : List ℕ) : Type 0 where
  pub points : List ℕ
  pub its_points : partners point_for name ≡ Some points
  pub spell : Spells points text

-- ---- which names

unfoldable pub has_five : List ℕ → Bool
has_five [] = false
has_five (b ∷ name) = is_five b || has_five name

abbrev pub Bytes : List ℕ → Type 0
Bytes [] = Unit {0}
Bytes (b ∷ bytes) = (b < BYTES) × Bytes bytes

-- ---- the refusals as rows

-- "19 [..]; 20 [..], after 19"
unfoldable pub converting_rows : Option (List ℕ) → List ℕ → List Row
converting_rows result out = row NoPartner (not (is_some result)) ∷ row NoRoom (is_over (result_of result) out) ∷ []

unfoldable pub outcome : Result ℕ Refusal → Outcome ℕ
outcome (Ok n) = done n
outcome (Err why) = refusal (refusal_number why)

-- ---- how C reads the one number: `negsuc n` is -1 - n

unfoldable pub answer_in : ℤ → Result ℕ Refusal
answer_in (pos n) = Ok n
answer_in (negsuc n) = cond (eqb n 18) (Err NoPartner) (Err NoRoom)
