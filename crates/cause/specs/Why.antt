-- The program `why`: its argument, and its one line.
use Rattle.std.specs.Prelude.{ℕ, ◌+◌, Bool, true, cond, not, ◌&&◌, Option, None, Some, Result, Ok, Err, List, [], ◌∷◌, ◌++◌, length, ◌==◌, nat_le, nat_lt}
use Rattle.paper.specs.Refusals.{refusal_number}
use Rattle.channel.specs.declared.Answer.{Answer}
use Rattle.lines.specs.Decimal.{FIELD_MAX, field, spelt}
use Rattle.lines.specs.Lines.{SPACE, LF, ANSWER_MAX, answer_fields}
use Rattle.records.specs.Records.{PLACES}
use Rattle.rules.specs.Rules.{name_text}
use Rattle.cause.specs.declared.Cause.{Cause}
use Rattle.cause.specs.declared.Cause.TheVariants.{SpoiledBy, ByRule}
use Rattle.cause.specs.declared.Said.{Said}
use Rattle.cause.specs.declared.NoPlace.{NoPlace}
use Rattle.cause.specs.declared.NoPlace.TheVariants.{Beyond, NoDigits}

-- ---- the argument: "PLACE is digits only [..] 2^64 and more is absent, however many digits, never wrapped"

unfoldable pub is_digit : ℕ → Bool
is_digit b = nat_le 48 b && nat_le b 57

unfoldable pub all_digits : List ℕ → Bool
all_digits [] = true
all_digits (b ∷ bs) = is_digit b && all_digits bs

-- a number of any length by its digits
unfoldable pub sought_by : ℕ → Result ℕ NoPlace
sought_by n = cond (nat_lt n PLACES) (Ok n) (Err Beyond)

unfoldable pub sought_in : List ℕ → Result ℕ NoPlace
sought_in word = cond (not (length word == 0) && all_digits word) (sought_by (spelt 0 word)) (Err NoDigits)

-- ---- the line

-- "spoiled at ", "by ", "rule " and "absent" with its LF
abbrev pub SPOILED_AT : List ℕ
SPOILED_AT = 115 ∷ 112 ∷ 111 ∷ 105 ∷ 108 ∷ 101 ∷ 100 ∷ 32 ∷ 97 ∷ 116 ∷ 32 ∷ []

abbrev pub BY : List ℕ
BY = 98 ∷ 121 ∷ 32 ∷ []

abbrev pub RULE : List ℕ
RULE = 114 ∷ 117 ∷ 108 ∷ 101 ∷ 32 ∷ []

abbrev pub ABSENT : List ℕ
ABSENT = 97 ∷ 98 ∷ 115 ∷ 101 ∷ 110 ∷ 116 ∷ 10 ∷ []

-- the most bytes of a line: the answer's fields, "spoiled at ", a place, "by ", and a number
abbrev pub WHY_MAX : ℕ
WHY_MAX = ANSWER_MAX + 11 + FIELD_MAX + 3 + FIELD_MAX

-- "the fields of the walker's line without the place, then for a 13 ` spoiled at P by R`, for another refusal ` rule NAME`"
unfoldable pub why_line : Answer → ℕ → Option Cause → List ℕ
why_line answer sent None = answer_fields answer sent LF
why_line answer sent (Some (SpoiledBy place why)) =
    (((answer_fields answer sent SPACE ++ SPOILED_AT) ++ field place SPACE) ++ BY) ++ field (refusal_number why) LF
why_line answer sent (Some (ByRule rule)) = (answer_fields answer sent SPACE ++ RULE) ++ name_text rule

-- "or `absent`"
unfoldable pub said_line : Option Said → List ℕ
said_line None = ABSENT
said_line (Some said) = why_line said.answer said.sent said.cause
