-- The table of refusals, read from top to bottom: a row for each refusal with whether what it is given for holds,
-- and "the first that holds". What an entry's rows are stands beside the entry.
use Rattle.std.specs.Prelude.{ℕ, Bool, true, false, cond, List, [], ◌∷◌}
use Rattle.paper.specs.declared.Refusal.{Refusal}
use Rattle.paper.specs.Refusals.{refusal_number}

-- a refusal, or none
pub data Verdict : Type 0 where
  fine : Verdict
  refused_with : Refusal → Verdict

abbrev pub is_fine : Verdict → Bool
is_fine fine = true
is_fine (refused_with why) = false

-- as one number: the refusal's, or 0 for none
abbrev pub verdict_number : Verdict → ℕ
verdict_number fine = 0
verdict_number (refused_with why) = refusal_number why

-- a row of the table: the refusal, and whether what it is given for holds
pub record Row : Type 0 where
  pub refusal : Refusal
  pub holds : Bool

abbrev pub row : Refusal → Bool → Row
row why test = record { refusal = why; holds = test }

-- "the first that holds"
unfoldable pub first_held : List Row → Verdict
first_held [] = fine
first_held (r ∷ rows) = cond r.holds (refused_with r.refusal) (first_held rows)

-- a definition that answers the first that holds: this answer where the test holds, and else the rest
abbrev pub refuse : {A : Type 0} → A → Bool → A → A
refuse answer test rest = cond test answer rest

-- an answer in the paper's terms: what was done, or the refusal's number
pub data Outcome (A : Type 0) : Type 0 where
  done : A → Outcome A
  refusal : ℕ → Outcome A

-- what the first row that holds comes to, where what is done otherwise is known
unfoldable pub comes_to : {A : Type 0} → A → Verdict → Outcome A
comes_to a fine = done a
comes_to a (refused_with why) = refusal (refusal_number why)
