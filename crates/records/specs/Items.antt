-- A walk over records that only keeps something on its way: an item is made of each record, and with each item a step makes of what is
-- kept what is kept then. Over an input at once, and in pieces, as reads give it.
use Rattle.std.specs.Prelude.{ℕ, List, [], ◌∷◌, ◌++◌, map}
use Rattle.records.specs.Walks.{records_of, rest_of}

-- the items of the whole records
unfoldable pub items_in : {A : Type 0} → (List ℕ → ℕ) → (List ℕ → A) → List ℕ → List A
items_in extent item input = map item (records_of extent input)

-- what is kept after items
unfoldable pub after_items : {S A : Type 0} → (S → A → S) → S → List A → S
after_items step s [] = s
after_items step s (item ∷ items) = after_items step (step s item) items

-- ---- in pieces, as reads give them

-- where a walk stands: what it keeps, and the bytes that are left
pub record Stood (S : Type 0) : Type 0 where
  pub kept : S
  pub left : List ℕ

-- the bytes that are there: the whole records are taken, and the rest is left
abbrev pub stood_by : {S A : Type 0} → (List ℕ → ℕ) → (List ℕ → A) → (S → A → S) → S → List ℕ → Stood S
stood_by extent item step s input = record { kept = after_items step s (items_in extent item input); left = rest_of extent input }

-- read by read: what was left, and behind it what the read brings
unfoldable pub read_by : {S A : Type 0} → (List ℕ → ℕ) → (List ℕ → A) → (S → A → S) → Stood S → List (List ℕ) → Stood S
read_by extent item step at [] = at
read_by extent item step at (piece ∷ pieces) = read_by extent item step (stood_by extent item step at.kept (at.left ++ piece)) pieces

-- all that reads bring
unfoldable pub all_of : List (List ℕ) → List ℕ
all_of [] = []
all_of (piece ∷ pieces) = piece ++ all_of pieces
