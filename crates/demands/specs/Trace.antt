-- A run of any machine: its last state, and what is seen of those of its inputs that pass a test.
use Rattle.std.specs.Prelude.{◌≡◌, Bool, true, false, List, [], ◌∷◌}

abbrev pub cons_if : {A : Type 0} → Bool → A → List A → List A
cons_if true a l = a ∷ l
cons_if false a l = l

-- the elements that pass a test, in their order
abbrev pub keep : {A : Type 0} → (A → Bool) → List A → List A
keep p [] = []
keep p (a ∷ l) = cons_if (p a) a (keep p l)

-- the state after a list of inputs
abbrev pub final : {S R : Type 0} → (S → R → S) → S → List R → S
final next s [] = s
final next s (x ∷ xs) = final next (next s x) xs

-- what `f` says of each input that passes a test, both at the state that it meets
abbrev pub seen_at : {S R A : Type 0} → (S → R → S) → (S → R → Bool) → (S → R → A) → S → List R → List A
seen_at next on f s [] = []
seen_at next on f s (x ∷ xs) = cons_if (on s x) (f s x) (seen_at next on f (next s x) xs)

-- the same by a test of the inputs alone
abbrev pub seen : {S R A : Type 0} → (S → R → S) → (R → Bool) → (S → R → A) → S → List R → List A
seen next on f s xs = seen_at next (λ t. on) f s xs

-- no input of the run passes a test at the state that it meets
abbrev pub Never : {S R : Type 0} → (S → R → S) → (S → R → Bool) → S → List R → Type 0
Never next test s [] = Unit {0}
Never next test s (x ∷ xs) = (test s x ≡ false) × Never next test (next s x) xs
