-- A rule of a table, carried to each of its entries by one test that is computed over the whole table.
-- Assumes nothing.
use mathlib.Core.Path.{◌≡◌, refl}
use mathlib.Core.Bool.{Bool, true, ◌&&◌}
use mathlib.Core.List.{List, [], ◌∷◌}
use Prim.Native.Nat.{ℕ, zero, suc, ◌+◌, ◌<◌}
use native.Mathlib.Omega.{arith}
use lib.ListN.{length, get_or}
use Rattle.lists.proofs.Cases.{both}

-- the test passes at each entry, with its place counted from k
abbrev pub every : (ℕ → ℕ → Bool) → ℕ → List ℕ → Bool
every test k [] = true
every test k (x ∷ xs) = test k x && every test (suc k) xs

-- so it passes at the i-th
from : (test : ℕ → ℕ → Bool) (d : ℕ) (xs : List ℕ) (k : ℕ) → every test k xs ≡ true → (i : ℕ) → i < length xs → test (k + i) (get_or xs i d) ≡ true
from test d [] k t i h = absurd (omega arith)
from test d (x ∷ xs) k t zero h =
    let here : k + 0 ≡ k = omega arith in
    rw here (both (test k x) (every test (suc k) xs) t).0
from test d (x ∷ xs) k t (suc i) h =
    let next : k + suc i ≡ suc k + i = omega arith in
    rw next (from test d xs (suc k) (both (test k x) (every test (suc k) xs) t).1 i (omega arith))

pub at_each : (test : ℕ → ℕ → Bool) (d : ℕ) (xs : List ℕ) → every test 0 xs ≡ true → (i : ℕ) → i < length xs → test i (get_or xs i d) ≡ true
at_each test d xs t i h =
    let all : 0 + i ≡ i = omega arith in
    rw all at (from test d xs 0 t i h)

-- an entry that is there is the same whatever stands for one that isn't
pub entry_there : (xs : List ℕ) (i d e : ℕ) → i < length xs → get_or xs i d ≡ get_or xs i e
entry_there [] i d e h = absurd (omega arith)
entry_there (x ∷ xs) zero d e h = refl
entry_there (x ∷ xs) (suc i) d e h = entry_there xs i d e (omega arith)
