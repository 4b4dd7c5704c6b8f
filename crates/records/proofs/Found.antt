-- What is found, by the number of its bytes.
-- Assumes nothing.
use mathlib.Core.Path.{◌≡◌}
use mathlib.Core.Logic.{⊎_elim}
use Prim.Native.Nat.{ℕ, ◌≤◌, ◌<◌}
use native.Mathlib.Omega.{arith}
use borrow.Author.Tests.{eq-eqb, ne_eqb}
use Rattle.std.proofs.Common.{None, Some}
use Rattle.lists.proofs.Cases.{lt_or_le}
use Rattle.records.specs.Records.{found}

pub found_none : (n : ℕ) → n ≡ 0 → found n ≡ None
unfolding found
found_none n e = rw (eq-eqb n 0 e)

pub found_some : (n : ℕ) → 0 < n → found n ≡ Some n
unfolding found
found_some n h = rw (ne_eqb n 0 (λ e. omega arith))

-- nothing is found where there are no bytes, and else they are
pub none_found : (n : ℕ) → found n ≡ None → n ≡ 0
none_found n e =
    ⊎_elim
    (λ (some : 0 < n). let other = found_some n some in let no : None ≡ Some n = cc in cc)
    (λ (none : n ≤ 0). omega arith)
    (lt_or_le 0 n)

pub some_found : (n k : ℕ) → found n ≡ Some k → (k ≡ n) × (0 < k)
some_found n k e =
    ⊎_elim
    (λ (some : 0 < n). let other = found_some n some in let same : k ≡ n = cc in (same, omega arith))
    (λ (none : n ≤ 0). let other = found_none n (omega arith) in let no : None ≡ Some k = cc in (cc, absurd (cc)))
    (lt_or_le 0 n)
