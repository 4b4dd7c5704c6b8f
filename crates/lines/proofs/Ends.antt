-- Where text ends that is laid behind text, and what both are.
-- Assumes nothing.
use mathlib.Core.Path.{◌≡◌, ◌∙◌}
use mathlib.Core.List.{List, ◌++◌}
use Prim.Native.Nat.{ℕ, ◌+◌}
use native.Mathlib.Omega.{arith}
use lib.ListN.{length, length-append}
use Rattle.lists.specs.Bytes.{laid}
use Rattle.lists.proofs.Laid.{laid_behind}

pub ends : (front text : List ℕ) {n m : ℕ} → n ≡ length front → m ≡ length text → n + m ≡ length (front ++ text)
ends front text p q = simp length-append (omega arith)

-- a buffer written from a place on in two steps
pub laid_further : (out mid after bs cs : List ℕ) (at n : ℕ) → n ≡ length bs → mid ≡ laid out at bs → after ≡ laid mid (at + n) cs
    → after ≡ laid out at (bs ++ cs)
laid_further out mid after bs cs at n e f g = g ∙ rw (f, e) (laid_behind out at bs cs)
