-- `listeners::same` meets its contract. Bytes before i are equal, so at the end the
-- names are; a length or a byte that differs makes them differ.
use mathlib.Core.Path.{◌≡◌}
use Prim.Native.Nat.{ℕ, ◌<◌}
use lib.ListN.{length, get_or}
use Rattle.listeners.proofs.same.Given as goal

abbrev pub invariant-loop-i : goal.invariant-loop-i
invariant-loop-i l = (length l.a ≡ length l.b) × ((k : ℕ) → k < l.i → get_or l.a k 0 ≡ get_or l.b k 0)
