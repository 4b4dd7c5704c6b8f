-- `numbers::number` meets its contract: the value is that of the bytes from `at` up to the fourth.
use mathlib.Core.Path.{◌≡◌}
use Prim.Native.Nat.{◌-◌}
use Rattle.numbers.specs.Numbers.{value_at}
use Rattle.numbers.proofs.number.Given as goal

abbrev pub invariant-loop-at : goal.invariant-loop-at
invariant-loop-at l = l.value ≡ value_at l.bytes l.at (4 - l.at)
