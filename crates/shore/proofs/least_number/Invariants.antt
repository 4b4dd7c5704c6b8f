-- `shore::least_number` meets its contract: each number before this one has a record.
use mathlib.Core.Path.{◌≡◌}
use Prim.Native.Nat.{◌+◌, ◌≤◌}
use Rattle.paper.specs.Sizes.{PARTS}
use Rattle.shore.specs.Numbers.{least_from, least_number}
use Rattle.shore.proofs.Least.{left}
use Rattle.shore.proofs.least_number.Given as goal

abbrev pub invariant-loop-number : goal.invariant-loop-number
invariant-loop-number l = least_from (left l.number) l.number l.table ≡ least_number l.table
