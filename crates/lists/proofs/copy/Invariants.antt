-- `lists::copy` meets its contract. What is laid so far, with the rest of the block still to be laid, is
-- always the whole block laid; at the end of either slice nothing more would be laid.
use mathlib.Core.Path.{◌≡◌}
use Prim.Native.Nat.{◌≤◌, min}
use lib.ListN.{length, drop}
use Rattle.lists.specs.Bytes.{laid}
use Rattle.lists.proofs.copy.Given as goal

abbrev pub invariant-loop-i : goal.invariant-loop-i
invariant-loop-i l = (length l.part ≡ length l.initial.part) × ((l.i ≤ l.n) × (l.n ≡ min (length l.initial.part) (length l.block)))
    × (laid l.part l.i (drop l.i l.block) ≡ laid l.initial.part 0 l.block)
