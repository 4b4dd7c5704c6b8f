-- `lists::to_front` meets its contract: a byte is moved before its place is written over.
use Rattle.lists.proofs.Moving.{Moving}
use Rattle.lists.proofs.to_front.Given as goal

abbrev pub invariant-loop-i : goal.invariant-loop-i
invariant-loop-i l = Moving l.initial.bytes l.from l.bytes l.i
