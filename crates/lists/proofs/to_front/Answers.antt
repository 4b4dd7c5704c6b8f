use mathlib.Core.Path.{refl, sym}
use Rattle.lists.proofs.Laid.{whole}
use Rattle.lists.proofs.Moving.{moving_first, moving_on, moving_last}
use native.Mathlib.Omega.{arith}
use Rattle.lists.proofs.to_front.Goals as goal

pub returns-then-from-eq0 : goal.returns-then-from-eq0
returns-then-from-eq0 c = rw c.if-from-eq0.true (sym (whole _ _ refl))

pub loop-i-init : goal.loop-i-init
loop-i-init c = moving_first _ _

pub loop-i-preserved : goal.loop-i-preserved
loop-i-preserved c = moving_on c.loop-i.invariant (omega arith)

pub shape_of-bytes : goal.shape_of-bytes
shape_of-bytes c = c.loop-i.invariant.long

pub returns : goal.returns
returns c = moving_last c.loop-i.invariant (omega arith)
