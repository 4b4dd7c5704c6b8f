use mathlib.Core.Path.{refl, sym, ◌∙◌}
use lib.ListN.{length-set}
use Rattle.lists.proofs.Laid.{laid_turn, laid_end}
use native.Mathlib.Omega.{arith}
use Rattle.lists.proofs.copy.Goals as goal

pub loop-i-init : goal.loop-i-init
loop-i-init c = (refl, (omega arith, c.min-n.ensures), refl)

pub loop-i-preserved : goal.loop-i-preserved
loop-i-preserved c =
    let l = c.loop-i in
    (simp length-set l.invariant.0, (omega arith, l.invariant.1.1), laid_turn _ _ l.i (omega arith) ∙ l.invariant.2)

pub shape_of-part : goal.shape_of-part
shape_of-part c = c.loop-i.invariant.0

pub returns : goal.returns
returns c = let l = c.loop-i in sym (laid_end _ _ l.i (omega arith)) ∙ l.invariant.2
