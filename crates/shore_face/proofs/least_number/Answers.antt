use mathlib.Core.Path.{◌≡◌, refl, sym, ◌∙◌}
use borrow.Author.Tests.{not-true, not-false}
use Rattle.paper.specs.Sizes.{PARTS}
use Rattle.shore.specs.Numbers.{least_number}
use Rattle.shore.proofs.Least.{hit, miss, behind}
use Rattle.saved.specs.Saved.{table_in}
use Rattle.shore_face.proofs.Least.{seat, no_seat}
use native.Mathlib.Omega.{arith}
use Rattle.shore_face.proofs.least_number.Goals as goal

pub loop-number-init : goal.loop-number-init
unfolding PARTS least_number
loop-number-init c = refl

pub returns-then-not-find : goal.returns-then-not-find
unfolding PARTS
returns-then-not-find c =
    let n = c.loop-number.number in
    let l = c.args.state.now in
    let none = no_seat n l _ c.requires c.find.ensures (not-true _ c.if-not-find.true) in
    sym (hit n (table_in l) (omega arith) none) ∙ c.loop-number.invariant

pub loop-number-preserved : goal.loop-number-preserved
unfolding PARTS
loop-number-preserved c =
    let n = c.loop-number.number in
    let l = c.args.state.now in
    let has = seat n l _ c.requires c.find.ensures (not-false _ c.if-not-find.false) in
    miss n (table_in l) (omega arith) has ∙ c.loop-number.invariant

pub returns : goal.returns
unfolding PARTS
returns c =
    let l = c.loop-number in
    let all : l.number ≡ 17 = omega arith in
    sym all ∙ (sym (behind l.number (table_in c.args.state.now) (omega arith)) ∙ l.invariant)
