use mathlib.Core.Path.{◌≡◌, refl, sym, ap, ◌∙◌}
use Prim.Native.Nat.{ℕ, ◌<◌}
use native.Mathlib.Omega.{arith}
use Rattle.paper.specs.Sizes.{PARTS}
use Rattle.table.specs.declared.Table.{Table}
use Rattle.table.specs.declared.Found.{Found}
use Rattle.table.specs.Table.{number_place, found_in}
use Rattle.shore.specs.Numbers.{least_number}
use Rattle.shore.proofs.Least.{hit, miss, behind}
use Rattle.shore.proofs.least_number.Goals as goal

found_place : (number : ℕ) (t : Table) (f : Found) → f ≡ found_in number t → f.place ≡ number_place number t
unfolding found_in
found_place number t f e = ap (λ (x : Found). x.place) e

pub loop-number-init : goal.loop-number-init
unfolding PARTS least_number
loop-number-init c = refl

pub returns-then-find_number-ge-PARTS : goal.returns-then-find_number-ge-PARTS
unfolding PARTS
returns-then-find_number-ge-PARTS c =
    let l = c.loop-number in
    let t = c.args.table in
    let place = found_place l.number t _ c.find_number.ensures in
    sym (hit l.number t (omega arith) (rw (← place) c.if-find_number-ge-PARTS.true)) ∙ l.invariant

pub loop-number-preserved : goal.loop-number-preserved
unfolding PARTS
loop-number-preserved c =
    let l = c.loop-number in
    let t = c.args.table in
    let place = found_place l.number t _ c.find_number.ensures in
    let has : number_place l.number t < PARTS = omega (arith, place, c.if-find_number-ge-PARTS.false) in
    miss l.number t (omega arith) has ∙ l.invariant

pub returns : goal.returns
unfolding PARTS
returns c =
    let l = c.loop-number in
    let all : l.number ≡ 17 = omega arith in
    sym all ∙ (sym (behind l.number c.args.table (omega arith)) ∙ l.invariant)
