use mathlib.Core.Path.{refl, sym, ◌∙◌}
use Rattle.paper.specs.Sizes.{PARTS}
use Rattle.channel.specs.Channel.{blank}
use Rattle.table.proofs.Every.{some_here, some_on, some_end}
use Rattle.lists.proofs.Arrays.{length_mapped}
use borrow.Author.Rules.{rules}
use native.Mathlib.Omega.{arith}
use Rattle.table.proofs.held_from.Goals as goal

pub loop-i-init : goal.loop-i-init
unfolding PARTS
loop-i-init c = (search (rules, length_mapped), refl)

pub returns-then-holds : goal.returns-then-holds
unfolding PARTS
returns-then-holds c =
    let l = c.loop-i in
    sym (l.invariant.1 ∙ some_here _ _ l.i blank (omega arith) (sym c.holds.ensures ∙ c.if-holds.true))

pub loop-i-preserved : goal.loop-i-preserved
unfolding PARTS
loop-i-preserved c =
    let l = c.loop-i in
    (l.invariant.0, l.invariant.1 ∙ some_on _ _ l.i blank (omega arith) (sym c.holds.ensures ∙ c.if-holds.false))

pub returns : goal.returns
unfolding PARTS
returns c =
    let l = c.loop-i in
    sym (l.invariant.1 ∙ some_end _ _ l.i (omega arith))
