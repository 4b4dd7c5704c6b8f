use mathlib.Core.Path.{refl, sym, ◌∙◌}
use Rattle.paper.specs.Sizes.{PARTS}
use Rattle.table.proofs.Twice.{twice_here, twice_on, twice_end}
use Rattle.lists.proofs.Arrays.{length_mapped}
use borrow.Author.Rules.{rules}
use native.Mathlib.Omega.{arith}
use Rattle.table.proofs.pairs_apart.Goals as goal
use Rattle.table.proofs.pairs_apart.Goals.{else-record-via-then-record+else-held_from, else-record-via-else-record}

pub loop-i-init : goal.loop-i-init
unfolding PARTS
loop-i-init c = (search (rules, length_mapped), refl)

pub returns-then-held_from : goal.returns-then-held_from
unfolding PARTS
returns-then-held_from c =
    let l = c.loop-i in
    sym (l.invariant.1 ∙ twice_here _ l.i (omega arith) (rw c.if-record.true (sym c.held_from.ensures ∙ c.if-held_from.true)))

pub loop-i-preserved : goal.loop-i-preserved
unfolding PARTS
loop-i-preserved c = let l = c.loop-i in (
  l.invariant.0,
  l.invariant.1 ∙ twice_on _ l.i (omega arith) (elim c.else-record.branch [
    | else-record-via-then-record+else-held_from w ↦ rw w.if-record.true (sym w.held_from.ensures ∙ w.if-held_from.false)
    | else-record-via-else-record w ↦ rw w.if-record.false
  ]),
)

pub returns : goal.returns
unfolding PARTS
returns c =
    let l = c.loop-i in
    sym (l.invariant.1 ∙ twice_end _ l.i (omega arith))
