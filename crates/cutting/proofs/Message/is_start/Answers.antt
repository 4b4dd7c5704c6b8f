use mathlib.Core.Path.{sym, ◌∙◌}
use Rattle.cutting.proofs.Blocks.{end_after_law, end_from_law}
use Rattle.cutting.proofs.Starts.{walk_begins, walk_on, walk_ends, meets_end}
use borrow.Author.Rules.{rules}
use native.Mathlib.Omega.{arith}
use Rattle.cutting.proofs.Message.is_start.Goals as goal

pub loop-at-init : goal.loop-at-init
loop-at-init c = (search rules, walk_begins _ _ _)

pub returns-then-self-end : goal.returns-then-self-end
returns-then-self-end c =
    let a = c.args in
    let l = c.loop-at in
    sym (l.invariant.1 ∙ meets_end _ a.self.number a.self.total a.offset l.at c.loop-at-test.true
    (omega (arith, c.block_end-end.ensures)))

pub loop-at-smaller : goal.loop-at-smaller
loop-at-smaller c =
    let a = c.args in
    let l = c.loop-at in
    let end = c.block_end-end.ensures in
    omega (arith, end_after_law a.self.number a.self.total l.at (omega (arith, end_from_law a.self.number a.self.total l.at)))

pub loop-at-preserved : goal.loop-at-preserved
loop-at-preserved c =
    let a = c.args in
    let l = c.loop-at in
    let end = c.block_end-end.ensures in
    rw end (
      omega arith,
      l.invariant.1 ∙ walk_on a.self.number a.self.total a.offset l.at l.invariant.0
          c.loop-at-test.true (omega arith),
    )

pub returns : goal.returns
returns c =
    let l = c.loop-at in
    walk_ends _ _ _ _ _ c.loop-at-test.false ∙ sym l.invariant.1
