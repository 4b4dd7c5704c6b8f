use native.Mathlib.Omega.{arith}
use borrow.Author.Rules.{rules}
use Rattle.table.proofs.OneHot.{begin, turn, done}
use Rattle.lists.proofs.Arrays.{length_mapped}
use Rattle.paper.specs.Sizes.{PARTS}
use lib.ListN.{length}
use mathlib.Core.Logic.{inl, inr}
use mathlib.Core.Path.{◌≡◌, refl, ap, ◌∙◌}
use Rattle.table.specs.declared.Table.{Table}
use Rattle.table.specs.Table.{placed, bit_of, put_back}
use Rattle.table.proofs.put.Goals as goal
use Rattle.table.proofs.put.Goals.{then-rest-eq1, else-rest-eq1}

pub loop-i-init : goal.loop-i-init
unfolding PARTS
loop-i-init c = let long : length c.args.table.records ≡ PARTS = search (rules, length_mapped) in (search rules, long, λ j e. begin _ j _ _ long e)

pub loop-i-preserved : goal.loop-i-preserved
unfolding PARTS placed
loop-i-preserved c = let l = c.loop-i in (
  omega arith,
  l.invariant.1,
  λ j e. turn _ j _ l.i l.rest l.next _ (l.invariant.2 j e)
      (elim c.if-rest-eq1.branch [
        | then-rest-eq1 w ↦ inl (w.if-rest-eq1.true, w.next-is)
        | else-rest-eq1 w ↦ inr (w.if-rest-eq1.false, w.next-is)
      ]),
)

pub returns : goal.returns
unfolding PARTS put_back placed
returns c =
    let l = c.loop-i in
    let bit = c.bit-rest.ensures ∙ ap bit_of c.site.ensures in
    let rows = done _ _ _ l.i l.rest l.next (omega arith) (l.invariant.2 _ bit) in
    ap (λ (t : Table). record { totals = c.totals_after-next.result; ready = t.ready; level = t.level; records = t.records }) rows
    ∙ rw (c.totals_after-next.ensures, c.next_record-record.ensures) refl
