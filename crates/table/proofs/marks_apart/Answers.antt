use mathlib.Core.Path.{◌≡◌, sym, ap, ◌∙◌}
use Prim.Native.Nat.{ℕ, ◌-◌}
use borrow.Author.Tests.{eqb-true}
use lib.ListN.{length, length-set, get_or, drop}
use Rattle.paper.specs.Sizes.{PARTS}
use Rattle.lists.proofs.Arrays.{length_mapped}
use Rattle.lists.proofs.Cases.{true_not_false}
use Rattle.channel.specs.Channel.{blank}
use Rattle.table.specs.Totals.{opens, total}
use Rattle.table.proofs.Recount.{total_back, total_end, opens_most, opens_none}
use Rattle.table.proofs.Marks.{passed_none, passed_free, passed_taken, passed_all}
use borrow.Author.Rules.{rules}
use native.Mathlib.Omega.{arith}
use Rattle.table.proofs.marks_apart.Goals as goal

pub loop-i-init : goal.loop-i-init
unfolding PARTS
loop-i-init c =
    let long : length c.args.table.records ≡ PARTS = search (rules, length_mapped) in
    (long, search rules, passed_none _ _ _ long, sym (total_end opens c.args.table.records PARTS (rw long (omega arith))), omega arith)

pub returns-then-marks-mark : goal.returns-then-marks-mark
returns-then-marks-mark c = λ e. absurd (true_not_false (sym e))

pub overflow_add-channels : goal.overflow_add-channels
unfolding PARTS
overflow_add-channels c =
    let l = c.loop-i in
    let rs = c.args.table.records in
    omega (arith, l.invariant.4, c.opens-channels.ensures, opens_most (get_or rs (l.i - 1) blank))

pub loop-i-preserved-then-record : goal.loop-i-preserved-then-record
loop-i-preserved-then-record c =
    let l = c.loop-i in
    let inv = l.invariant in
    let rs = c.args.table.records in
    let here = opens_most (get_or rs (l.i - 1) blank) in
    let counted = total_back opens rs l.i (omega arith) (omega (arith, inv.0, inv.4)) in (
      inv.0,
      simp length-set inv.1,
      passed_taken _ _ _ (omega arith) inv.2 inv.1 c.if-record.true c.if-marks-mark.false,
      omega (arith, inv.3, counted, c.opens-channels.ensures),
      omega (arith, inv.4, c.opens-channels.ensures, here),
    )

pub loop-i-preserved : goal.loop-i-preserved
loop-i-preserved c =
    let l = c.loop-i in
    let inv = l.invariant in
    let rs = c.args.table.records in
    let free = opens_none (get_or rs (l.i - 1) blank) c.if-record.false in
    let counted = total_back opens rs l.i (omega arith) (omega (arith, inv.0, inv.4)) in (
      inv.0,
      inv.1,
      passed_free _ _ _ (omega arith) inv.2 c.if-record.false,
      omega (arith, inv.3, counted, free),
      omega (arith, inv.4),
    )

pub returns : goal.returns
returns c =
    let l = c.loop-i in
    let rs = c.args.table.records in
    let none : l.i ≡ 0 = omega arith in
    λ e. (
      passed_all _ _ _ (omega arith) l.invariant.2,
      ap (λ (i : ℕ). total opens (drop i rs)) (sym none) ∙ sym l.invariant.3 ∙ eqb-true _ _ e,
    )
