-- `shore::settle` meets its contract: its tests are the definition's.
use mathlib.Core.Path.{◌≡◌, sym, ap, ◌∙◌}
use mir.Syntax.{w32}
use mir.Val.{to_z, of_z}
use mir.Facts.{to_z-of_z}
use Rattle.shore.specs.Rules.{is_below_zero}
use Rattle.shore.proofs.Laws.{too_soon_law, not_awaited, declined, accepted}
use Rattle.shore.proofs.settle.Goals as goal

pub returns-then-not-ready : goal.returns-then-not-ready
returns-then-not-ready c = c.too_soon.ensures ∙ too_soon_law _ _ _ _ _ (c.if-not-ready.true)

pub returns-then-not-row : goal.returns-then-not-row
returns-then-not-row c = c.says.ensures ∙ not_awaited _ _ _ _ _ (c.if-not-ready.false) (c.if-not-row.true)

pub returns-then-below_zero : goal.returns-then-below_zero
returns-then-below_zero c =
    let read_back : is_below_zero (to_z w32 (of_z w32 c.args.status)) ≡ is_below_zero c.args.status = ap is_below_zero (to_z-of_z {w = w32} c.ranges.status) in
    declined _ _ _ _ _ (c.if-not-ready.false) (c.if-not-row.false) (sym (c.below_zero.ensures ∙ read_back) ∙ c.if-below_zero.true)

pub returns : goal.returns
returns c =
    let read_back : is_below_zero (to_z w32 (of_z w32 c.args.status)) ≡ is_below_zero c.args.status = ap is_below_zero (to_z-of_z {w = w32} c.ranges.status) in
    rw c.settled.ensures (accepted _ _ _ _ _ (c.if-not-ready.false) (c.if-not-row.false) (sym (c.below_zero.ensures ∙ read_back) ∙ c.if-below_zero.false))
