use mathlib.Core.Path.{◌≡◌, sym, ap, ◌∙◌}
use mathlib.Core.Bool.{Bool, true, false, ◌&&◌}
use Prim.Native.Nat.{◌+◌}
use lib.ListN.{drop}
use Rattle.paper.specs.Sizes.{PARTS}
use Rattle.table.specs.Table.{holds, record_at}
use Rattle.table.specs.Sound.{some}
use Rattle.table.proofs.Twice.{twice_here, twice_on, twice_end}
use Rattle.saved.specs.Saved.{table_in}
use Rattle.saved.proofs.Judged.{length_table}
use native.Mathlib.Omega.{arith}
use Rattle.saved.proofs.pairs_apart.Goals as goal
use Rattle.saved.proofs.pairs_apart.Goals.{else-record-via-then-record+else-held_from, else-record-via-else-record}

pub returns-then-held_from : goal.returns-then-held_from
unfolding PARTS record_at
returns-then-held_from c =
    let l = c.loop-i in
    let state = c.args.state.now in
    let rs = (table_in state).records in
    let r = c.row-record.result in
    let twice : (r.taken && some (holds r.number) (drop (l.i + 1) rs)) ≡ true =
    ap (λ (b : Bool). b && some (holds r.number) (drop (l.i + 1) rs)) c.if-record.true
    ∙ sym c.held_from.ensures
    ∙ c.if-held_from.true in
    sym (l.invariant ∙ twice_here rs l.i (omega (arith, length_table state)) (rw c.row-record.ensures at twice))

pub loop-i-preserved : goal.loop-i-preserved
unfolding PARTS record_at
loop-i-preserved c =
    let l = c.loop-i in
    let state = c.args.state.now in
    let rs = (table_in state).records in
    let r = c.row-record.result in
    let behind = some (holds r.number) (drop (l.i + 1) rs) in
    let once : (r.taken && behind) ≡ false =
    elim c.else-record.branch [
      | else-record-via-then-record+else-held_from w ↦ ap (λ (b : Bool). b && behind) w.if-record.true ∙ sym w.held_from.ensures ∙ w.if-held_from.false
      | else-record-via-else-record w ↦ ap (λ (b : Bool). b && behind) w.if-record.false
    ] in
    l.invariant ∙ twice_on rs l.i (omega (arith, length_table state)) (rw c.row-record.ensures at once)

pub returns : goal.returns
unfolding PARTS
returns c =
    let l = c.loop-i in
    let state = c.args.state.now in
    sym (l.invariant ∙ twice_end _ l.i (omega (arith, length_table state)))
