use mathlib.Core.Path.{◌≡◌, sym, ◌∙◌}
use mathlib.Core.Bool.{false}
use Rattle.paper.specs.Sizes.{PARTS}
use Rattle.channel.specs.Channel.{blank}
use Rattle.table.specs.Table.{holds, record_at}
use Rattle.table.proofs.Every.{some_here, some_on, some_end}
use Rattle.saved.specs.Saved.{table_in}
use Rattle.table.proofs.Twice.{holds_own, holds_other, holds_none}
use Rattle.saved.proofs.Judged.{length_table}
use native.Mathlib.Omega.{arith}
use Rattle.saved.proofs.held_from.Goals as goal
use Rattle.saved.proofs.held_from.Goals.{else-record-via-then-record+else-record-number, else-record-via-else-record}

pub returns-then-record-number : goal.returns-then-record-number
unfolding PARTS record_at
returns-then-record-number c =
    let l = c.loop-i in
    let a = c.args in
    let rs = (table_in a.state.now).records in
    let r = c.row-record in
    let own = rw r.ensures at (holds_own a.number r.result c.if-record.true c.if-record-number.true) in
    sym (l.invariant ∙ some_here (holds a.number) rs l.i blank (omega (arith, length_table a.state.now)) own)

pub loop-i-preserved : goal.loop-i-preserved
unfolding PARTS record_at
loop-i-preserved c =
    let l = c.loop-i in
    let a = c.args in
    let rs = (table_in a.state.now).records in
    let not_it : holds a.number c.row-record.result ≡ false =
    elim c.else-record.branch [
      | else-record-via-then-record+else-record-number w ↦ holds_other a.number _ w.if-record-number.false
      | else-record-via-else-record w ↦ holds_none a.number _ w.if-record.false
    ] in
    l.invariant ∙ some_on (holds a.number) rs l.i blank (omega (arith, length_table a.state.now)) (rw c.row-record.ensures at not_it)

pub returns : goal.returns
unfolding PARTS
returns c =
    let l = c.loop-i in
    let state = c.args.state.now in
    sym (l.invariant ∙ some_end _ _ l.i (omega (arith, length_table state)))
