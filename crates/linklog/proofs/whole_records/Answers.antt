use mathlib.Core.Path.{sym, ◌∙◌}
use Rattle.lists.proofs.Laid.{to_end}
use Rattle.linklog.proofs.Walked.{gone_on_law, gone_end}
use Rattle.linklog.proofs.whole_records.Goals as goal

pub loop-n-preserved : goal.loop-n-preserved
loop-n-preserved c =
    let l = c.loop-n in
    let input = c.args.input.now in
    gone_on_law input l.at l.invariant c.in-Some.n (sym (rw (to_end input l.at) at c.whole.ensures.value) ∙ c.in-Some.is)

pub returns : goal.returns
returns c =
    let l = c.loop-n in
    let input = c.args.input.now in
    (gone_end input l.at l.invariant (sym (rw (to_end input l.at) at c.whole.ensures.value) ∙ c.in_default.is), l.invariant.within)
