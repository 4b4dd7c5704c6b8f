-- `status_face::dvc_totals` meets its contract: refusal 1, and behind it the totals as they are read.
use mathlib.Core.Path.{sym, ◌∙◌}
use Rattle.paper.specs.Sizes.{PARTS}
use Rattle.status_face.proofs.Counts.{totals_refused, totals_given}
use Rattle.status_face.proofs.dvc_totals.Goals as goal

pub returns-then-not-headed : goal.returns-then-not-headed
unfolding PARTS
returns-then-not-headed c = totals_refused c.args.state.now _ (sym c.headed.ensures ∙ c.if-not-headed.true) c.refuse.ensures

pub returns : goal.returns
returns c = totals_given c.args.state.now _ _ (sym c.headed.ensures ∙ c.if-not-headed.false) c.read_head.ensures
    c.pack_count.ensures
