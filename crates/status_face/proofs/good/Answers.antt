-- `status_face::good` meets its contract: its tests are the definition's.
use mathlib.Core.Path.{sym, ◌∙◌}
use Rattle.status_face.proofs.Counts.{fair_client, fair_shore}
use Rattle.status_face.proofs.good.Goals as goal

pub returns-then-good : goal.returns-then-good
returns-then-good c = fair_client c.args.state.now (sym c.good.ensures ∙ c.if-good.true)

pub returns : goal.returns
returns c = fair_shore c.args.state.now _ (sym c.good.ensures ∙ c.if-good.false) c.good-2.ensures
