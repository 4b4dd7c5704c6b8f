-- `status_face::dvc_count` meets its contract: refusals 1 and 8, and behind them the count of the record that is found.
use mathlib.Core.Path.{sym, ◌∙◌}
use borrow.Author.Tests.{not-true, not-false}
use Rattle.paper.specs.Sizes.{PARTS}
use Rattle.status_face.proofs.Counts.{shut_free, shut_awaited, is_open_law, count_refused, count_shut, count_given}
use Rattle.status_face.proofs.dvc_count.Goals as goal

pub returns-then-not-good : goal.returns-then-not-good
unfolding PARTS
returns-then-not-good c =
    let a = c.args in
    count_refused a.state.now a.number _ (sym c.good.ensures ∙ c.if-not-good.true) c.refuse.ensures

pub returns-then-not-row : goal.returns-then-not-row
unfolding PARTS
returns-then-not-row c =
    let a = c.args in
    count_shut a.state.now a.number _ _ (sym c.good.ensures ∙ c.if-not-good.false) c.find.ensures
    (shut_free c.find.result.row (not-true _ c.if-not-row.true)) c.refuse-then-not-row.ensures

pub returns-then-row : goal.returns-then-row
unfolding PARTS
returns-then-row c =
    let a = c.args in
    count_shut a.state.now a.number _ _ (sym c.good.ensures ∙ c.if-not-good.false) c.find.ensures
    (shut_awaited c.find.result.row c.if-row.true) c.refuse-then-row.ensures

pub returns : goal.returns
returns c =
    let a = c.args in
    count_given a.state.now a.number _ _ (sym c.good.ensures ∙ c.if-not-good.false) c.find.ensures
    (is_open_law c.find.result.row (not-false _ c.if-not-row.false) c.if-row.false) c.pack_count.ensures
