-- `reading::read_strict` meets its contract: what is found is judged as the definition judges it.
use mathlib.Core.Path.{sym, ◌∙◌}
use Rattle.reading.proofs.Judged.{kinds, stays, is_loose, passes}
use Rattle.reading.proofs.read_strict.Goals as goal

pub returns-in-Refused : goal.returns-in-Refused
returns-in-Refused c =
    let found = c.find-found in
    sym (stays found.result c.in-Refused.is) ∙ found.ensures.result_value

pub returns-then-found : goal.returns-then-found
returns-then-found c =
    let found = c.find-found in
    sym (is_loose found.result (kinds found.result.answer c.in_default.not-Refused) c.if-found.true) ∙ found.ensures.result_value

pub returns : goal.returns
returns c =
    let found = c.find-found in
    sym (passes found.result (kinds found.result.answer c.in_default.not-Refused) c.if-found.false) ∙ found.ensures.result_value
