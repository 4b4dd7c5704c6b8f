-- `table::good_numbers` meets its contract: where marks don't decide, the pairs and a count do.
use mathlib.Core.Path.{sym, ◌∙◌}
use borrow.Author.Tests.{eq-eqb}
use Rattle.table.proofs.good_numbers.Goals as goal

pub returns-then-marks_apart : goal.returns-then-marks_apart
returns-then-marks_apart c =
    let both = c.marks_apart.ensures c.if-marks_apart.true in
    sym (rw (both.0, eq-eqb _ _ (sym both.1)))

pub returns-then-not-pairs_apart : goal.returns-then-not-pairs_apart
returns-then-not-pairs_apart c = sym (rw (sym c.pairs_apart.ensures ∙ c.if-not-pairs_apart.true))

pub returns : goal.returns
returns c =
    let apart = sym c.pairs_apart.ensures ∙ c.if-not-pairs_apart.false in
    rw (apart, c.count.ensures)
