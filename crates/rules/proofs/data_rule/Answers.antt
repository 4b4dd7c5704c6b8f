-- `rules::data_rule` meets its contract: its test is the row's, and the rest is `data_found`.
use Rattle.steps.specs.Rows.{rows_of}
use Rattle.rules.specs.Rules.{names_of, beside, step_rules, first_of}
use Rattle.rules.proofs.Rules.{found_place, found_stage}
use Rattle.rules.proofs.data_rule.Goals as goal

pub returns-then-not-table : goal.returns-then-not-table
unfolding step_rules names_of rows_of beside first_of
returns-then-not-table c list block f = rw c.if-not-table.true

pub returns : goal.returns
unfolding step_rules names_of rows_of beside first_of
returns c list block f =
    let is = c.find_number-found.ensures in
    rw c.if-not-table.false (c.data_found.ensures _ list _ block (found_place _ _ _ is) (found_stage _ _ _ is) f)
