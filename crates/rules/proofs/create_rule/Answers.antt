-- `rules::create_rule` meets its contract: its tests are the rows', from first to last.
use borrow.Author.Tests.{lt-ltb, le-ltb}
use Rattle.paper.specs.Sizes.{PARTS}
use Rattle.steps.specs.Rows.{is_open, rows_of}
use Rattle.rules.specs.Rules.{names_of, beside, step_rules, first_of}
use Rattle.rules.proofs.Rules.{found_place}
use Rattle.rules.proofs.create_rule.Goals as goal

pub returns-then-not-table : goal.returns-then-not-table
unfolding step_rules names_of rows_of beside first_of
returns-then-not-table c class name = rw c.if-not-table.true

pub returns-then-not-good : goal.returns-then-not-good
unfolding step_rules names_of rows_of beside first_of
returns-then-not-good c class name = rw (c.if-not-table.false, ← c.good.ensures, c.if-not-good.true)

pub returns-then-found-lt-PARTS : goal.returns-then-found-lt-PARTS
unfolding step_rules names_of rows_of beside first_of is_open PARTS
returns-then-found-lt-PARTS c class name =
    let at = found_place _ _ _ c.find_number-found.ensures in
    rw (c.if-not-table.false, ← c.good.ensures, c.if-not-good.false, ← at, lt-ltb _ _ c.if-found-lt-PARTS.true)

pub returns : goal.returns
unfolding step_rules names_of rows_of beside first_of is_open PARTS
returns c class name =
    let at = found_place _ _ _ c.find_number-found.ensures in
    rw (c.if-not-table.false, ← c.good.ensures, c.if-not-good.false, ← at, le-ltb _ _ c.if-found-lt-PARTS.false)
