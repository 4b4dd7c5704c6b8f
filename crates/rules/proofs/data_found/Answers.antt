-- `rules::data_found` meets its contract: its test is the row's, and the rest is `data_in`.
use borrow.Author.Tests.{lt-ltb, le-ltb}
use Rattle.paper.specs.Sizes.{PARTS}
use Rattle.steps.specs.Rows.{is_open, rows_of}
use Rattle.rules.specs.Rules.{names_of, beside, step_rules, first_of}
use Rattle.rules.proofs.data_found.Goals as goal

pub returns-then-place-ge-PARTS : goal.returns-then-place-ge-PARTS
unfolding step_rules names_of rows_of beside first_of is_open PARTS
returns-then-place-ge-PARTS c t list n block at e f = rw (← at, le-ltb _ _ c.if-place-ge-PARTS.true)

pub returns : goal.returns
unfolding step_rules names_of rows_of beside first_of is_open PARTS
returns c t list n block at e f = rw (← at, lt-ltb _ _ c.if-place-ge-PARTS.false) (c.data_in.ensures t list n block e f)
