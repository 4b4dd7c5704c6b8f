-- `rules::data_in` meets its contract: its tests are the rows', from first to last.
use Rattle.steps.specs.Rows.{rows_of}
use Rattle.rules.specs.Rules.{names_of, beside, step_rules, first_of}
use Rattle.rules.proofs.data_in.Goals as goal

pub returns-then-is_spoiled : goal.returns-then-is_spoiled
unfolding step_rules names_of rows_of beside first_of
returns-then-is_spoiled c t list n block e f = rw (e, ← c.is_spoiled.ensures, c.if-is_spoiled.true)

pub returns-then-is_past : goal.returns-then-is_past
unfolding step_rules names_of rows_of beside first_of
returns-then-is_past c t list n block e f = rw (e, f, ← c.is_spoiled.ensures, c.if-is_spoiled.false, ← c.is_past.ensures, c.if-is_past.true)

pub returns : goal.returns
unfolding step_rules names_of rows_of beside first_of
returns c t list n block e f = rw (e, f, ← c.is_spoiled.ensures, c.if-is_spoiled.false, ← c.is_past.ensures, c.if-is_past.false)
