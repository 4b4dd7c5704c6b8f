-- `rules::caps_rule` meets its contract: its test is the row's.
use Rattle.steps.specs.Rows.{rows_of}
use Rattle.rules.specs.Rules.{names_of, beside, step_rules, first_of}
use Rattle.std.proofs.Common.{◌∙◌}
use Rattle.rules.proofs.Rules.{where_held}
use Rattle.rules.proofs.caps_rule.Goals as goal

pub returns : goal.returns
unfolding step_rules names_of rows_of beside first_of
returns c list version charges = c.then_some.ensures ∙ where_held _ _
