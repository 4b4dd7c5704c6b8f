-- `cause::notes_after` meets its contract: a refusal is noted, and nothing else is.
use Rattle.steps.specs.Rows.{verdict_of}
use Rattle.cause.specs.Notes.{notes_after}
use Rattle.cause.proofs.Answers.{accepted}
use Rattle.cause.proofs.notes_after.Goals as goal

pub returns-in_default : goal.returns-in_default
unfolding notes_after
returns-in_default c = rw (accepted c.args.answer c.in_default.not-Refused)

pub returns : goal.returns
unfolding notes_after verdict_of
returns c = rw c.in-Refused.is c.noted.ensures
