-- `cause::of_answer` meets its contract: what is no refusal has no cause.
use Rattle.steps.specs.Rows.{verdict_of}
use Rattle.cause.specs.Cause.{cause_by}
use Rattle.cause.proofs.Answers.{accepted}
use Rattle.cause.proofs.of_answer.Goals as goal

pub returns-in_default : goal.returns-in_default
unfolding cause_by
returns-in_default c = rw (accepted c.args.answer c.in_default.not-Refused)

pub returns : goal.returns
unfolding verdict_of
returns c = rw c.in-Refused.is c.of_refusal.ensures
