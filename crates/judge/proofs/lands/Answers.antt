-- `judge::lands` meets its contract: each arm is a case of the definition.
use Rattle.std.proofs.Common.{sym, ◌∙◌}
use Rattle.judge.specs.Judge.{course_by}
use Rattle.judge.proofs.lands.Goals as goal

pub returns-in-Bars : goal.returns-in-Bars
unfolding course_by
returns-in-Bars c = rw (sym c.take.ensures ∙ c.in-Bars.is)

pub returns-in-Spoils : goal.returns-in-Spoils
unfolding course_by
returns-in-Spoils c = rw (sym c.take.ensures ∙ c.in-Spoils.is)

pub returns-in-Holds : goal.returns-in-Holds
unfolding course_by
returns-in-Holds c = rw (sym c.take.ensures ∙ c.in-Holds.is, sym c.agrees_on.ensures)

pub returns-in-Finishes : goal.returns-in-Finishes
unfolding course_by
returns-in-Finishes c = rw (sym c.take.ensures ∙ c.in-Finishes.is, sym c.is_message.ensures)
