-- `shore::unread` meets its contract: each arm is a case of the definition.
use mathlib.Core.Path.{sym, ◌∙◌}
use Rattle.shore.specs.Asking.{unread_heard}
use Rattle.shore.proofs.unread.Goals as goal

pub returns-in-None : goal.returns-in-None
unfolding unread_heard
returns-in-None c = rw (sym c.carries.ensures ∙ c.in-None.is) c.bare.ensures

pub returns-in-Some : goal.returns-in-Some
unfolding unread_heard
returns-in-Some c = rw (sym c.carries.ensures ∙ c.in-Some.is) c.bare-in-Some.ensures
