-- `client::unread` meets its contract: each arm is a case of the definition.
use mathlib.Core.Path.{sym, ◌∙◌}
use Rattle.client.specs.Asking.{unread_ask}
use Rattle.client.proofs.unread.Goals as goal

pub returns-in-None : goal.returns-in-None
unfolding unread_ask
returns-in-None c = rw (sym c.carries.ensures ∙ c.in-None.is) c.bare.ensures

pub returns-in-Some : goal.returns-in-Some
unfolding unread_ask
returns-in-Some c = rw (sym c.carries.ensures ∙ c.in-Some.is) c.bare-in-Some.ensures
