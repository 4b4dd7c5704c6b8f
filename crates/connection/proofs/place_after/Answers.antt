-- `connection::place_after` meets its contract: its test is the definition's.
use mathlib.Core.Path.{sym, ◌∙◌}
use Rattle.paper.specs.Sizes.{PARTS}
use Rattle.connection.specs.States.{place_after}
use Rattle.connection.proofs.place_after.Goals as goal

pub returns-then-stands : goal.returns-then-stands
unfolding place_after
returns-then-stands c = rw (sym c.stands.ensures ∙ c.if-stands.true)

pub returns : goal.returns
unfolding place_after PARTS
returns c = rw (sym c.stands.ensures ∙ c.if-stands.false)
