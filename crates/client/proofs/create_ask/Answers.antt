-- `client::create_ask` meets its contract: the list is judged first.
use mathlib.Core.Path.{refl, sym, ◌∙◌}
use Rattle.client.specs.Asking.{create_ask}
use Rattle.client.proofs.create_ask.Goals as goal

pub returns-then-not-good : goal.returns-then-not-good
unfolding create_ask
returns-then-not-good c = rw (sym c.good.ensures ∙ c.if-not-good.true) refl

pub returns : goal.returns
unfolding create_ask
returns c = rw (sym c.good.ensures ∙ c.if-not-good.false, c.listed.ensures) refl
