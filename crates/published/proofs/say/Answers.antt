-- `published::say` meets its contract: each part is laid behind the one before.
use Rattle.std.proofs.Common.{arith, rules}
use Rattle.lines.proofs.Lays.{then}
use Rattle.published.specs.Comparing.{wrong_line}
use Rattle.published.proofs.say.Goals as goal

pub returns-clause-value : goal.returns-clause-value
unfolding wrong_line
returns-clause-value c = let w = then (then c.text.ensures c.field.ensures) c.text-2.ensures in omega (arith, w.at, w.within)

pub returns-clause-out_after : goal.returns-clause-out_after
unfolding wrong_line
returns-clause-out_after c = search (rules, then (then c.text.ensures c.field.ensures) c.text-2.ensures)
