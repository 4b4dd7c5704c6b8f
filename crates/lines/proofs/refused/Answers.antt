-- `lines::refused` meets its contract. Past the end nothing is laid, from whatever place.
use Rattle.std.proofs.Common.{arith, rules}
use Rattle.lines.proofs.Lays.{from_least}
use Rattle.lines.proofs.refused.Goals as goal

pub returns-clause-value : goal.returns-clause-value
returns-clause-value c = let w = c.refused.ensures in omega (arith, w.at, w.within)

pub returns-clause-out_after : goal.returns-clause-out_after
returns-clause-out_after c = search (rules, c.refused.ensures, from_least c.args.at c.refused.ensures c.min-from.ensures)
