-- `lines::bytes_field` meets its contract. Past the end nothing is laid, from whatever place.
use Rattle.std.proofs.Common.{arith, rules}
use Rattle.lines.proofs.Lays.{from_least}
use Rattle.lines.proofs.bytes_field.Goals as goal

pub returns-clause-value : goal.returns-clause-value
returns-clause-value c = let w = c.bytes.ensures in (omega (arith, w.at), omega (arith, w.at, w.within))

pub returns-clause-out_after : goal.returns-clause-out_after
returns-clause-out_after c = search (rules, c.bytes.ensures, from_least c.args.at c.bytes.ensures c.min-from.ensures)
