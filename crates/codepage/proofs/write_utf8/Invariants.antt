-- `codepage::write_utf8` meets its contract: the sequences so far stand at the front, and what is left of the name leads to the rest.
use Rattle.std.proofs.Common.{drop}
use Rattle.codepage.specs.Names.{utf8_of}
use Rattle.codepage.proofs.Leads.{Laid}
use Rattle.codepage.proofs.write_utf8.Given as goal

abbrev pub invariant-loop-b : goal.invariant-loop-b
invariant-loop-b l = Laid utf8_of l.name (drop l.b-index l.name) l.initial.out l.out l.at
