-- `codepage::write_name` meets its contract: the bytes so far stand at the front, and what is left of the text leads to the rest.
use Rattle.std.proofs.Common.{length}
use Rattle.codepage.specs.Names.{name_of}
use Rattle.codepage.proofs.Leads.{Laid}
use Rattle.codepage.proofs.write_name.Given as goal

abbrev pub invariant-loop-front : goal.invariant-loop-front
invariant-loop-front l = Laid name_of l.text l.rest l.initial.out l.out l.n

abbrev pub decreases-loop-front : goal.decreases-loop-front
decreases-loop-front l = length l.rest
