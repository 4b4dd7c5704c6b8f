-- `codepage::name_len` meets its contract: each sequence so far has its byte, and what is left of the text leads to the rest.
use Rattle.std.proofs.Common.{◌≡◌, ◌+◌, ◌≤◌, length}
use Rattle.codepage.specs.Names.{name_of}
use Rattle.codepage.proofs.Leads.{On}
use Rattle.codepage.proofs.name_len.Given as goal

abbrev pub invariant-loop-rest : goal.invariant-loop-rest
invariant-loop-rest l = (on : On name_of l.text l.rest) × ((l.n ≡ length on.done) × (l.n + length l.rest ≤ length l.text))

abbrev pub decreases-loop-rest : goal.decreases-loop-rest
decreases-loop-rest l = length l.rest
