-- `codepage::room_after` meets its contract: what is left of the room is what the sequences so far leave of it.
use Rattle.std.proofs.Common.{◌≡◌, ◌+◌, length, drop}
use Rattle.codepage.specs.Names.{utf8_of}
use Rattle.codepage.proofs.Leads.{On}
use Rattle.codepage.proofs.room_after.Given as goal

abbrev pub invariant-loop-b : goal.invariant-loop-b
invariant-loop-b l = (on : On utf8_of l.name (drop l.b-index l.name)) × (l.left + length on.done ≡ l.room)
