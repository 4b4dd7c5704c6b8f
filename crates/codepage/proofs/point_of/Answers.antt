-- `codepage::point_of` meets its contract: the code's table is the definition's.
use Rattle.std.proofs.Common.{arith}
use Rattle.codepage.specs.Points.{points}
use Rattle.codepage.proofs.Points.{entry_read}
use Rattle.codepage.proofs.point_of.Goals as goal

pub returns : goal.returns
unfolding points
returns c = entry_read c.args.byte (omega arith)
