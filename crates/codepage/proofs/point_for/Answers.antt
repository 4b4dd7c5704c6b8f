-- `codepage::point_for` meets its contract: the mark of the table stands for no code point.
use Rattle.std.proofs.Common.{arith}
use Rattle.std.proofs.lemmas.Grind.{common_steps}
use Rattle.codepage.specs.Points.{point_for}
use Rattle.codepage.proofs.point_for.Goals as goal

pub returns-then-point : goal.returns-then-point
unfolding point_for
returns-then-point c = grind (arith, common_steps)

pub returns-else-point : goal.returns-else-point
unfolding point_for
returns-else-point c = grind (arith, common_steps)
