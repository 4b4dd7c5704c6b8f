-- Each turn shows a record that is in the input, and goes on behind it.
use Rattle.std.proofs.Common.{length}
use Rattle.said.proofs.show.Given as goal

abbrev pub decreases-loop-rest : goal.decreases-loop-rest
decreases-loop-rest g l = length l.rest
