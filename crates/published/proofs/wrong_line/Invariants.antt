-- `published::wrong_line` meets its contract: the lines so far are as they should be, so those that are left decide.
use Rattle.std.proofs.Common.{◌≡◌}
use Rattle.lists.specs.Lines.{lines_in}
use Rattle.published.specs.Comparing.{wrong_from}
use Rattle.published.proofs.wrong_line.Given as goal

abbrev pub invariant-loop-k : goal.invariant-loop-k
invariant-loop-k l = wrong_from 0 (lines_in l.file) ≡ wrong_from l.k (lines_in l.rest)
