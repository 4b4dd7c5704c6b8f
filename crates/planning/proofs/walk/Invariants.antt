-- `planning::walk` meets its contract. What is left of the walk always leads to the same end; each turn takes the set in front and lays
-- its line behind the lines before.
use Rattle.std.proofs.Common.{◌≡◌}
use Rattle.planning.specs.Sets.{SET}
use Rattle.planning.proofs.Walks.{Goes}
use Rattle.planning.proofs.walk.Given as goal

abbrev pub invariant-loop-set : goal.invariant-loop-set
invariant-loop-set l = (l.set-iterator.size ≡ SET) × Goes l.initial.next l.input l.initial.pen l.pen l.next l.set-iterator.rest.now
