-- `walking::walk` meets its contract. What is left of the walk always leads to the same end; each turn takes the record in front
-- and lays its text behind the text before.
use Rattle.std.proofs.Common.{◌≡◌, ◌-◌, length}
use Rattle.records.specs.Walks.{walk_through}
use Rattle.walking.specs.Walking.{walk_of, program}
use Rattle.walking.proofs.Walks.{from, Left}
use Rattle.walking.proofs.walk.Given as goal

abbrev pub invariant-loop-out : goal.invariant-loop-out
invariant-loop-out l = (length l.store ≡ length l.initial.store) × Left l.input l.initial.out (walk_through (program l.job l.list) (length l.initial.out) (walk_of l.initial.next l.initial.store) l.input) l.out l.at l.used (from (program l.job l.list) l.input (length l.initial.out) (walk_of l.next l.store) l.at l.used)

abbrev pub decreases-loop-out : goal.decreases-loop-out
decreases-loop-out l = length l.input - l.at
