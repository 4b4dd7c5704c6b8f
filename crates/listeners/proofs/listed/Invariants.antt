-- `listeners::listed` meets its contract. No name before the rest is the one that is asked for, so those of the rest decide.
use mathlib.Core.Path.{◌≡◌}
use lib.ListN.{length}
use Rattle.listeners.specs.Listeners.{names, is_one_of, is_listed}
use Rattle.listeners.proofs.listed.Given as goal

abbrev pub invariant-loop-first : goal.invariant-loop-first
invariant-loop-first l = is_listed l.list l.name ≡ is_one_of (names l.rest) l.name

abbrev pub decreases-loop-first : goal.decreases-loop-first
decreases-loop-first l = length l.rest
