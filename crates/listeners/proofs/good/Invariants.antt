-- `listeners::good` meets its contract. What stands before the rest is names with their zeros, so the rest decides.
use mathlib.Core.Path.{◌≡◌}
use lib.ListN.{length}
use Rattle.listeners.specs.Listeners.{all_names, good_list}
use Rattle.listeners.proofs.good.Given as goal

abbrev pub invariant-loop-name : goal.invariant-loop-name
invariant-loop-name l = good_list l.list ≡ all_names l.rest

abbrev pub decreases-loop-name : goal.decreases-loop-name
decreases-loop-name l = length l.rest
