-- `viewer::complain` meets its contract: each turn goes on to a later line, and what is said fits.
use Rattle.std.proofs.Common.{◌≡◌, ◌+◌, ◌-◌, ◌≤◌, length}
use Rattle.viewing.specs.Texts.{SAY_MAX}
use Rattle.viewer.proofs.complain.Given as goal

abbrev pub invariant-loop-at : goal.invariant-loop-at
invariant-loop-at g l = record { out_kept : length l.out ≡ SAY_MAX; counted : l.number ≤ l.at + 1 }

abbrev pub decreases-loop-at : goal.decreases-loop-at
decreases-loop-at g l = length l.text - l.at
