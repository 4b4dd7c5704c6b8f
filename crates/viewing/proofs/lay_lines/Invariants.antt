-- `viewing::lay_lines` meets its contract: each turn lays the line of the next name behind the lines before.
use Rattle.std.proofs.Common.{◌≡◌, ℕ, ◌+◌, ◌*◌, ◌≤◌, true, List, length}
use Rattle.listeners.specs.Listeners.{names, all_names}
use Rattle.viewing.specs.Lists.{name_lines}
use Rattle.viewing.proofs.Walks.{On}
use Rattle.viewing.proofs.lay_lines.Given as goal

abbrev pub lines : List ℕ → List ℕ
lines list = name_lines (names list)

-- at most six bytes of lines for each byte of the list so far
pub record Going (list rest out₀ out : List ℕ) (used : ℕ) : Type 0 where
  pub on : On lines list rest out₀ out used
  pub good : all_names rest ≡ true
  pub few : used + 6 * length rest ≤ 6 * length list

abbrev pub invariant-loop-rest : goal.invariant-loop-rest
invariant-loop-rest l = Going l.list l.rest l.initial.out l.out l.used

abbrev pub decreases-loop-rest : goal.decreases-loop-rest
decreases-loop-rest l = length l.rest
