-- `viewing::lay_list` meets its contract: each turn lays the entry of the next line behind those before.
use Rattle.std.proofs.Common.{ℕ, ◌+◌, ◌<◌, ◌≤◌, List, length}
use Rattle.lists.specs.Lines.{lines_in}
use Rattle.viewing.specs.Texts.{entries_of}
use Rattle.viewing.proofs.Walks.{On}
use Rattle.viewing.proofs.lay_list.Given as goal

abbrev pub entries : List ℕ → List ℕ
entries text = entries_of (lines_in text)

-- no more bytes than those of the text so far, and one for the end of a last line
pub record Going (text rest out₀ out : List ℕ) (used : ℕ) : Type 0 where
  pub on : On entries text rest out₀ out used
  pub few : used ≤ length text + 1
  pub fewer : 0 < length rest → used + length rest ≤ length text

abbrev pub invariant-loop-rest : goal.invariant-loop-rest
invariant-loop-rest l = Going l.text l.rest l.initial.out l.out l.used

abbrev pub decreases-loop-rest : goal.decreases-loop-rest
decreases-loop-rest l = length l.rest
