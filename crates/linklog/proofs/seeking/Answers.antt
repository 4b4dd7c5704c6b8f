-- `linklog::seeking` meets its contract: it is the definition.
use mathlib.Core.Path.{refl}
use Rattle.records.specs.Walks.{size_of}
use Rattle.linklog.specs.Turns.{is_within}
use Rattle.linklog.proofs.seeking.Goals as goal

pub returns : goal.returns
unfolding is_within size_of
returns c = refl
