-- `linklog::begin` meets its contract: nothing is read yet.
use Rattle.records.specs.Walks.{size_of}
use Rattle.linklog.specs.Turns.{is_within}
use Rattle.linklog.proofs.begin.Goals as goal

pub returns : goal.returns
unfolding is_within size_of
returns c = c.seeking.ensures
