-- `saved::row` meets its contract: the record at a place is what its three words tell.
use mathlib.Core.Path.{sym, ◌∙◌}
use Rattle.paper.specs.Sizes.{PARTS}
use Rattle.saved.specs.Saved.{ROW}
use Rattle.saved.proofs.Words.{row_at}
use Rattle.saved.proofs.row.Goals as goal

pub returns : goal.returns
unfolding ROW PARTS
returns c = rw (c.word-rest.ensures, c.word-number.ensures, c.word-count.ensures) at c.record_of.ensures
    ∙ sym (row_at _ c.args.k c.requires)
