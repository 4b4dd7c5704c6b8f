-- `saved::put_row` meets its contract: three words, one behind the other, are the record's bytes.
use borrow.Author.Tests.{le-ltb}
use Rattle.paper.specs.Sizes.{PARTS}
use Rattle.saved.specs.Saved.{ROW, row_put}
use Rattle.saved.proofs.Words.{row_put_law}
use Rattle.saved.proofs.put_row.Goals as goal

pub returns-then-k-ge-PARTS : goal.returns-then-k-ge-PARTS
unfolding PARTS row_put
returns-then-k-ge-PARTS c = rw (le-ltb _ _ c.if-k-ge-PARTS.true)

pub returns : goal.returns
unfolding PARTS ROW
returns c = rw (c.put_word-3.ensures, c.put_word-2.ensures, c.put_word.ensures, c.rest_of.ensures)
    (row_put_law _ c.args.k c.args.«record» c.if-k-ge-PARTS.false)
