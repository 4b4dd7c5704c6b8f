-- `saved::put` meets its contract: the level, the totals and the record, one after the other.
use borrow.Author.Tests.{eq-eqb, ne_eqb}
use Rattle.lists.specs.Bytes.{laid}
use Rattle.saved.specs.Saved.{STATE, HEAD, CHANNELS, AWAITED, level_put, put_over}
use Rattle.saved.proofs.put.Goals as goal

pub returns-in_default : goal.returns-in_default
unfolding STATE put_over
returns-in_default c = rw (ne_eqb _ _ c.in_default.ensures.cases)

pub returns : goal.returns
unfolding STATE HEAD CHANNELS AWAITED level_put laid put_over
returns c =
    let chunk = c.in-Some.ensures.cases in
    rw (
      eq-eqb _ _ chunk.long,
      c.put_change.ensures,
      c.put_totals.ensures,
      c.totals_after.ensures,
      c.level_if.ensures,
      c.word-awaited.ensures,
      c.word-channels.ensures,
      chunk.same,
    )
