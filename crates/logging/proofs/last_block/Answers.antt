-- `logging::last_block` meets its contract: the part that is lent is the last block.
use Rattle.logging.proofs.Rooms.{last_lent, last_long}
use Rattle.logging.proofs.last_block.Goals as goal

pub returns : goal.returns
returns c =
    let last = last_lent _ _ _ _ _ c.last_at-at.ensures.0 c.min-start.ensures c.min-end.ensures in
    (last, rw last (last_long _ _))
