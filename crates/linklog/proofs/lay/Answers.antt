-- `linklog::lay` meets its contract: a part of the room is lent, and comes back as a block.
use Rattle.linklog.proofs.Chains.{block_laid}
use Rattle.linklog.proofs.lay.Goals as goal

pub returns : goal.returns
returns c =
    let a = c.args in
    block_laid a.room.now a.to a.number a.place a.payload.now c.requires.0 c.requires.1.0 c.requires.1.1 _
    c.seal.ensures
