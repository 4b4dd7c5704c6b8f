-- `linklog::bring` meets its contract: the part up to their end is lent, and they come to its front.
use Rattle.linklog.proofs.Parts.{brought_front}
use Rattle.linklog.proofs.bring.Goals as goal

pub returns : goal.returns
returns c =
    let a = c.args in
    brought_front a.room.now a.from a.n _ c.requires c.to_front.ensures
