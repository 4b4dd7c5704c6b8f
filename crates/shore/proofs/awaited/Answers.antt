-- `shore::awaited` meets its contract: the record of a channel just opened, with the mark.
use Rattle.channel.specs.Channel.{opened_record}
use Rattle.shore.specs.Rules.{awaited_record}
use Rattle.shore.proofs.awaited.Goals as goal

pub returns : goal.returns
unfolding awaited_record opened_record
returns c = rw c.opened.ensures
