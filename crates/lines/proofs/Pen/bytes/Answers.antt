-- `Pen::bytes` meets its contract: of the bytes at most 4,096 are lent.
use Rattle.paper.specs.Sizes.{MESSAGE_MAX}
use Rattle.lists.proofs.Laid.{take_least}
use Rattle.lines.proofs.Pen.bytes.Goals as goal

pub returns : goal.returns
unfolding MESSAGE_MAX
returns c = rw (c.min-n.ensures, take_least 4096 c.args.bytes.now) at c.message_bytes.ensures
