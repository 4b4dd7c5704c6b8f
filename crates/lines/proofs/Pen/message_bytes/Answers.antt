-- `Pen::message_bytes` meets its contract: the field's two cases are the test's.
use Rattle.std.proofs.Common.{arith}
use Rattle.paper.specs.Sizes.{MESSAGE_MAX}
use Rattle.lines.proofs.Spelling.{field_none, field_some}
use Rattle.lines.proofs.Lays.{at_most}
use Rattle.lines.proofs.Pen.message_bytes.Goals as goal

pub returns-then-bytes-eq0 : goal.returns-then-bytes-eq0
unfolding MESSAGE_MAX
returns-then-bytes-eq0 c = rw (field_none _ c.if-bytes-eq0.true) (at_most _ c.text.ensures (omega arith))

pub returns : goal.returns
returns c = rw (field_some _ c.if-bytes-eq0.false) c.hex.ensures
