-- What the read brought stands behind what the buffer had.
use Rattle.std.proofs.Common.{◌∙◌}
use Rattle.files.proofs.Keeping.{length_lent, read_brings}
use Rattle.files.proofs.fill.Goals as goal

pub returns-in-Ok-clause-brings : goal.returns-in-Ok-clause-brings
returns-in-Ok-clause-brings g c =
    read_brings _ _ c.args.buffer.now c.read.new.buf c.args.had c.min-from.result c.in-Ok.got c.min-from.ensures (c.read.auto.buf ∙ length_lent c.args.buffer.now c.min-from.result) c.in-Ok.ensures.bound.0 c.in-Ok.ensures.bytes
