use Rattle.std.proofs.Common.{arith}
use Rattle.lines.specs.Hex.{hex_byte, hex_of}
use Rattle.lines.proofs.Lays.{nothing, hex_more}
use Rattle.lines.proofs.Pen.hex.Goals as goal

pub loop-byte-init : goal.loop-byte-init
unfolding hex_of
loop-byte-init c = nothing _ (omega arith) (omega arith)

pub loop-byte-preserved : goal.loop-byte-preserved
unfolding hex_byte
loop-byte-preserved c = hex_more _ _ c.loop-byte-test.true c.loop-byte.invariant (rw c.hex_byte.ensures at c.text.ensures)
