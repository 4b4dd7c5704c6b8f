-- `lines::hex_byte` meets its contract: a byte is below 256, and so both digits are below 16.
use Rattle.lines.specs.Hex.{hex_byte}
use Rattle.lines.proofs.hex_byte.Goals as goal

pub returns : goal.returns
unfolding hex_byte
returns c = cc
