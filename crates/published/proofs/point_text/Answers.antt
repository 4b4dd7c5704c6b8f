-- `published::point_text` meets its contract: the two bytes' digits, one behind the other.
use Rattle.lines.specs.Hex.{hex_byte}
use Rattle.published.specs.Comparing.{point_text}
use Rattle.lines.proofs.Lays.{then}
use Rattle.published.proofs.point_text.Goals as goal

pub returns : goal.returns
unfolding point_text hex_byte
returns c = rw (c.hex_byte.ensures, c.hex_byte-2.ensures) at (then c.text.ensures c.text-2.ensures)
