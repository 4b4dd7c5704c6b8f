-- `linklog::append` meets its contract: the record is a head of two bytes, and the PDU or its front.
use mathlib.Core.Path.{ap}
use lib.ListN.{length}
use native.Mathlib.Omega.{arith}
use Rattle.linklog.proofs.Recorded.{length_cut, pdu_record_law}
use Rattle.linklog.proofs.append.Goals as goal

pub add-requires : goal.add-requires
add-requires c = omega (arith, ap length c.to_le_bytes.ensures, length_cut _ _ c.min-n.ensures, c.min-n.ensures)

pub returns : goal.returns
returns c = rw (pdu_record_law _ _ c.min-n.ensures _ c.to_le_bytes.ensures) at c.add.ensures

pub overflow_cast-n : goal.overflow_cast-n
overflow_cast-n c = record { fits = omega (arith, c.min-n.ensures) }
