-- `linklog::close` meets its contract: the record is a head of two bytes, and the number in four.
use mathlib.Core.Path.{ap, ◌∙◌}
use lib.ListN.{length}
use native.Mathlib.Omega.{arith}
use Rattle.numbers.proofs.Widths.{length_bytes_of}
use Rattle.linklog.proofs.Recorded.{close_record_law}
use Rattle.linklog.proofs.close.Goals as goal

pub add-requires : goal.add-requires
add-requires c = omega (arith, ap length c.to_le_bytes.ensures, ap length c.split.ensures ∙ length_bytes_of 4 _)

pub returns : goal.returns
returns c = rw (close_record_law _ _ _ c.to_le_bytes.ensures c.split.ensures) at c.add.ensures
