-- `codepage::byte_for` meets its contract: below 80 and from A0 to FF a code point is its own byte, and controls and 65,535 have none.
use Rattle.std.proofs.Common.{arith, ◌<◌, ◌≤◌}
use Rattle.codepage.proofs.Points.{low_same, high_same, own_byte, controls_none, above_none}
use Rattle.codepage.proofs.byte_for.Goals.{then-point-lt128, else-point-lt128+else-point-lt160+then-point-lt256}
use Rattle.codepage.proofs.byte_for.Goals as goal

pub returns-in-0-to-127 : goal.returns-in-0-to-127
returns-in-0-to-127 c = elim c.in-0-to-127-1.branch [
  | then-point-lt128 w ↦ let h : c.args.point < 0x80 = omega (arith, w) in rw (own_byte c.args.point (omega arith) (low_same c.args.point h))
  | else-point-lt128+else-point-lt160+then-point-lt256 w ↦ let h : (0xA0 ≤ c.args.point) × (c.args.point < 0x100) = (omega (arith, w), omega (arith, w)) in rw (own_byte c.args.point h.1 (high_same c.args.point h.0 h.1))
]

pub returns-in-128-to-159 : goal.returns-in-128-to-159
returns-in-128-to-159 c = rw (above_none c.args.point (omega arith))

pub returns-in-128-to-159-2 : goal.returns-in-128-to-159-2
returns-in-128-to-159-2 c = rw (controls_none c.args.point (omega arith) (omega arith))
