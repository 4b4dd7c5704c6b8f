-- What proofs need to know of the sizes, which stay shut elsewhere.
-- Assumes nothing.
use Prim.Native.Nat.{◌≤◌}
use lib.Dec.{lit≤}
use Rattle.paper.specs.Sizes.{PDU_MAX}

-- every PDU without name and data fits
pub twelve_fit : 12 ≤ PDU_MAX
unfolding PDU_MAX
twelve_fit = lit≤ tt
