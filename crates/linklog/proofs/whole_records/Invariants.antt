-- `linklog::whole_records` meets its contract: each turn goes behind the record in front.
use Prim.Native.Nat.{◌-◌}
use lib.ListN.{length}
use Rattle.linklog.proofs.Walked.{Gone}
use Rattle.linklog.proofs.whole_records.Given as goal

abbrev pub invariant-loop-n : goal.invariant-loop-n
invariant-loop-n l = Gone l.input l.at

abbrev pub decreases-loop-n : goal.decreases-loop-n
decreases-loop-n l = length l.input - l.at
