-- `bench::count_of` meets its contract: the count so far is below the end, and a digit more keeps it there.
use Rattle.std.proofs.Common.{◌<◌}
use Rattle.bench.proofs.count_of.Given as goal

abbrev pub invariant-loop-byte : goal.invariant-loop-byte
invariant-loop-byte l = l.count < 1000000000
