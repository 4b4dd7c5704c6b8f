-- `published::lay_differences` meets its contract: each turn lays what differs for the next byte behind what is laid so far.
use Rattle.published.proofs.Files.{On}
use Rattle.published.proofs.lay_differences.Given as goal

abbrev pub invariant-loop-k : goal.invariant-loop-k
invariant-loop-k l = On l.file l.initial.out l.out l.rest l.k l.used
