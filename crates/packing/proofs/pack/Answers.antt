-- `packing::pack` meets its contract: no sum or product passes 64 bits, and the sum is the definition's.
use Rattle.packing.specs.Packing.{packed}
use borrow.Author.Rules.{rules}
use Rattle.packing.proofs.pack.Goals as goal

pub returns : goal.returns
unfolding packed
returns c = search rules
