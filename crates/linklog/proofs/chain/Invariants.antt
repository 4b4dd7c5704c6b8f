-- `linklog::chain` meets its contract: each turn lays a block behind those before.
use Prim.Native.Nat.{◌+◌, ◌*◌}
use Rattle.blocks.specs.Block.{BLOCK, PAYLOAD}
use Rattle.linklog.proofs.Chains.{Left}
use Rattle.linklog.proofs.chain.Given as goal

abbrev pub invariant-loop-i : goal.invariant-loop-i
invariant-loop-i l = Left l.initial.room l.number l.place l.payload l.room (PAYLOAD * l.i) (BLOCK * l.i) (l.number + l.i) l.first
