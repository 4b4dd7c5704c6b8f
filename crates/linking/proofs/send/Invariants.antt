-- `linking::send` meets its contract: each turn sends one PDU more, and what is left leads to the same end.
use mathlib.Core.Path.{◌≡◌}
use Prim.Native.Nat.{◌-◌}
use lib.ListN.{length}
use Rattle.linking.specs.Linking.{with_store, sends_up}
use Rattle.linking.proofs.Sending.{Left}
use Rattle.linking.proofs.send.Given as goal

abbrev pub invariant-loop : goal.invariant-loop
invariant-loop l = (length l.store ≡ length l.initial.store) × Left (sends_up l.count l.from l.list l.place l.number l.message 0 (with_store l.initial.next l.initial.store)) l.initial.out l.out l.used (l.count - l.counter) (sends_up (l.count - l.counter) l.from l.list l.place l.number l.message l.at (with_store l.next l.store))
