-- `bench::next_asked` meets its contract: its test is the definition's.
use Rattle.bench.specs.Hosts.{asked_next}
use Rattle.bench.proofs.next_asked.Goals as goal

pub returns-then-received : goal.returns-then-received
unfolding asked_next
returns-then-received c = rw c.if-received.true c.heard.ensures

pub returns : goal.returns
unfolding asked_next
returns c = rw c.if-received.false c.closing.ensures
