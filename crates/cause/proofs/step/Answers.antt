-- `cause::step` meets its contract: the client's step, and what it comes to.
use Rattle.paper.specs.Sizes.{REPLY_MIN}
use Rattle.lists.specs.Bytes.{zeros}
use Rattle.cause.specs.Cause.{way_after}
use Rattle.cause.proofs.step.Goals as goal

pub returns : goal.returns
unfolding way_after zeros REPLY_MIN
returns c =
    let got = c.receive-received.ensures in
    record { value = rw (← got.value) c.onward.ensures; store_after = got.store_after }
