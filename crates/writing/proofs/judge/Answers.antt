-- `writing::judge` meets its contract: its tests are the definition's.
use Rattle.paper.specs.Sizes.{PDU_MAX}
use Rattle.writing.specs.Writing.{judged}
use Rattle.lists.proofs.Cases.{tests}
use Rattle.writing.proofs.judge.Goals as goal

pub returns-then-room-lt-PDU_MAX : goal.returns-then-room-lt-PDU_MAX
unfolding judged PDU_MAX
returns-then-room-lt-PDU_MAX c = search tests

pub returns-then-bad : goal.returns-then-bad
unfolding judged PDU_MAX
returns-then-bad c = search (tests, c.if-bad.true)

pub returns-then-length-gt-PDU_MAX : goal.returns-then-length-gt-PDU_MAX
unfolding judged PDU_MAX
returns-then-length-gt-PDU_MAX c = search (tests, c.if-bad.false)

pub returns : goal.returns
unfolding judged PDU_MAX
returns c = search (tests, c.if-bad.false)
