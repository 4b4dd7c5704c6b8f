-- `saved::good_rest` meets its contract: a stage's number of 2 to 4,095 wants nothing, so that it is refused with those that hold too much.
use mathlib.Core.Path.{◌≡◌, sym}
use mathlib.Core.Bool.{true}
use Rattle.paper.specs.Sizes.{MESSAGE_MAX}
use Rattle.saved.proofs.Told.{allowed, may_ask, not_asked, rest_barred, rest_short, rest_held, rest_joining}
use native.Mathlib.Omega.{arith}
use Rattle.saved.proofs.good_rest.Goals as goal
use Rattle.saved.proofs.good_rest.Goals.{else-not-asks-via-then-not-asks+else-rest-ge-MARK, else-not-asks-via-else-not-asks}

pub returns-then-rest-ge-MARK : goal.returns-then-rest-ge-MARK
returns-then-rest-ge-MARK c =
    let a = c.args in
    sym (rest_barred a.asks a.rest (omega arith) (c.if-not-asks.true) (omega arith))

pub returns-then-code-lt2 : goal.returns-then-code-lt2
returns-then-code-lt2 c =
    let a = c.args in
    -- whoever gets past the first test may be awaited, or isn't
    let free : allowed a.asks a.rest (omega arith) ≡ true = elim c.else-not-asks.branch [
      | else-not-asks-via-then-not-asks+else-rest-ge-MARK w ↦ not_asked a.asks a.rest (omega arith) (omega arith)
      | else-not-asks-via-else-not-asks w ↦ may_ask a.asks a.rest (omega arith) w.if-not-asks.false
    ] in
    sym (rest_short a.asks a.rest (omega arith) free c.if-code-lt2.true)

pub returns-then-code : goal.returns-then-code
returns-then-code c =
    let a = c.args in
    sym (rest_held a.asks a.rest (omega arith) c.if-code-lt2.false c.if-code.true)

pub returns : goal.returns
unfolding MESSAGE_MAX
returns c =
    let a = c.args in
    -- whoever gets past the first test may be awaited, or isn't
    let free : allowed a.asks a.rest (omega arith) ≡ true = elim c.else-not-asks.branch [
      | else-not-asks-via-then-not-asks+else-rest-ge-MARK w ↦ not_asked a.asks a.rest (omega arith) (omega arith)
      | else-not-asks-via-else-not-asks w ↦ may_ask a.asks a.rest (omega arith) w.if-not-asks.false
    ] in
    sym (rest_joining a.asks a.rest (omega arith) free c.if-code.false)
