-- `judge::head_needs` meets its contract: its test is the definition's.
use Rattle.numbers.specs.Numbers.{value_at}
use Rattle.numbers.proofs.Widths.{value_below}
use Rattle.std.proofs.Common.{arith, le-ltb, lt-ltb}
use Rattle.judge.specs.Sender.{NUMBER, head_needs}
use Rattle.judge.proofs.head_needs.Goals as goal

pub returns-then-head-lt-HEAD : goal.returns-then-head-lt-HEAD
unfolding head_needs
returns-then-head-lt-HEAD c =
    let short = c.if-head-lt-HEAD.true in
    (simp lt-ltb, omega arith, omega arith)

pub returns : goal.returns
unfolding head_needs value_at
returns c =
    let head = c.args.head.now in
    let there = c.if-head-lt-HEAD.false in
    let small = value_below head NUMBER 2 (omega arith) (λ i. (c.type_inv.head i).fits) in
    (simp (le-ltb, c.number-message.ensures), omega arith, omega (arith, c.number-message.ensures, small))
