-- `judge::line` meets its contract: the place and the word stand behind the `no`.
use Rattle.std.proofs.Common.{arith, rules}
use Rattle.lines.proofs.Lays.{then}
use Rattle.judge.specs.Sender.{judgement_line}
use Rattle.judge.proofs.line.Goals as goal

pub returns-in-No : goal.returns-in-No
unfolding judgement_line
returns-in-No c =
    let word = c.word.ensures in
    let w = then (then c.text-in-No.ensures c.field.ensures) (rw word.0 at c.text-in-No-2.ensures) in
    rw c.in-No.is (record { value = omega (arith, w.at, w.within, word.1, rw word.0 at word.1); out_after = search (rules, w) })
