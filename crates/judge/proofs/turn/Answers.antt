-- `judge::turn` meets its contract: each step judges a PDU.
use Rattle.std.proofs.Common.{ℕ, List, refl, ap, ◌∙◌}
use Rattle.records.proofs.Calls.{all_made}
use Rattle.judge.specs.declared.Course.{Course}
use Rattle.judge.specs.Judge.{course_after}
use Rattle.judge.specs.Sender.{turned}
use Rattle.judge.proofs.turn.Goals as goal

pub returns-clause-value : goal.returns-clause-value
unfolding turned
returns-clause-value c =
    let a = c.args in
    let seen = λ (at : Course × List ℕ). at.0 in
    let judged = ap seen c.turn.ensures.steps ∙ all_made seen _ (course_after a.number a.message.now) (λ at pdu. refl) _ _ in
    rw (← judged, ← c.turn.ensures.had.0) (refl, c.turn.ensures.had.1)
