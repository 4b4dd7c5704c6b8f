-- `cause::line` meets its contract: each arm is a case of the definition, with each part laid behind the one before.
use Rattle.std.proofs.Common.{arith, rules}
use Rattle.lines.specs.Lines.{answer_fields}
use Rattle.lines.proofs.Lays.{then}
use Rattle.cause.specs.Why.{why_line}
use Rattle.cause.proofs.line.Goals as goal
use Rattle.cause.proofs.line.Goals.{in-SpoiledBy, in-ByRule}

pub returns-in_default : goal.returns-in_default
unfolding why_line answer_fields
returns-in_default c =
    let w = c.answer.ensures in
    rw c.in_default.is (record { value = omega (arith, w.at, w.within); out_after = search (rules, w) })

pub returns : goal.returns
unfolding why_line answer_fields
returns c =
    elim c.match-cause-2.branch [
      | in-SpoiledBy b ↦
          let number = rw b.refusal_number.ensures at b.field-in-SpoiledBy.ensures in
          let w = then (then (then (then c.answer-2.ensures b.text.ensures) b.field.ensures) b.text-in-SpoiledBy.ensures) number in
          rw (c.in-Some.is, b.in-SpoiledBy.is, b.pen-is) (record { value = omega (arith, w.at, w.within); out_after = search (rules, w, b.pen-is) })
      | in-ByRule b ↦
          let name = b.text-in-ByRule-2.ensures in
          let w = then (then c.answer-2.ensures b.text-in-ByRule.ensures) (rw name.0 at b.text-in-ByRule-3.ensures) in
          rw (c.in-Some.is, b.in-ByRule.is, b.pen-is)
          (record { value = omega (arith, w.at, w.within, name.1, rw name.0 at name.1); out_after = search (rules, w, b.pen-is) })
    ]
