-- `planning::say` meets its contract: each arm is a case of the definition, with each part laid behind the one before.
use Rattle.std.proofs.Common.{arith, rules}
use Rattle.lines.proofs.Lays.{then}
use Rattle.planning.specs.Lines.{last_line}
use Rattle.planning.proofs.say.Goals as goal
use Rattle.planning.proofs.say.Goals.{in-Ok, in-Err}

pub returns-clause-value : goal.returns-clause-value
unfolding last_line
returns-clause-value c = elim c.match-last.branch [
  | in-Ok w ↦ let t = then w.text.ensures w.four.ensures in rw (w.in-Ok.is, w.pen-is) (omega (arith, t.at, t.within))
  | in-Err w ↦ let t = rw w.refusal_number.ensures at w.refused.ensures in rw (w.in-Err.is, w.pen-is) (omega (arith, t.at, t.within))
]

pub returns-clause-out_after : goal.returns-clause-out_after
unfolding last_line
returns-clause-out_after c = elim c.match-last.branch [
  | in-Ok w ↦ rw w.in-Ok.is (search (rules, w.pen-is, then w.text.ensures w.four.ensures))
  | in-Err w ↦ rw w.in-Err.is (search (rules, w.pen-is, rw w.refusal_number.ensures at w.refused.ensures))
]
