-- `linking::unsent` meets its contract: the line is laid behind the end's word.
use Rattle.paper.specs.Sizes.{MESSAGE_MAX}
use Rattle.lines.specs.Lines.{MESSAGE_LINE_MAX}
use Rattle.lines.proofs.Ends.{ends}
use Rattle.saying.specs.Saying.{end_field, desk_line_of}
use Rattle.linking.specs.Linking.{CALL_MAX, unsent}
use Rattle.linking.proofs.Crossing.{behind}
use native.Mathlib.Omega.{arith}
use Rattle.linking.proofs.unsent.Goals as goal

pub returns : goal.returns
unfolding unsent CALL_MAX MESSAGE_LINE_MAX MESSAGE_MAX
returns c =
    let a = c.args in
    let f1 = end_field a.from in
    let f2 = desk_line_of a.place a.said 0 in
    let p1 = c.end_word-worded.ensures in
    let p2 = c.desk_line.ensures in
    record { value = (ends f1 f2 p1.value.0 p2.value.0, omega (arith, p1.value.1, p2.value.1)); out_after = behind a.out.now _ _ f1 f2 _ _ p1.value.0 p1.out_after c.min-behind.ensures p2.out_after }
