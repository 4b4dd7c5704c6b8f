-- `linking::call_text` meets its contract: each part is laid behind the one before.
use mathlib.Core.List.{◌++◌}
use Rattle.paper.specs.Sizes.{MESSAGE_MAX}
use Rattle.lines.specs.Lines.{MESSAGE_LINE_MAX, answer_line}
use Rattle.lines.proofs.Ends.{ends}
use Rattle.handing.specs.Handing.{handed_text}
use Rattle.saying.specs.Saying.{end_field}
use Rattle.linking.specs.Linking.{call_text, CALL_MAX}
use Rattle.linking.proofs.Crossing.{behind}
use native.Mathlib.Omega.{arith}
use Rattle.linking.proofs.call_text.Goals as goal

pub overflow_add-result : goal.overflow_add-result
unfolding MESSAGE_LINE_MAX MESSAGE_MAX
overflow_add-result g c = omega (arith, c.handed.ensures.value.1, c.answer_line.ensures.value.1, c.end_word-worded.ensures.value.1)

pub returns : goal.returns
unfolding call_text CALL_MAX MESSAGE_LINE_MAX MESSAGE_MAX
returns g c =
    let a = c.args in
    let out = a.out.now in
    let p1 = c.end_word-worded.ensures in
    let p2 = c.answer_line.ensures in
    let p3 = c.handed.ensures in
    let told = g.T.Spoken in
    let f1 = end_field a.end in
    let f2 = answer_line a.place (told.word a.answer) (told.concern a.answer) (told.number a.answer) a.sent in
    let f3 = handed_text a.place a.at a.store.now (told.message a.answer) in
    let n2 = ends f1 f2 p1.value.0 p2.value.0 in
    let l2 = behind out _ _ f1 f2 _ _ p1.value.0 p1.out_after c.min-from.ensures p2.out_after in
    let n3 = ends (f1 ++ f2) f3 n2 p3.value.0 in
    let l3 = behind out _ _ (f1 ++ f2) f3 _ _ n2 l2 c.min-behind.ensures p3.out_after in
    record { value = (n3, omega (arith, p1.value.1, p2.value.1, p3.value.1)); out_after = l3 }
