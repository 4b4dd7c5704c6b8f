-- `said::line` meets its contract: the word is laid behind the text, both of what was read.
use Rattle.paper.specs.Sizes.{PDU_MAX}
use Rattle.lists.specs.Bytes.{zeros}
use Rattle.lists.proofs.Laid.{laid_next}
use Rattle.lines.proofs.Ends.{ends}
use Rattle.reading.specs.Said.{said}
use Rattle.said.specs.Saying.{text_of, word_for, word_of, line_of}
use native.Mathlib.Omega.{arith}
use Rattle.said.proofs.line.Goals as goal

pub overflow_add-result : goal.overflow_add-result
overflow_add-result c = omega (arith, c.word.ensures.value.1, c.text-end.ensures.value.1)

pub returns : goal.returns
unfolding line_of word_of zeros PDU_MAX
returns c =
    let a = c.args in
    let read = c.read-read.ensures in
    let front = text_of (said a.pdu.now c.read-read.result) in
    let back = word_for c.again-answer.result c.again-answer.new.out a.pdu.now in
    let t = c.text-end.ensures in
    let w = c.word.ensures in
    rw (← read, ← c.again-answer.ensures.value, ← c.again-answer.ensures.out_after)
    (record { value = ends front back t.value.0 w.value.0; out_after = laid_next _ _ _ front back _ t.value.0 t.out_after w.out_after })
