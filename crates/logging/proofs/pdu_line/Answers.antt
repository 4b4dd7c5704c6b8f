-- `logging::pdu_line` meets its contract: each field is laid behind the one before, and a PDU of the log is spelled whole.
use lib.ListN.{length-append}
use lib.Seq.{take_all}
use Rattle.paper.specs.Sizes.{MESSAGE_MAX}
use Rattle.lines.proofs.Lays.{then}
use Rattle.logging.specs.Lines.{entry_line}
use Rattle.logging.proofs.Said.{digits_le}
use native.Mathlib.Omega.{arith}
use Rattle.logging.proofs.pdu_line.Goals as goal

pub returns : goal.returns
unfolding entry_line MESSAGE_MAX
returns c =
    let pdu = c.args.pdu.now in
    let spelled = rw (take_all 4096 pdu (omega (arith, c.requires.0))) at c.bytes.ensures in
    let w = then (then (then c.text.ensures c.field.ensures) spelled) c.text-2.ensures in
    record { same = w.same; small = w.small; out = w.out; at = w.at; within = simp length-append (omega (arith, c.field.ensures.within, digits_le pdu)) }
