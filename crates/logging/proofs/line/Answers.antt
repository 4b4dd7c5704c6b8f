-- `logging::line` meets its contract: the length tells a close from a PDU.
use mathlib.Core.Path.{◌∙◌}
use lib.ListN.{length-drop}
use Rattle.lists.proofs.Laid.{to_end}
use Rattle.records.specs.Records.{LENGTH}
use Rattle.lines.proofs.Lays.{at_most}
use Rattle.logging.proofs.Inputs.{announced_is, is_close_law, is_pdu}
use native.Mathlib.Omega.{arith}
use Rattle.logging.proofs.line.Goals as goal

pub returns-then-from-eq-CLOSE : goal.returns-then-from-eq-CLOSE
returns-then-from-eq-CLOSE c =
    let bytes = c.args.bytes.now in
    rw (is_close_law bytes _ (c.from.ensures ∙ c.short_at-announced.ensures ∙ announced_is bytes) c.if-from-eq-CLOSE.true)
    (at_most _ c.close_line.ensures (omega (arith, c.requires.0)))

pub pdu_line-requires : goal.pdu_line-requires
pdu_line-requires c =
    let bytes = c.args.bytes.now in
    rw (to_end bytes LENGTH) (omega (arith, length-drop LENGTH bytes, c.requires), c.requires.1.1)

pub returns : goal.returns
returns c =
    let bytes = c.args.bytes.now in
    rw (is_pdu bytes _ (c.from.ensures ∙ c.short_at-announced.ensures ∙ announced_is bytes) c.if-from-eq-CLOSE.false)
    (at_most _ (rw (to_end bytes LENGTH) at c.pdu_line.ensures) (omega (arith, length-drop LENGTH bytes, c.requires.0)))
