-- `logging::append` meets its contract: the length tells a close from a PDU, and each is appended as the log does.
use mathlib.Core.Path.{ap, ◌∙◌}
use Rattle.lists.proofs.Laid.{to_end}
use Rattle.numbers.specs.Numbers.{value_of}
use Rattle.records.specs.Records.{LENGTH}
use Rattle.logging.proofs.Inputs.{announced_is, is_close_law, is_pdu, number_behind}
use Rattle.logging.proofs.append.Goals as goal

pub returns-then-from-eq-CLOSE : goal.returns-then-from-eq-CLOSE
returns-then-from-eq-CLOSE c =
    let did = c.close.ensures in
    let bytes = c.args.bytes.now in
    let number = c.number-number.ensures ∙ ap value_of (to_end bytes LENGTH) ∙ number_behind bytes in
    rw (is_close_law bytes _ (c.from.ensures ∙ c.short_at-announced.ensures ∙ announced_is bytes) c.if-from-eq-CLOSE.true, ← number) did

pub returns : goal.returns
returns c =
    let did = c.append.ensures in
    let bytes = c.args.bytes.now in
    rw (is_pdu bytes _ (c.from.ensures ∙ c.short_at-announced.ensures ∙ announced_is bytes) c.if-from-eq-CLOSE.false) (rw (to_end bytes LENGTH) at did)
