-- `reading::dvc_strict` meets its contract: the verdict on what strict reading answers.
use mathlib.Core.Path.{ap, ◌∙◌}
use Rattle.paper.specs.Rows.{verdict_number}
use Rattle.reading.specs.declared.Pdu.{Pdu}
use Rattle.reading.specs.Said.{verdict_on}
use Rattle.reading.specs.Strict.{strict_verdict}
use Rattle.reading.proofs.dvc_strict.Goals as goal

pub returns : goal.returns
unfolding strict_verdict
returns c = c.verdict.ensures ∙ ap (λ (p : Pdu). verdict_number (verdict_on p)) c.read_strict.ensures
