-- `reading::find` meets its contract: its tests are the definition's, and the rest is `by_command`.
use Rattle.reading.specs.Reading.{read_pdu}
use Rattle.reading.specs.Strict.{read_strict, loose}
use Rattle.reading.proofs.Judged.{is_refused_law}
use Rattle.paper.specs.Sizes.{PDU_MAX}
use Rattle.lists.proofs.Cases.{tests}
use Rattle.reading.proofs.find.Goals as goal

pub returns-then-pdu-eq0 : goal.returns-then-pdu-eq0
unfolding read_pdu PDU_MAX read_strict
returns-then-pdu-eq0 c = let both = is_refused_law _ _ c.refused.ensures.0 (search tests) in record { answer_value = both.0; result_value = both.1 }

pub returns-then-pdu-gt-PDU_MAX : goal.returns-then-pdu-gt-PDU_MAX
unfolding read_pdu PDU_MAX read_strict
returns-then-pdu-gt-PDU_MAX c = let both = is_refused_law _ _ c.refused-then-pdu-gt-PDU_MAX.ensures.0 (search tests) in record { answer_value = both.0; result_value = both.1 }

pub returns : goal.returns
unfolding read_pdu PDU_MAX read_strict loose
returns c = search (tests, c.by_command.ensures)
