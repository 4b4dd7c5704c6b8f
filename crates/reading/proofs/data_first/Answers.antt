-- `reading::data_first` meets its contract: its test is the definition's, and Length is read at its place.
use Rattle.reading.specs.Reading.{data_first}
use Rattle.reading.proofs.Judged.{is_found, is_refused_law}
use Rattle.lists.proofs.Cases.{tests}
use Rattle.reading.proofs.data_first.Goals as goal

pub returns-then-pdu-at : goal.returns-then-pdu-at
unfolding data_first
returns-then-pdu-at c = let both = is_refused_law _ _ c.refused.ensures.0 (search tests) in record { answer_value = both.0; result_value = both.1 }

pub returns : goal.returns
unfolding data_first
returns c = let both = is_found _ (search (tests, c.number_at-length.ensures)) (search c.number_at-length.ensures) in record { answer_value = both.0; result_value = both.1 }
