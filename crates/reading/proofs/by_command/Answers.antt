-- `reading::by_command` meets its contract: its tests are the definition's, and the rest is `capabilities` or `numbered`.
use mathlib.Core.Path.{refl}
use Rattle.reading.specs.Reading.{by_command}
use Rattle.reading.specs.Strict.{loose_by, sp_set, has_sp}
use Rattle.reading.proofs.Judged.{is_found, is_refused_law}
use Rattle.lists.proofs.Cases.{tests}
use Rattle.reading.proofs.by_command.Goals as goal

pub returns-then-cmd-lt-CREATE : goal.returns-then-cmd-lt-CREATE
unfolding by_command
returns-then-cmd-lt-CREATE c = let both = is_refused_law _ _ c.refused.ensures.0 (search tests) in record { answer_value = both.0; result_value = both.1 }

pub returns-then-cmd-gt-CAPABILITIES : goal.returns-then-cmd-gt-CAPABILITIES
unfolding by_command
returns-then-cmd-gt-CAPABILITIES c = let both = is_refused_law _ _ c.refused-then-cmd-gt-CAPABILITIES.ensures.0 (search tests) in record { answer_value = both.0; result_value = both.1 }

pub returns-then-cmd-eq-CAPABILITIES : goal.returns-then-cmd-eq-CAPABILITIES
unfolding by_command loose_by sp_set has_sp
returns-then-cmd-eq-CAPABILITIES c = let both = is_found _ (search (tests, c.capabilities-answer.ensures)) (rw c.if-cmd-eq-CAPABILITIES.true refl) in record { answer_value = both.0; result_value = both.1 }

pub returns : goal.returns
unfolding by_command loose_by
returns c = search (tests, c.numbered.ensures)
