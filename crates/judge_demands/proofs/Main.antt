-- THE JUDGE, on one page. Each line has a statement, and where its proof is. The statements' text stands in specs/Sender, over what
-- `receive` answers, which specs/Received says.
-- Assumes nothing.
use mathlib.Core.Path.{refl}
use Rattle.records.specs.Items.{after_items}
use Rattle.judge.specs.Judge.{judgement_on, beginning, judged}
use Rattle.judge.proofs.Pieces as pieces
use Rattle.demands.proofs.Cut as cutting
use Rattle.judge_demands.specs.Sender.{YesExactlyIf, NoNamesTheFirst, EarlyOrOtherBytes, OursGetsYes, WhateverThePieces}
use Rattle.judge_demands.proofs.Verdicts as verdicts
use Rattle.judge_demands.proofs.Ours as ours

-- "says yes exactly if the PDUs, received on that channel open and idle, hand up that message at the last PDU and nothing before"
pub yes_exactly_if : YesExactlyIf
yes_exactly_if =
    record {
      yes_hands_up = λ n m pdus e st o cs r. verdicts.yes_handed n m pdus st o cs r e;
      hands_up_yes = verdicts.wherever_yes;
      once_is_enough = verdicts.handed_yes;
      there_is_one = verdicts.an_idle_one;
      there_are_calls = λ pdus. record { calls = verdicts.calls_of pdus; receive_them = verdicts.are_received pdus };
      never_over_limit = verdicts.over_limit;
    }

-- "A no names the first PDU [..], judged in that order"
pub no_names_the_first : NoNamesTheFirst
no_names_the_first =
    record {
      names = λ n m pdus place why e st o cs r. verdicts.is_fault n m pdus st o cs r place why e;
      named = λ n m pdus k why st o cs r f. verdicts.fault_no n m pdus st o cs r k why f;
    }

-- "with none, that the list ended early, or else that the bytes differ"
pub early_or_other_bytes : EarlyOrOtherBytes
unfolding judged after_items beginning judgement_on
early_or_other_bytes =
    record {
      early_is_held = λ n m pdus e st o cs r. verdicts.is_held n m pdus st o cs r e;
      held_is_early = λ n m pdus st o cs r a. (verdicts.says n m pdus st o cs r).held_says a;
      no_pdu_is_early = λ n m. refl;
      differs_is_another = λ n m pdus e st o cs r. verdicts.differs_another n m pdus st o cs r e;
      another_differs = verdicts.another_differs;
    }

-- "Our own cutter's list must get a yes, for every message up to 4,096 bytes."
pub ours_gets_yes : OursGetsYes
ours_gets_yes =
    record {
      none_refused = cutting.none_refused;
      gets_yes = λ n m lent cs small by. ours.gets_yes n m small lent cs by;
      none_refused_from_c = cutting.none_refused_from_c;
      gets_yes_from_c = λ n m lent cs small by. ours.gets_yes n m small lent cs (cutting.from_c n m lent cs by);
    }

-- "records in the walker's input form, in pieces as the walker takes them"
pub whatever_the_pieces : WhateverThePieces
whatever_the_pieces =
    record { stands = pieces.stands; says = pieces.says_for_all }

-- One outcome for each input, of every public function: proofs/OneOutcome
