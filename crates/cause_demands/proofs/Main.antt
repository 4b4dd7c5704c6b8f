-- WHY A CHANNEL IS DEAD, on one page. Each line has a statement, and where its proof is. The statements' text stands in specs/Why, over
-- the run that the input is: Start, and then PDU by PDU what `receive` answers.
-- Assumes nothing.
use Rattle.std.proofs.Common.{Option, None, Some}
use mathlib.Core.Path.{◌≡◌, sym, subst, ◌∙◌}
use mathlib.Core.List.{List}
use Prim.Native.Nat.{ℕ}
use Rattle.records.specs.Pdus.{pdus_in}
use Rattle.rules.specs.Examples.{FirstBroken}
use Rattle.rules.proofs.Rules.{verdict_of_rules, pad_of_capabilities, version_of_capabilities}
use Rattle.rules.proofs.Examples.{examples}
use Rattle.cause.specs.declared.Cause.{Cause}
use Rattle.cause.specs.declared.Said.{Said}
use Rattle.cause.specs.Cause.{said_of}
use Rattle.cause.proofs.Pieces as pieces
use Rattle.cause_demands.specs.Why.{SaidOf, TheAnswerThere, AThirteenNamesTheEvent, OthersNameTheFirstRule, IsTheEvent, IsTheFirstRule}
use Rattle.cause_demands.proofs.Ways as ways
use Rattle.cause_demands.proofs.Walker as walker
use Rattle.cause_demands.proofs.Causes as causes

-- "names, for a given place in it, the answer there"; "A place that the input doesn't have whole is answered as such."
pub the_answer_there : TheAnswerThere
unfolding said_of
the_answer_there =
    record {
      said = λ list input place h k.
          record { cause = _; is_said = record { whole = h; counted = k; said = ways.says place list (pdus_in input) k h } };
      absent = λ list input place h k. ways.says_nothing place list (pdus_in input) k h;
      the-walker's = walker.the_walkers;
      in_pieces = λ list place reads. pieces.in_pieces place list reads;
    }

-- what is said is one thing
same_cause : (a b : Said) → Some a ≡ Some b → a.cause ≡ b.cause
same_cause a b same = cc

is_cause :
    (list input : List ℕ) (place : ℕ) (cause : Option Cause) → SaidOf list input place cause → causes.cause list (pdus_in input) place ≡ cause
unfolding said_of
is_cause list input place cause s =
    same_cause _ _ (sym (ways.says place list (pdus_in input) s.counted s.whole) ∙ s.said)

-- "for a 13, the place and refusal that spoiled the channel. That is the one event since the channel's last opening that turned it from
-- not spoiled to spoiled"
pub the_one_event : AThirteenNamesTheEvent
the_one_event list input place cause s concern e =
    subst (IsTheEvent list (pdus_in input) place concern) (is_cause list input place cause s)
    (causes.names_the_event list (pdus_in input) place concern e)

-- "For any other refusal it names the first rule in the order that held."
pub the_first_rule : OthersNameTheFirstRule
the_first_rule =
    record {
      any_other = λ list input place cause s why concern e d.
          subst (IsTheFirstRule list (pdus_in input) place why) (is_cause list input place cause s)
          (causes.names_the_rule list (pdus_in input) place why concern e d);
      accepted = λ list input place cause s e. sym (is_cause list input place cause s) ∙ causes.names_none list (pdus_in input) place e;
      by_the_rows = verdict_of_rules;
      pad_of_capabilities = pad_of_capabilities;
      version_of_capabilities = version_of_capabilities;
    }

-- `50 01` is pad, `50 00 04` is ended, `50 01 02 00` is pad, and further PDUs by computing
pub by_computing : FirstBroken
by_computing = examples

-- One outcome for each input, of every public function: proofs/OneOutcome
