-- `rules::reading_rule` meets its contract: each arm is a refusal, and reading gives only the first four.
use Rattle.std.proofs.Common.{Option, true, false, sym, ◌∙◌, eqb-true, eq-eqb}
use mathlib.Core.Path.{◌≡◌, refl}
use mathlib.Core.List.{List}
use Prim.Native.Nat.{ℕ}
use Rattle.paper.specs.declared.Refusal.{Refusal}
use Rattle.paper.specs.declared.Refusal.TheVariants.{BadCall, CutShort, TooLong, NoCommand, BadField, BadList, WrongTime, NotOpen}
use Rattle.paper.specs.declared.Refusal.TheVariants.{AlreadyOpen, StillJoining, OverLimit, PastLength, IsSpoiled, NoStart, AllTaken, NotAwaited, NotSets, Loose}
use Rattle.paper.specs.declared.Refusal.TheVariants.{NoPartner, NoRoom, LogFull, NotBlocks}
use Rattle.rules.specs.declared.Rule.{Rule}
use Rattle.rules.proofs.Rules.{Leads, is_empty_law, is_ended, is_long, is_command, never}
use Rattle.rules.proofs.reading_rule.Goals as goal

-- the refusals but 2 to 5
others : (why : Refusal) → (why ≡ CutShort → ⊥) → (why ≡ TooLong → ⊥) → (why ≡ NoCommand → ⊥) → (why ≡ BadField → ⊥) → (b : Option Rule) (pdu : List ℕ) → Leads why b pdu
others BadCall k1 k2 k3 k4 b pdu = never BadCall b pdu refl refl refl refl
others CutShort k1 k2 k3 k4 b pdu = absurd (k1 refl)
others TooLong k1 k2 k3 k4 b pdu = absurd (k2 refl)
others NoCommand k1 k2 k3 k4 b pdu = absurd (k3 refl)
others BadField k1 k2 k3 k4 b pdu = absurd (k4 refl)
others BadList k1 k2 k3 k4 b pdu = never BadList b pdu refl refl refl refl
others WrongTime k1 k2 k3 k4 b pdu = never WrongTime b pdu refl refl refl refl
others NotOpen k1 k2 k3 k4 b pdu = never NotOpen b pdu refl refl refl refl
others AlreadyOpen k1 k2 k3 k4 b pdu = never AlreadyOpen b pdu refl refl refl refl
others StillJoining k1 k2 k3 k4 b pdu = never StillJoining b pdu refl refl refl refl
others OverLimit k1 k2 k3 k4 b pdu = never OverLimit b pdu refl refl refl refl
others PastLength k1 k2 k3 k4 b pdu = never PastLength b pdu refl refl refl refl
others IsSpoiled k1 k2 k3 k4 b pdu = never IsSpoiled b pdu refl refl refl refl
others NoStart k1 k2 k3 k4 b pdu = never NoStart b pdu refl refl refl refl
others AllTaken k1 k2 k3 k4 b pdu = never AllTaken b pdu refl refl refl refl
others NotAwaited k1 k2 k3 k4 b pdu = never NotAwaited b pdu refl refl refl refl
others NotSets k1 k2 k3 k4 b pdu = never NotSets b pdu refl refl refl refl
others Loose k1 k2 k3 k4 b pdu = never Loose b pdu refl refl refl refl
others NoPartner k1 k2 k3 k4 b pdu = never NoPartner b pdu refl refl refl refl
others NoRoom k1 k2 k3 k4 b pdu = never NoRoom b pdu refl refl refl refl
others LogFull k1 k2 k3 k4 b pdu = never LogFull b pdu refl refl refl refl
others NotBlocks k1 k2 k3 k4 b pdu = never NotBlocks b pdu refl refl refl refl

pub returns-then-is_empty : goal.returns-then-is_empty
returns-then-is_empty c = is_empty_law _ c.args.pdu.now (eqb-true _ 0 (sym c.is_empty.ensures ∙ c.if-is_empty.true))

pub returns-else-is_empty : goal.returns-else-is_empty
returns-else-is_empty c = rw c.in-CutShort.is (is_ended c.args.pdu.now (λ e. let no : true ≡ false = sym (eq-eqb _ 0 e) ∙ sym c.is_empty.ensures ∙ c.if-is_empty.false in absurd (cc)))

pub returns-in-TooLong : goal.returns-in-TooLong
returns-in-TooLong c = rw c.in-TooLong.is (is_long c.args.pdu.now)

pub returns-in-NoCommand : goal.returns-in-NoCommand
returns-in-NoCommand c = rw c.in-NoCommand.is (is_command c.args.pdu.now)

pub returns-in-BadField : goal.returns-in-BadField
returns-in-BadField c = rw c.in-BadField.is c.field_rule.ensures

pub returns-in_default : goal.returns-in_default
returns-in_default c = others c.args.why c.in_default.not-CutShort c.in_default.not-TooLong c.in_default.not-NoCommand c.in_default.not-BadField _ c.args.pdu.now
