-- `cause::of_refusal` meets its contract: 1 has no cause, 13 its note, any other its rule.
use Rattle.std.proofs.Common.{◌≡◌, Option, refl, sym, ◌∙◌, ap}
use Rattle.paper.specs.declared.Refusal.{Refusal}
use Rattle.paper.specs.declared.Refusal.TheVariants.{BadCall, CutShort, TooLong, NoCommand, BadField, BadList, WrongTime, NotOpen}
use Rattle.paper.specs.declared.Refusal.TheVariants.{AlreadyOpen, StillJoining, OverLimit, PastLength, IsSpoiled, NoStart, AllTaken, NotAwaited, NotSets, Loose}
use Rattle.paper.specs.declared.Refusal.TheVariants.{NoPartner, NoRoom, LogFull, NotBlocks}
use Rattle.paper.specs.Rows.{refused_with}
use Rattle.rules.specs.declared.Rule.{Rule}
use Rattle.cause.specs.declared.Note.{Note}
use Rattle.cause.specs.Cause.{cause_named, cause_by}
use Rattle.cause.proofs.of_refusal.Goals as goal

-- the refusals but 1 and 13
others : (why : Refusal) → (why ≡ BadCall → ⊥) → (why ≡ IsSpoiled → ⊥) → (note : Note) (broken : Option Rule) → cause_by note broken (refused_with why) ≡ cause_named broken
unfolding cause_by
others BadCall k1 k2 note broken = absurd (k1 refl)
others CutShort k1 k2 note broken = refl
others TooLong k1 k2 note broken = refl
others NoCommand k1 k2 note broken = refl
others BadField k1 k2 note broken = refl
others BadList k1 k2 note broken = refl
others WrongTime k1 k2 note broken = refl
others NotOpen k1 k2 note broken = refl
others AlreadyOpen k1 k2 note broken = refl
others StillJoining k1 k2 note broken = refl
others OverLimit k1 k2 note broken = refl
others PastLength k1 k2 note broken = refl
others IsSpoiled k1 k2 note broken = absurd (k2 refl)
others NoStart k1 k2 note broken = refl
others AllTaken k1 k2 note broken = refl
others NotAwaited k1 k2 note broken = refl
others NotSets k1 k2 note broken = refl
others Loose k1 k2 note broken = refl
others NoPartner k1 k2 note broken = refl
others NoRoom k1 k2 note broken = refl
others LogFull k1 k2 note broken = refl
others NotBlocks k1 k2 note broken = refl

pub returns-in-BadCall : goal.returns-in-BadCall
unfolding cause_by
returns-in-BadCall c = rw c.in-BadCall.is refl

pub returns-in-IsSpoiled : goal.returns-in-IsSpoiled
unfolding cause_by
returns-in-IsSpoiled c = rw (c.in-IsSpoiled.is, c.spoiling.ensures, c.note_at.ensures) refl

pub returns-in_default : goal.returns-in_default
returns-in_default c =
    c.named.ensures ∙ ap cause_named c.first.ensures ∙ sym (others c.args.why c.in_default.not-BadCall c.in_default.not-IsSpoiled _ _)
