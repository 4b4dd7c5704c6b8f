-- An answer that is no refusal.
-- Assumes nothing.
use Rattle.std.specs.Prelude.{Option, ℕ}
use Rattle.std.proofs.Common.{◌≡◌, refl}
use Rattle.paper.specs.declared.Refusal.{Refusal}
use Rattle.paper.specs.Rows.{fine}
use Rattle.channel.specs.declared.Answer.{Answer}
use Rattle.channel.specs.declared.Answer.TheVariants.{Ready, Opened, Declined, Held, Message, Closed, Ignored, Refused}
use Rattle.steps.specs.Rows.{verdict_of}

pub accepted : (a : Answer) → ((why : Refusal) (concern : Option ℕ) → a ≡ Refused why concern → ⊥) → verdict_of a ≡ fine
unfolding verdict_of
accepted (Ready level) k = refl
accepted (Opened n) k = refl
accepted (Declined n why) k = refl
accepted (Held n left) k = refl
accepted (Message n len) k = refl
accepted (Closed n) k = refl
accepted (Ignored n) k = refl
accepted (Refused why concern) k = absurd (k why concern refl)
