-- The laws of a number's rules: what both ends have in common, whatever the view; a Create response, by its tests.
-- Assumes nothing.
use Rattle.std.specs.Prelude.{None, Some}
use mathlib.Core.Path.{◌≡◌, refl}
use mathlib.Core.Bool.{Bool, true, false, not, ◌&&◌}
use Prim.Native.Nat.{ℕ}
use lib.IntN.{ℤ, pos, negsuc}
use Rattle.numbers.specs.Status.{is_success}
use Rattle.paper.specs.declared.Refusal.TheVariants.{WrongTime, NotAwaited}
use Rattle.channel.specs.declared.Record.{Record}
use Rattle.channel.specs.declared.Change.TheVariants.{Becomes, Frees}
use Rattle.channel.specs.declared.Part.TheVariants.{Keeps, Clears}
use Rattle.channel.specs.declared.Reply.TheVariants.{NoReply}
use Rattle.shore.specs.declared.Said.TheVariants.{Opened, Declined, Refused}
use Rattle.channel.specs.Channel.{Act, View, Shut, Open, NoRoom, act}
use Rattle.shore.specs.Rules.{Acts, as_open, common, deed, is_below_zero, settled_record}
use Rattle.shore.specs.Deciding.{deciding, saying, settling}

pub deed_acts : (level n : ℕ) (v : View) (a : Act) → deed level n v (Acts a) ≡ common v a (act level n NoRoom (as_open v) a)
unfolding deed
deed_acts level n Shut a = refl
deed_acts level n (Open r part) a = refl

-- a status below zero is one that is no success
pub below_zero : (status : ℤ) → is_below_zero status ≡ not (is_success status)
unfolding is_success
below_zero (pos k) = refl
below_zero (negsuc k) = refl

module _ (ready : Bool) (level n : ℕ) (row : Record) (status : ℤ) where
  pub too_soon_law : ready ≡ false → saying ready level (Refused WrongTime None) ≡ settling ready level n row status
  unfolding settling
  too_soon_law e = rw e refl

  module _ (e : ready ≡ true) where
    pub not_awaited :
        (row.taken && row.awaited) ≡ false → saying ready level (Refused NotAwaited (Some n)) ≡ settling ready level n row status
    unfolding settling
    not_awaited f = rw (e, f) refl

    pub declined :
        (row.taken && row.awaited) ≡ true → is_below_zero status ≡ true
        → deciding ready level Frees Clears (Declined n) NoReply ≡ settling ready level n row status
    unfolding settling
    declined f g = rw (e, f, g) refl

    pub accepted :
        (row.taken && row.awaited) ≡ true → is_below_zero status ≡ false
        → deciding ready level (Becomes (settled_record row)) Keeps (Opened n) NoReply ≡ settling ready level n row status
    unfolding settling
    accepted f g = rw (e, f, g) refl
