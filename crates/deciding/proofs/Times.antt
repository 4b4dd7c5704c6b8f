-- What a matter comes to: garbled or not, in time, too early and too late.
-- Assumes nothing.
use Prim.Native.Nat.{ℕ}
use mathlib.Core.Path.{◌≡◌, sym, ap}
use mathlib.Core.Bool.{Bool, true, false, cond, ◌&&◌}
use Rattle.paper.specs.declared.Refusal.{Refusal}
use Rattle.paper.specs.declared.Refusal.TheVariants.{WrongTime}
use Rattle.channel.specs.declared.Record.{Record}
use Rattle.channel.specs.declared.Ask.{Ask}
use Rattle.channel.specs.Turns.{garbling, turn_of}
use Rattle.deciding.specs.declared.Matter.TheVariants.{Unread, Caps, Asks}
use Rattle.deciding.specs.Deciding.{taking, refusing, readying, decided_of}

module _ (ready : Bool) (level n : ℕ) (room : Bool) (row : Record) (len : ℕ) where
  pub garbled :
      (why : Refusal) (whole : Bool) → ((ready && whole) && row.taken) ≡ true
      → taking ready level (garbling row why) ≡ decided_of ready level n room row (Unread why whole) len
  unfolding decided_of
  garbled why whole e = rw e

  pub unread :
      (why : Refusal) (whole : Bool) → ((ready && whole) && row.taken) ≡ false
      → refusing ready level why ≡ decided_of ready level n room row (Unread why whole) len
  unfolding decided_of
  unread why whole e = rw e

  pub late : (version : ℕ) → ready ≡ true → refusing ready level WrongTime ≡ decided_of ready level n room row (Caps version) len
  unfolding decided_of
  late version e = sym (ap (λ (b : Bool). cond b (refusing ready level WrongTime) (readying version)) e)

  pub first : (version : ℕ) → ready ≡ false → readying version ≡ decided_of ready level n room row (Caps version) len
  unfolding decided_of
  first version e = sym (ap (λ (b : Bool). cond b (refusing ready level WrongTime) (readying version)) e)

  pub early : (ask : Ask) → ready ≡ false → refusing ready level WrongTime ≡ decided_of ready level n room row (Asks ask) len
  unfolding decided_of
  early ask e = sym (ap (λ (b : Bool). cond b (taking ready level (turn_of level n room row ask len)) (refusing ready level WrongTime)) e)

  pub in_time :
      (ask : Ask) → ready ≡ true → taking ready level (turn_of level n room row ask len) ≡ decided_of ready level n room row (Asks ask) len
  unfolding decided_of
  in_time ask e =
      sym (ap (λ (b : Bool). cond b (taking ready level (turn_of level n room row ask len)) (refusing ready level WrongTime)) e)
