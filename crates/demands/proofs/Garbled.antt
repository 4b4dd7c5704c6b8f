-- No half message: a garbled block leaves an open channel dead, and a dead channel is told nothing but refusals until it is closed,
-- and hands up nothing until it is opened again.
-- Assumes nothing.
use Rattle.std.specs.Prelude.{None}
use mathlib.Core.Path.{◌≡◌, refl, ap, ◌∙◌}
use mathlib.Core.Bool.{Bool, true, false, ◌&&◌}
use mathlib.Core.List.{List, [], ◌∷◌}
use Prim.Native.Nat.{ℕ, ◌≤◌, ◌<◌}
use lib.ListN.{length}
use Rattle.paper.specs.Commands.{DATA_FIRST}
use Rattle.paper.specs.declared.Refusal.{Refusal}
use Rattle.paper.specs.declared.Refusal.TheVariants.{CutShort}
use Rattle.lists.proofs.Cases.{and_false, true_not_false}
use Rattle.numbers.specs.Numbers.{width_of}
use Rattle.reading.specs.Reading.{read_pdu}
use Rattle.reading.specs.Grammar.{InWidth, carrying}
use Rattle.reading.proofs.Garbled.{cut_off}
use Rattle.channel.specs.declared.Stage.TheVariants.{Spoiled}
use Rattle.channel.specs.declared.Record.{Record}
use Rattle.channel.specs.declared.Answer.TheVariants.{Refused}
use Rattle.channel.specs.Channel.{Act, BadCreate, Create, Bring, Garbled, Closing, LocalClose, View, Open, restaged, act}
use Rattle.connection.specs.States.{State, view, room_in}
use Rattle.client.specs.Events.{Event, Unreadable, Capabilities, Of, event_of}
use Rattle.client.specs.Client.{stepped}
use Rattle.steps.specs.States.{ruled}
use Rattle.steps.proofs.Garbled.{only_garbled, every_garbled, garbled_spoils}
use Rattle.demands.specs.Runs.{receives, Call, after, told_to, ends, event_in, own_events, full_flags, Running}
use Rattle.demands.specs.Joining.{Join, Off, Dead, joins, wants_room, joins_if, flag, flags}
use Rattle.demands.specs.Telling.{step_says, says_if, answered, hands_up, told_if, told_with, tells_none}
use Rattle.demands.specs.Garbled.{IsGarbled, AllTold, NothingUp, is_opened, NotOpened, asks_close, NeverClosed, NoHalfMessage, NoHalfMessageIsHandedUp}
use Rattle.demands.proofs.Machine.{steady, told_by, call_state, running_call, own_told}
use Rattle.demands.proofs.Joined.{join_of}
use Rattle.demands.proofs.Orders.{fresh, runs_on, told_with_law}

-- ---- a channel that is dead or not open

pub data Mute : Join → Type 0 where
  dead : Mute Dead
  off : Mute Off

-- an event of its own hands up nothing, and leaves it so unless it is opened
record Quietly (full : Bool) (n : ℕ) (j : Join) (a : Act) : Type 0 where
  pub up : (told_if full n j a).message ≡ []
  pub next : is_opened (told_if full n j a).answer ≡ false → Mute (joins_if full j a).join

mute_plain : (n : ℕ) (j : Join) (a : Act) → Mute j → Quietly false n j a
unfolding told_if says_if joins_if joins step_says hands_up
mute_plain n j BadCreate dead = record { up = refl; next = λ o. dead }
mute_plain n j (Create listed pri) dead = record { up = refl; next = λ o. dead }
mute_plain n j (Bring offer block) dead = record { up = refl; next = λ o. dead }
mute_plain n j (Garbled why) dead = record { up = refl; next = λ o. dead }
mute_plain n j Closing dead = record { up = refl; next = λ o. off }
mute_plain n j LocalClose dead = record { up = refl; next = λ o. off }
mute_plain n j BadCreate off = record { up = refl; next = λ o. off }
mute_plain n j (Create true pri) off = record { up = refl; next = λ o. absurd (true_not_false o) }
mute_plain n j (Create false pri) off = record { up = refl; next = λ o. off }
mute_plain n j (Bring offer block) off = record { up = refl; next = λ o. off }
mute_plain n j (Garbled why) off = record { up = refl; next = λ o. off }
mute_plain n j Closing off = record { up = refl; next = λ o. off }
mute_plain n j LocalClose off = record { up = refl; next = λ o. off }

mute_step : (full : Bool) (n : ℕ) (j : Join) (a : Act) → Mute j → Quietly full n j a
unfolding told_if says_if joins_if hands_up
mute_step full n j a m = go (full && wants_room j a) refl
  where
    go : (t : Bool) → (full && wants_room j a) ≡ t → Quietly full n j a
    go true e = record { up = rw e refl; next = λ o. rw e off }
    go false e = let p = mute_plain n j a m in record { up = rw e p.up; next = λ o. rw e (p.next (rw e at o)) }

-- until it is opened nothing goes up
mute_run :
    (j : Join) (es : List Event) (fs : List Bool) → Mute j → AllTold NotOpened (told_with j es fs)
    → AllTold NothingUp (told_with j es fs)
unfolding told_with
mute_run j [] fs m o = tt
mute_run j (Unreadable why ∷ es) fs m o = (refl, mute_run j es (flags fs) m o.1)
mute_run j (Capabilities version ∷ es) fs m o = (refl, mute_run j es (flags fs) m o.1)
mute_run j (Of n a ∷ es) fs m o =
    let q = mute_step (flag fs) n j a m in
    (q.up, mute_run (joins_if (flag fs) j a).join es (flags fs) (q.next o.0) o.1)

-- a dead channel that isn't closed is not opened, and stays dead
record Lasts (full : Bool) (n : ℕ) (a : Act) : Type 0 where
  pub not_opened : is_opened (told_if full n Dead a).answer ≡ false
  pub still_dead : (joins_if full Dead a).join ≡ Dead

dead_plain : (n : ℕ) (a : Act) → asks_close a ≡ false → Lasts false n a
unfolding told_if says_if joins_if joins step_says answered
dead_plain n BadCreate h = record { not_opened = refl; still_dead = refl }
dead_plain n (Create listed pri) h = record { not_opened = refl; still_dead = refl }
dead_plain n (Bring offer block) h = record { not_opened = refl; still_dead = refl }
dead_plain n (Garbled why) h = record { not_opened = refl; still_dead = refl }
dead_plain n Closing h = absurd (true_not_false h)
dead_plain n LocalClose h = absurd (true_not_false h)

dead_step : (full : Bool) (n : ℕ) (a : Act) → asks_close a ≡ false → Lasts full n a
unfolding told_if says_if joins_if
dead_step full n a h = let p = dead_plain n a h in record { not_opened = rw (and_false full) p.not_opened; still_dead = rw (and_false full) p.still_dead }

dead_run : (es : List Event) (fs : List Bool) → NeverClosed es → AllTold NotOpened (told_with Dead es fs)
unfolding told_with
dead_run [] fs h = tt
dead_run (Unreadable why ∷ es) fs h = (refl, dead_run es (flags fs) h.1)
dead_run (Capabilities version ∷ es) fs h = (refl, dead_run es (flags fs) h.1)
dead_run (Of n a ∷ es) fs h =
    let l = dead_step (flag fs) n a h.0 in
    (l.not_opened, rw l.still_dead (dead_run es (flags fs) h.1))

-- ---- the run behind a garbled block

module _ (l : ℕ) (st : State) (g : Running l st) (c : Call) (n : ℕ) (why : Refusal) (e : event_in c.asked ≡ Of n (Garbled why))
    (r : Record) (b : List ℕ) (v : view n st ≡ Open r b) where
  -- it is spoiled
  spoiled : view n (after st c) ≡ Open (restaged r Spoiled) b
  spoiled =
      ap (view n) (call_state st c g.calm.sane ∙ ap (λ (x : Event). (stepped st x).state) e)
      ∙ garbled_spoils n why st (steady l st g) r b v

  is_dead : join_of (Open (restaged r Spoiled) b) ≡ Dead
  unfolding restaged
  is_dead = refl

  -- so what follows is told as to a dead channel
  told_dead : (xs : List Call) → told_to n (after st c) xs ≡ told_with Dead (own_events n xs) (full_flags n (after st c) xs)
  told_dead xs =
      told_with_law l (after st c) (running_call l st c g) n xs
      ∙ ap (λ (j : Join). told_with j (own_events n xs) (full_flags n (after st c) xs)) (ap join_of spoiled ∙ is_dead)

  garbled_told : told_by (ruled n st (Garbled why)) ≡ tells_none (Refused why None)
  unfolding act
  garbled_told = ap (λ (w : View). told_by (act st.table.level n (room_in st) w (Garbled why))) v

  pub behind_garbled : (xs : List Call) → NoHalfMessage n st c why xs
  behind_garbled xs =
      record {
        refused_as_read = own_told st c (steady l st g) n (Garbled why) tt e ∙ garbled_told;
        nothing_up = λ o. rw (told_dead xs) (mute_run Dead (own_events n xs) (full_flags n (after st c) xs) dead (rw (told_dead xs) at o));
        closed_first = λ h. rw (told_dead xs) (dead_run (own_events n xs) (full_flags n (after st c) xs) h);
      }

-- ---- as the PDU says it

pub only_these :
    (list pdu : List ℕ) (n : ℕ) (why : Refusal) → event_of list pdu (read_pdu true pdu) ≡ Of n (Garbled why) → IsGarbled n pdu why
only_these list pdu n why e = let o = only_garbled list pdu n why e in record { refused = o.0; whole = o.1 }

pub all_these :
    (list pdu : List ℕ) (n : ℕ) (why : Refusal) → IsGarbled n pdu why → event_of list pdu (read_pdu true pdu) ≡ Of n (Garbled why)
all_these list pdu n why i = every_garbled list pdu n why i.refused i.whole

pub first_cut_off :
    (n code lengthCode : ℕ) (rest : List ℕ) → InWidth code n → lengthCode ≤ 2 → length rest < width_of lengthCode
    → IsGarbled n (carrying code DATA_FIRST lengthCode n rest) CutShort
first_cut_off n code lengthCode rest w k h = let c = cut_off true n code lengthCode rest w k h in record { refused = c.0; whole = c.1 }

received_event : (c : Call) (list pdu : List ℕ) → c.asked ≡ receives list pdu → event_in c.asked ≡ event_of list pdu (read_pdu true pdu)
unfolding event_in
received_event c list pdu e = ap event_in e

pub no_half_message : NoHalfMessageIsHandedUp
no_half_message st j before c list pdu asked n why garbled r b v xs =
    let event = received_event c list pdu asked ∙ all_these list pdu n why garbled in
    behind_garbled (fresh st j).level (ends st before) (runs_on st j before) c n why event r b v xs
