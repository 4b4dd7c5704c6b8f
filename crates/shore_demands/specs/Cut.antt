-- Demand 2's message at the shore: cut by us, by calls of `cut`, and received on an open, idle channel.
use Rattle.std.specs.Prelude.{ℕ, ◌-◌, ◌≡◌, true, false, cond, List, [], ◌∷◌, map, ltb, length}
use Rattle.reading.specs.Reading.{read_pdu}
use Rattle.channel.specs.declared.Record.{Record}
use Rattle.channel.specs.declared.Stage.TheVariants.{Idle}
use Rattle.channel.specs.Channel.{Open, rebuilt}
use Rattle.connection.specs.States.{view}
use Rattle.shore.specs.declared.Said.TheVariants.{Held, Message}
use Rattle.shore.specs.Events.{Event, event_of}
use Rattle.shore.specs.Shore.{Standing, state_in}
use Rattle.demands.specs.Cut.{Cut}
use Rattle.shore_demands.specs.Runs.{Call, Told, told_to, ends}

-- the events of what is cut, received in the order of its blocks
abbrev pub cut_events : List Cut → List Event
cut_events cs = map (λ (c : Cut). event_of c.pdu (read_pdu false c.pdu)) cs

-- what is told for each: held with the count still to come, and at the last the message, once
unfoldable pub told_for : ℕ → List ℕ → Cut → Told
told_for n m c =
    cond (ltb c.next (length m)) (record { said = Held n (length m - c.next); sent = []; message = [] })
    (record { said = Message n (length m); sent = []; message = m ∷ [] })

-- the channel is told that and nothing else, and is idle again with one message more in its count
pub record HandedUpOnce (n : ℕ) (m : List ℕ) (cs : List Cut) (r : Record) (st : Standing) (xs : List Call) : Type 0 where
  pub is_told : told_to n st xs ≡ map (told_for n m) cs
  pub part : List ℕ
  pub idle_again : view n (state_in (ends st xs)) ≡ Open (rebuilt r Idle true) part
