-- Demand 3, sentence by sentence; and nothing twice, the fault that this product exists for.
use Rattle.std.specs.Prelude.{ℕ, ◌≡◌, Bool, true, List, ◌∷◌, ◌++◌, length}
use Rattle.paper.specs.Sizes.{STORE}
use Rattle.channel.specs.Channel.{Act, Shut}
use Rattle.connection.specs.States.{State, view}
use Rattle.client.specs.Events.{Of, close_act}
use Rattle.client.specs.Client.{stepped}
use Rattle.demands.specs.Runs.{Call, after, ends, event_in, is_event_of, event_meets_full}
use Rattle.demands.specs.Runs.{JustReady, Running}
use Rattle.demands.specs.Orders.{TwoOrders, NeverFull, SameEitherWay, SameButPlaces}
use Rattle.demands.specs.Twice.{Anew, ToldAlone, NoTrace}
use Rattle.demands.specs.Managers.{ours, Demand3Of}
use Rattle.demands.specs.Useless.{is_full}

-- "Take a connection just made ready, with one listener list and one store throughout, and proper buffers at each
-- call."
pub record AConnectionJustMadeReady : Type 0 where
  -- there is one
  pub state : State
  pub is_ready : JustReady state
  -- and every state of a run from one is ready, sound, and has what is free as Start made it
  pub runs_on : (st : State) → JustReady st → (xs : List Call) → Running (ends st xs).table.level (ends st xs)

-- "Take two orders of the same received PDUs and local closes that keep each channel's own events in order, and
-- suppose that neither order meets a full table." What that supposes
pub record TwoOrdersMeanThis : Type 0 where
  -- exchanging two neighbours that are not both events of one channel is such a reordering
  pub an_exchange :
      (zs ws : List Call) (x y : Call) → ((n : ℕ) → is_event_of n x ≡ true → is_event_of n y ≡ true → ⊥)
      → TwoOrders (zs ++ (x ∷ y ∷ ws)) (zs ++ (y ∷ x ∷ ws))
  -- an event meets a full table exactly when its answer is declined, full
  pub full_is_the_answer_full :
      (l : ℕ) (st : State) → Running l st → (n : ℕ) (a : Act)
      → is_full (stepped st (Of n a)).answer ≡ event_meets_full st (Of n a)

-- "Then each channel gets the same answers and replies, and its messages are exactly those that demand 2 gives for
-- its own events alone, each once. At the end each open channel has the same record and the same stored bytes. Only
-- where in the store a channel stands may differ."
pub record EitherOrderIsTheSame : Type 0 where
  pub each_channel :
      (st : State) → JustReady st → (xs ys : List Call) → TwoOrders xs ys → NeverFull st xs → NeverFull st ys
      → (n : ℕ) → SameEitherWay st xs ys n
  pub at_the_end :
      (st : State) → JustReady st → (xs ys : List Call) → TwoOrders xs ys → NeverFull st xs → NeverFull st ys
      → SameButPlaces (ends st xs) (ends st ys)
  -- as a property of any manager: ours has it, from every Start on
  pub of_ours : (store : List ℕ) → length store ≡ STORE → Demand3Of (ours store)

-- Nothing twice. From any run of a connection once ready, then a close of the channel (either kind) or a new Start
-- on the used store with a new Capabilities request, then any further run: what the channel is told from there on
-- is what its own events since then give, and nothing from before. Of the others only whether its own Creates met a
-- full table enters.
pub record NothingTwice : Type 0 where
  pub told_alone_law :
      (st : State) → JustReady st → (before : List Call) (n : ℕ) (anew : State) → Anew n (ends st before) anew
      → (xs : List Call) → ToldAlone n anew xs
  -- two histories leave no trace
  pub no_trace : (n : ℕ) → NoTrace n
  -- a close shuts the channel, whatever it held
  pub a_close_shuts :
      (l : ℕ) (st : State) → Running l st → (c : Call) (n : ℕ) (local : Bool)
      → event_in c.asked ≡ Of n (close_act local) → view n (after st c) ≡ Shut
