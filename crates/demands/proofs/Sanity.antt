-- That the suppositions of demand 3 mean what they should: exchanging two neighbours that are not both events of one channel makes
-- two orders, and an event meets a full table exactly if its answer says so.
-- Assumes nothing.
use mathlib.Core.Path.{◌≡◌, refl, ap, ◌∙◌}
use mathlib.Core.Bool.{Bool, true, false, ◌&&◌}
use mathlib.Core.List.{List, [], ◌∷◌, ◌++◌, map}
use Prim.Native.Nat.{ℕ}
use lib.ListN.{length}
use Rattle.channel.specs.declared.Record.{Record}
use Rattle.channel.specs.declared.Took.{Took}
use Rattle.channel.specs.declared.Took.TheVariants.{Bars, Spoils, Holds, Finishes}
use Rattle.channel.specs.Stages.{took}
use Rattle.channel.specs.Channel.{Act, BadCreate, Create, Bring, Garbled, Closing, LocalClose, View, Shut, Open, Did, opening, answer_to, landed, act}
use Rattle.connection.specs.States.{State, view}
use Rattle.client.specs.Events.{Of}
use Rattle.client.specs.Client.{stepped}
use Rattle.steps.proofs.Channels.{step_answer}
use Rattle.demands.specs.Trace.{cons_if, keep}
use Rattle.demands.specs.Runs.{Call, is_event_of, own_events, full_table, asks_room, event_meets_full, Running}
use Rattle.demands.specs.Orders.{TwoOrders}
use Rattle.demands.specs.Useless.{is_full}
use Rattle.demands.proofs.Machine.{steady, room_flag, read_call, ruled_flag}

-- ---- neighbours

pub swap :
    (zs ws : List Call) (x y : Call) → ((n : ℕ) → is_event_of n x ≡ true → is_event_of n y ≡ true → ⊥)
    → TwoOrders (zs ++ (x ∷ y ∷ ws)) (zs ++ (y ∷ x ∷ ws))
unfolding own_events
swap zs ws x y d n = ap (map read_call) (go zs)
  where
    here :
        (t : Bool) → is_event_of n x ≡ t → (u : Bool) → is_event_of n y ≡ u
        → cons_if t x (cons_if u y (keep (is_event_of n) ws)) ≡ cons_if u y (cons_if t x (keep (is_event_of n) ws))
    here true p true q = absurd (d n p q)
    here true p false q = refl
    here false p true q = refl
    here false p false q = refl

    go : (zs : List Call) → keep (is_event_of n) (zs ++ (x ∷ y ∷ ws)) ≡ keep (is_event_of n) (zs ++ (y ∷ x ∷ ws))
    go [] = here (is_event_of n x) refl (is_event_of n y) refl
    go (z ∷ zs) = ap (cons_if (is_event_of n z) z) (go zs)

-- ---- the answer declined, full

landed_full : (n : ℕ) (r : Record) (part bytes : List ℕ) (t : Took) → is_full (landed n r part bytes t).answer ≡ false
unfolding landed answer_to
landed_full n r part bytes (Bars why) = refl
landed_full n r part bytes (Spoils why) = refl
landed_full n r part bytes (Holds wanted at held) = refl
landed_full n r part bytes (Finishes at len) = refl

act_full :
    (l n : ℕ) (full : Bool) (v : View) (a : Act) → is_full (act l n (room_flag (asks_room v a && full)) v a).answer ≡ (asks_room v a && full)
unfolding act asks_room opening
act_full l n full Shut BadCreate = refl
act_full l n true Shut (Create true pri) = refl
act_full l n false Shut (Create true pri) = refl
act_full l n full Shut (Create false pri) = refl
act_full l n full Shut (Bring offer bytes) = refl
act_full l n full Shut (Garbled why) = refl
act_full l n full Shut Closing = refl
act_full l n full Shut LocalClose = refl
act_full l n full (Open r b) BadCreate = refl
act_full l n full (Open r b) (Create listed pri) = refl
act_full l n full (Open r b) (Bring offer bytes) = landed_full n r b bytes (took r.stage offer (length bytes))
act_full l n full (Open r b) (Garbled why) = refl
act_full l n full (Open r b) Closing = refl
act_full l n full (Open r b) LocalClose = refl

-- "meets a full table" is exactly the answer declined, full
pub meets_answer :
    (l : ℕ) (st : State) → Running l st → (n : ℕ) (a : Act) → is_full (stepped st (Of n a)).answer ≡ event_meets_full st (Of n a)
unfolding event_meets_full
meets_answer l st g n a =
    ap is_full (step_answer st (steady l st g) n a)
    ∙ ap (λ (d : Did). is_full d.answer) (ruled_flag l st g n a)
    ∙ act_full l n (full_table st) (view n st) a
