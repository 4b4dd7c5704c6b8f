-- Nothing twice: the fault that this product exists for. A close shuts the channel, and a Start all of them; from there on a channel is
-- told what its own events give, alone. An opening finds the channel as one never used.
-- Assumes nothing.
use mathlib.Core.Path.{◌≡◌, refl, sym, ap, ◌∙◌}
use mathlib.Core.Bool.{Bool, true, false}
use mathlib.Core.List.{List, map}
use Prim.Native.Nat.{ℕ}
use Rattle.paper.specs.Sizes.{PART}
use Rattle.lists.specs.Bytes.{zeros}
use Rattle.channel.specs.Channel.{Create, View, Shut, Open, Room, Did, opened_record, opening, act}
use Rattle.connection.specs.States.{State, view, room_in, FineAct}
use Rattle.client.specs.Events.{Event, Of, close_act}
use Rattle.client.specs.Client.{stepped}
use Rattle.steps.proofs.Channels.{step_own}
use Rattle.demands.specs.Runs.{Call, after, ends, event_in, own_events, event_meets_full, full_flags, JustReady, Running}
use Rattle.demands.specs.Joining.{Off, brought}
use Rattle.demands.specs.Twice.{Anew, closed, restarted, ToldAlone, NoTrace}
use Rattle.demands.proofs.Machine.{steady, room_flag, call_state, running_call, ruled_flag}
use Rattle.demands.proofs.Joined.{join_of}
use Rattle.demands.proofs.Telling.{with_brings}
use Rattle.demands.proofs.Orders.{fresh, runs_on, told_shut, same_told}

fine_close : (local : Bool) → FineAct (close_act local)
fine_close true = tt
fine_close false = tt

shuts : (level n : ℕ) (room : Room) (v : View) (local : Bool) → (act level n room v (close_act local)).view ≡ Shut
unfolding act
shuts level n room Shut true = refl
shuts level n room Shut false = refl
shuts level n room (Open r b) true = refl
shuts level n room (Open r b) false = refl

-- a close, by the server or by the host, leaves the channel shut, whatever it held
pub closed_shut :
    (l : ℕ) (st : State) → Running l st → (c : Call) (n : ℕ) (local : Bool) → event_in c.asked ≡ Of n (close_act local)
    → view n (after st c) ≡ Shut
closed_shut l st g c n local e =
    ap (view n) (call_state st c g.calm.sane ∙ ap (λ (x : Event). (stepped st x).state) e)
    ∙ step_own st (steady l st g) n (close_act local) (fine_close local)
    ∙ shuts st.table.level n (room_in st) (view n st) local

-- an opening finds the channel as one never used: idle, with a part of zeros
opens_new : (l n pri : ℕ) → (act l n (room_flag false) Shut (Create true pri)).view ≡ Open (opened_record l n pri) (zeros PART)
unfolding act opening
opens_new l n pri = refl

pub opening_is_new :
    (l : ℕ) (st : State) → Running l st → (c : Call) (n pri : ℕ) → FineAct (Create true pri) → event_in c.asked ≡ Of n (Create true pri)
    → view n st ≡ Shut → event_meets_full st (Of n (Create true pri)) ≡ false
    → view n (after st c) ≡ Open (opened_record l n pri) (zeros PART)
opening_is_new l st g c n pri z e shut room =
    ap (view n) (call_state st c g.calm.sane ∙ ap (λ (x : Event). (stepped st x).state) e)
    ∙ step_own st (steady l st g) n (Create true pri) z
    ∙ ap (λ (d : Did). d.view) (ruled_flag l st g n (Create true pri))
    ∙ ap (λ (b : Bool). (act l n (room_flag b) (view n st) (Create true pri)).view) room
    ∙ ap (λ (v : View). (act l n (room_flag false) v (Create true pri)).view) shut
    ∙ opens_new l n pri

-- ---- from there on

-- a channel that begins anew is not open
record Begins (n : ℕ) (st : State) : Type 0 where
  pub level : ℕ
  pub running : Running level st
  pub shut : view n st ≡ Shut

begins : (st : State) → JustReady st → (before : List Call) (n : ℕ) (anew : State) → Anew n (ends st before) anew → Begins n anew
begins st j before n anew (closed c local e) =
    let l = (fresh st j).level in
    let g = runs_on st j before in
    record { level = l; running = running_call l (ends st before) c g; shut = closed_shut l (ends st before) g c n local e }
begins st j before n anew (restarted k s) = let b = fresh anew k in record { level = b.level; running = b.running; shut = b.shut n }

pub nothing_twice :
    (st : State) → JustReady st → (before : List Call) (n : ℕ) (anew : State) → Anew n (ends st before) anew → (xs : List Call)
    → ToldAlone n anew xs
nothing_twice st j before n anew a xs =
    let b = begins st j before n anew a in
    let told = told_shut b.level anew b.running n xs b.shut in
    record { is_told = told; brings = ap (map brought) told ∙ with_brings Off (own_events n xs) (full_flags n anew xs) }

-- whatever was before, and wherever: two histories leave no trace
pub no_trace : (n : ℕ) → NoTrace n
no_trace n st j before anew a st' j' before' anew' a' xs ys e f =
    let b = begins st j before n anew a in
    let b' = begins st' j' before' n anew' a' in
    same_told b.level b'.level anew anew' b.running b'.running n xs ys e f (ap join_of b.shut ∙ sym (ap join_of b'.shut))
