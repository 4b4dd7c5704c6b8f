-- Garbled blocks: which PDUs they are, whose events, and what they do.
-- Assumes nothing.
use Rattle.std.specs.Prelude.{None, Option, Some}
use mathlib.Core.Path.{◌≡◌, refl, sym, ap, ◌∙◌}
use mathlib.Core.Bool.{Bool, true, false}
use mathlib.Core.List.{List}
use Prim.Native.Nat.{ℕ}
use native.Mathlib.Omega.{arith}
use borrow.Author.Tests.{eq-eqb}
use Rattle.paper.specs.declared.Refusal.{Refusal}
use Rattle.lists.proofs.Cases.{choice, true_not_false}
use Rattle.reading.specs.Reading.{read_pdu}
use Rattle.reading.specs.Said.{bytes_at}
use Rattle.reading.specs.Garbled.{carries}
use Rattle.reading.specs.declared.Pdu.{Pdu}
use Rattle.reading.specs.declared.Pdu.TheVariants.{CreateRequest, CreateResponse, DataFirst, Data, Close, CapsRequest, CapsResponse, Refused as NotRead}
use Rattle.reading.proofs.Garbled.{BlockOf, carried_is_read}
use Rattle.listeners.specs.Listeners.{good_list}
use Rattle.channel.specs.declared.Stage.TheVariants.{Spoiled}
use Rattle.channel.specs.declared.Record.{Record}
use Rattle.channel.specs.declared.Answer.TheVariants.{Refused}
use Rattle.channel.specs.Channel.{Act, BadCreate, Create, Bring, Garbled, Closing, LocalClose, View, Shut, Open, Room, restaged, act}
use Rattle.deciding.specs.Deciding.{too_soon}
use Rattle.connection.specs.States.{State, view, room_in, save, Steady}
use Rattle.connection.proofs.Views.{save_own}
use Rattle.client.specs.Events.{Event, Unreadable, Capabilities, Of, create_act, unread, event_of, is_of}
use Rattle.client.specs.Client.{refused, stepped}
use Rattle.client.proofs.Steps.{too_early, garbled_shut}
use Rattle.steps.proofs.Channels.{step_own, step_answer, step_state}

-- ---- which PDUs

abbrev asks_garbled : Act → Bool
asks_garbled BadCreate = false
asks_garbled (Create listed pri) = false
asks_garbled (Bring offer bytes) = false
asks_garbled (Garbled why) = true
asks_garbled Closing = false
asks_garbled LocalClose = false

abbrev is_garbled : Event → Bool
is_garbled (Unreadable why) = false
is_garbled (Capabilities version) = false
is_garbled (Of n a) = asks_garbled a

-- what reading accepts is no garbled block
not_garbled : {A : Type 0} (e : Event) (n : ℕ) (why : Refusal) → is_garbled e ≡ false → e ≡ Of n (Garbled why) → A
not_garbled e n why f h = absurd (true_not_false (sym (ap is_garbled h) ∙ f))

create_plain : (n : ℕ) (list name : List ℕ) (pri : ℕ) → is_garbled (Of n (create_act list name pri)) ≡ false
unfolding create_act
create_plain n list name pri = choice (λ (a : Act). asks_garbled a ≡ false) (good_list list) (λ e. refl) (λ e. refl)

module _ (list pdu : List ℕ) (n : ℕ) (why : Refusal) where
  unread_only : (x : Refusal) (carried : Option ℕ) → unread x carried ≡ Of n (Garbled why) → (x ≡ why) × (carried ≡ Some n)
  unfolding unread
  unread_only x None h = not_garbled (Unreadable x) n why refl h
  unread_only x (Some m) h = (cc, ap Some cc)

  garbled_only :
      (p : Pdu) → event_of list pdu p ≡ Of n (Garbled why) → (p ≡ NotRead why) × (carries pdu ≡ Some n)
  unfolding event_of
  garbled_only (CreateRequest m class name) h = not_garbled _ n why (create_plain m list (bytes_at pdu name) class) h
  garbled_only (CreateResponse m status) h = not_garbled _ n why refl h
  garbled_only (DataFirst m len block) h = not_garbled _ n why refl h
  garbled_only (Data m block) h = not_garbled _ n why refl h
  garbled_only (Close m) h = not_garbled _ n why refl h
  garbled_only (CapsRequest version charges) h = not_garbled _ n why refl h
  garbled_only (CapsResponse version) h = not_garbled _ n why refl h
  garbled_only (NotRead x) h = let u = unread_only x (carries pdu) h in (ap NotRead u.0, u.1)

  -- an event is garbled only where reading refuses the PDU, with that refusal, and its number stands in it whole
  pub only_garbled : event_of list pdu (read_pdu true pdu) ≡ Of n (Garbled why) → (read_pdu true pdu ≡ NotRead why) × (carries pdu ≡ Some n)
  only_garbled h = garbled_only (read_pdu true pdu) h

  -- and always there
  pub every_garbled : read_pdu true pdu ≡ NotRead why → carries pdu ≡ Some n → event_of list pdu (read_pdu true pdu) ≡ Of n (Garbled why)
  unfolding event_of unread
  every_garbled r c = rw (r, c)

-- ---- whose events: "any PDU of these commands with its number whole is an event of that channel"

unread_own : (n : ℕ) (why : Refusal) (carried : Option ℕ) → carried ≡ Some n → is_of n (unread why carried) ≡ true
unfolding unread
unread_own n why None h = let z : ◌≡◌ {A = ℕ} 0 1 = cc in absurd (omega arith)
unread_own n why (Some m) h = eq-eqb m n cc

own_block : (list pdu : List ℕ) (n : ℕ) → carries pdu ≡ Some n → (p : Pdu) → BlockOf n p → is_of n (event_of list pdu p) ≡ true
unfolding event_of
own_block list pdu n h (CreateRequest m class name) b = absurd b
own_block list pdu n h (CreateResponse m status) b = absurd b
own_block list pdu n h (DataFirst m len block) b = eq-eqb m n b
own_block list pdu n h (Data m block) b = eq-eqb m n b
own_block list pdu n h (Close m) b = absurd b
own_block list pdu n h (CapsRequest version charges) b = absurd b
own_block list pdu n h (CapsResponse version) b = absurd b
own_block list pdu n h (NotRead why) b = unread_own n why (carries pdu) h

pub whole_is_own : (list pdu : List ℕ) (n : ℕ) → carries pdu ≡ Some n → is_of n (event_of list pdu (read_pdu true pdu)) ≡ true
whole_is_own list pdu n h = own_block list pdu n h (read_pdu true pdu) (carried_is_read true pdu n h)

-- ---- what they do

module _ (n : ℕ) (why : Refusal) where
  rule_answer : (level : ℕ) (room : Room) (v : View) → (act level n room v (Garbled why)).answer ≡ Refused why None
  unfolding act
  rule_answer level room Shut = refl
  rule_answer level room (Open r b) = refl

  rule_open : (level : ℕ) (room : Room) (r : Record) (b : List ℕ) → (act level n room (Open r b) (Garbled why)).view ≡ Open (restaged r Spoiled) b
  unfolding act
  rule_open level room r b = refl

  -- not ready: the refusal of reading, and nothing else
  pub garbled_early : (st : State) → st.table.ready ≡ false → stepped st (Of n (Garbled why)) ≡ refused st why
  unfolding too_soon
  garbled_early st e = too_early st n (Garbled why) e

  -- ready, and not open
  pub garbled_unopened : (st : State) → Steady st → view n st ≡ Shut → stepped st (Of n (Garbled why)) ≡ refused st why
  garbled_unopened st g v = garbled_shut st n why g.ready v

  -- ready, and open: it is spoiled, and the answer is the refusal of reading
  pub garbled_answer : (st : State) → Steady st → (stepped st (Of n (Garbled why))).answer ≡ Refused why None
  garbled_answer st g = step_answer st g n (Garbled why) ∙ rule_answer st.table.level (room_in st) (view n st)

  seen_open : (st : State) (r : Record) (b : List ℕ) → view n st ≡ Open r b → (act st.table.level n (room_in st) (view n st) (Garbled why)).view ≡ Open (restaged r Spoiled) b
  seen_open st r b v = ap (λ (w : View). (act st.table.level n (room_in st) w (Garbled why)).view) v ∙ rule_open st.table.level (room_in st) r b

  pub garbled_spoils :
      (st : State) → Steady st → (r : Record) (b : List ℕ) → view n st ≡ Open r b
      → view n (stepped st (Of n (Garbled why))).state ≡ Open (restaged r Spoiled) b
  garbled_spoils st g r b v = step_own st g n (Garbled why) tt ∙ seen_open st r b v

  -- spoiled already: nothing changes
  same_stage : (r : Record) → r.stage ≡ Spoiled → restaged r Spoiled ≡ r
  unfolding restaged
  same_stage r e = rw (← e)

  pub garbled_again :
      (st : State) → Steady st → (r : Record) (b : List ℕ) → view n st ≡ Open r b → r.stage ≡ Spoiled
      → (stepped st (Of n (Garbled why))).state ≡ st
  garbled_again st g r b v e =
      step_state st g n (Garbled why)
      ∙ ap (save n st (view n st)) (seen_open st r b v ∙ ap (λ (x : Record). Open x b) (same_stage r e) ∙ sym v)
      ∙ save_own n st g.bytes
