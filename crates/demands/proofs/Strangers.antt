-- Strangers' channels. A state that calls reach from Start is a state of a run once it is ready; one list makes the same events of the
-- same PDUs; and what a channel is told, and how it is left, are functions of its own events and their flags (proofs/Orders).
-- Assumes nothing.
use Rattle.std.specs.Prelude.{Option, None, Some}
use mathlib.Core.Path.{◌≡◌, refl, sym, ap, ◌∙◌}
use mathlib.Core.Bool.{Bool, true, false, not, cond}
use mathlib.Core.Logic.{⊎_elim}
use mathlib.Core.List.{List, [], ◌∷◌, map}
use Prim.Native.Nat.{ℕ, zero, suc, ◌≤◌, ◌<◌}
use native.Mathlib.Omega.{arith}
use borrow.Author.Tests.{eqb-true, eq-eqb, ltb-false, le-ltb, not-true}
use lib.Dec.{eqb, ltb}
use lib.ListN.{get_or}
use Rattle.paper.specs.Sizes.{PARTS}
use Rattle.paper.specs.declared.Refusal.{Refusal}
use Rattle.lists.proofs.Cases.{true_not_false, both, lt_or_le}
use Rattle.reading.specs.Reading.{read_pdu}
use Rattle.reading.specs.Said.{bytes_at}
use Rattle.reading.specs.Garbled.{carries}
use Rattle.reading.specs.declared.Pdu.{Pdu}
use Rattle.reading.specs.declared.Pdu.TheVariants.{CreateRequest, CreateResponse, DataFirst, Data, Close, CapsRequest}
use Rattle.reading.specs.declared.Pdu.TheVariants.{CapsResponse, Refused}
use Rattle.channel.specs.declared.Record.{Record}
use Rattle.channel.specs.declared.Offer.TheVariants.{First, More}
use Rattle.channel.specs.Channel.{blank, Act, BadCreate, Create, Bring, Garbled, Closing, LocalClose, View, Shut, Open}
use Rattle.table.specs.Table.{is_free, number_place, free_place, record_at}
use Rattle.table.proofs.Records.{free_at}
use Rattle.lists.specs.Places.{here_or, place}
use Rattle.connection.specs.States.{State, view}
use Rattle.listeners.specs.Listeners.{good_list, is_listed}
use Rattle.client.specs.Events.{Event, Of, create_act, unread, event_of, is_of}
use Rattle.connection.proofs.Views.{view_shut}
use Rattle.connection.proofs.Frame.{shut_past}
use Rattle.steps.specs.Rows.{is_open}
use Rattle.steps.specs.States.{Sane, Calm}
use Rattle.steps.proofs.Garbled.{whole_is_own}
use Rattle.demands.specs.Trace.{cons_if, keep}
use Rattle.demands.specs.Runs.{Entry, receives, closes, Call, gives, leaves, after, Told, ends, event_in, is_event_of}
use Rattle.demands.specs.Runs.{own_events, full_table, asks_room, event_meets_full, meets_full, Running}
use Rattle.demands.specs.Strangers.{Reached, by_start, by_receive, by_local_close, Lends, WithList, Happening}
use Rattle.demands.specs.Strangers.{pdu_received, closed_locally, happening, own_happenings, OwnEvent, a_create_request}
use Rattle.demands.specs.Strangers.{a_data_first, a_data, a_close, its_number_whole, a_local_close, MeetsFullTable}
use Rattle.demands.specs.Strangers.{a_listed_create, TwoRuns, FullInBothOrNeither, record_of, part_of, SameInBoth}
use Rattle.demands.proofs.Machine.{read_call}
use Rattle.demands.proofs.Orders.{calm_call, calm_started, strangers_told, strangers_left}

-- ---- a state that calls reach

reached_calm : (st : State) → Reached st → Calm st
unfolding after gives
reached_calm st (by_start store size) = calm_started store size
reached_calm st (by_receive {st = before} r list pdu reply enough) =
    calm_call before (reached_calm before r) (record { asked = receives list pdu; reply = reply; enough = enough })
reached_calm st (by_local_close {st = before} r n reply enough) =
    calm_call before (reached_calm before r) (record { asked = closes n; reply = reply; enough = enough })

pub reached_runs : (st : State) → Reached st → st.table.ready ≡ true → Running st.table.level st
reached_runs st r ready = record { calm = reached_calm st r; ready = ready; level = refl }

-- ---- the same PDUs, with one list, are the same events

event_for : List ℕ → Happening → Event
event_for list (pdu_received pdu) = event_of list pdu (read_pdu true pdu)
event_for list (closed_locally n) = Of n LocalClose

lent_event : (list : List ℕ) (a : Entry) → Lends list a → event_in a ≡ event_for list (happening a)
unfolding event_in event_for
lent_event list (receives lent pdu) e = ap (λ (l : List ℕ). event_of l pdu (read_pdu true pdu)) e
lent_event list (closes n) e = refl

own_by : (list : List ℕ) (n : ℕ) (xs : List Call) → WithList list xs → own_events n xs ≡ map (event_for list) (own_happenings n xs)
unfolding own_events own_happenings
own_by list n [] h = refl
own_by list n (c ∷ xs) h = go (is_event_of n c) (own_by list n xs h.1)
  where
    go :
        (t : Bool) → map read_call (keep (is_event_of n) xs) ≡ map (event_for list) (map (λ (x : Call). happening x.asked) (keep (is_event_of n) xs))
        → map read_call (cons_if t c (keep (is_event_of n) xs)) ≡ map (event_for list) (map (λ (x : Call). happening x.asked) (cons_if t c (keep (is_event_of n) xs)))
    go true e = rw (lent_event list c.asked h.0, e)
    go false e = e

-- ---- the theorem

-- from any state of a run, whatever the lists
pub strangers :
    (l : ℕ) (st : State) → Running l st → (n : ℕ) (xs ys : List Call) → own_events n xs ≡ own_events n ys
    → FullInBothOrNeither n st xs ys → SameInBoth n st xs ys
strangers l st g n xs ys e f =
    let told = strangers_told l st g n xs ys e f in
    let left = strangers_left l st g n xs ys e f in
    record {
      answers = ap (map (λ (t : Told). t.answer)) told;
      replies = ap (map (λ (t : Told). t.reply)) told;
      messages = ap (map (λ (t : Told). t.message)) told;
      its_record = ap record_of left;
      stored_bytes = ap part_of left;
    }

pub same_in_both :
    (list : List ℕ) (n : ℕ) (st : State) (xs ys : List Call) → TwoRuns list n st xs ys → FullInBothOrNeither n st xs ys
    → SameInBoth n st xs ys
same_in_both list n st xs ys two f =
    let own = own_by list n xs two.same_list.0 ∙ ap (map (event_for list)) two.own_events_same ∙ sym (own_by list n ys two.same_list.1) in
    strangers st.table.level st (reached_runs st two.reached two.ready) n xs ys own f

-- ---- whose event a call is, by the PDU's own words

unread_own : (n : ℕ) (pdu : List ℕ) (why : Refusal) (c : Option ℕ) → carries pdu ≡ c → is_of n (unread why c) ≡ true → OwnEvent n (pdu_received pdu)
unfolding unread
unread_own n pdu why None e h = absurd (true_not_false (sym h))
unread_own n pdu why (Some m) e h = its_number_whole (e ∙ ap Some (eqb-true m n h))

read_own : (n : ℕ) (list pdu : List ℕ) (p : Pdu) → read_pdu true pdu ≡ p → is_of n (event_of list pdu p) ≡ true → OwnEvent n (pdu_received pdu)
unfolding event_of
read_own n list pdu (CreateRequest m class name) e h = a_create_request class name (e ∙ ap (λ (k : ℕ). CreateRequest k class name) (eqb-true m n h))
read_own n list pdu (CreateResponse m status) e h = absurd (true_not_false (sym h))
read_own n list pdu (DataFirst m len block) e h = a_data_first len block (e ∙ ap (λ (k : ℕ). DataFirst k len block) (eqb-true m n h))
read_own n list pdu (Data m block) e h = a_data block (e ∙ ap (λ (k : ℕ). Data k block) (eqb-true m n h))
read_own n list pdu (Close m) e h = a_close (e ∙ ap Close (eqb-true m n h))
read_own n list pdu (CapsRequest version charges) e h = absurd (true_not_false (sym h))
read_own n list pdu (CapsResponse version) e h = absurd (true_not_false (sym h))
read_own n list pdu (Refused why) e h = unread_own n pdu why (carries pdu) refl h

only_these : (n : ℕ) (a : Entry) → is_of n (event_in a) ≡ true → OwnEvent n (happening a)
unfolding event_in
only_these n (receives list pdu) h = read_own n list pdu (read_pdu true pdu) refl h
only_these n (closes m) h = let same : m ≡ n = eqb-true m n h in rw same a_local_close

own_is : (n : ℕ) → eqb n n ≡ true
own_is n = eq-eqb n n refl

received_own : (n : ℕ) (list pdu : List ℕ) → OwnEvent n (pdu_received pdu) → is_of n (event_of list pdu (read_pdu true pdu)) ≡ true
unfolding event_of
received_own n list pdu (a_create_request class name e) = rw e (own_is n)
received_own n list pdu (a_data_first len block e) = rw e (own_is n)
received_own n list pdu (a_data block e) = rw e (own_is n)
received_own n list pdu (a_close e) = rw e (own_is n)
received_own n list pdu (its_number_whole e) = whole_is_own list pdu n e

closed_own : (n m : ℕ) → OwnEvent n (closed_locally m) → eqb m n ≡ true
closed_own n m a_local_close = own_is n

all_these : (n : ℕ) (a : Entry) → OwnEvent n (happening a) → is_of n (event_in a) ≡ true
unfolding event_in
all_these n (receives list pdu) o = received_own n list pdu o
all_these n (closes m) o = closed_own n m o

-- ---- when a call meets a full table, by the records

-- what stands before the first that is free is taken
before_free : (rs : List Record) (k : ℕ) → k < place is_free rs → (get_or rs k blank).taken ≡ true
unfolding place is_free
before_free [] k l = absurd (omega arith)
before_free (r ∷ rs) k l = go r.taken refl (before_free rs) k l
  where
    go :
        (t : Bool) → r.taken ≡ t → ((i : ℕ) → i < place is_free rs → (get_or rs i blank).taken ≡ true)
        → (i : ℕ) → i < here_or (not t) (place is_free rs) → (get_or (r ∷ rs) i blank).taken ≡ true
    go true e later zero m = e
    go true e later (suc i) m = later i (omega arith)
    go false e later i m = absurd (omega arith)

module _ (st : State) (s : Sane st) where
  full_taken : full_table st ≡ true → (k : ℕ) → k < PARTS → (record_at st.table k).taken ≡ true
  unfolding full_table free_place record_at
  full_taken f k l =
      let none : PARTS ≤ place is_free st.table.records = ltb-false (place is_free st.table.records) PARTS (not-true (ltb (place is_free st.table.records) PARTS) f) in
      before_free st.table.records k (omega arith)

  taken_full : ((k : ℕ) → k < PARTS → (record_at st.table k).taken ≡ true) → full_table st ≡ true
  unfolding full_table
  taken_full all = ⊎_elim some none (lt_or_le (free_place st.table) PARTS)
    where
      some : free_place st.table < PARTS → not (ltb (free_place st.table) PARTS) ≡ true
      some l = absurd (true_not_false (sym (all (free_place st.table) l) ∙ free_at st.table (rw s.rows l)))

      none : PARTS ≤ free_place st.table → not (ltb (free_place st.table) PARTS) ≡ true
      none l = rw (le-ltb (free_place st.table) PARTS l)

-- a Create asks for room exactly where the list is good and has its name, and its number is not open
asks_says :
    (v : View) (list name : List ℕ) (pri : ℕ) → asks_room v (create_act list name pri) ≡ true
    → (v ≡ Shut) × ((good_list list ≡ true) × (is_listed list name ≡ true))
unfolding asks_room create_act
asks_says (Open r b) list name pri h = absurd (true_not_false (sym h))
asks_says Shut list name pri h = (refl, go (good_list list) refl h)
  where
    go :
        (t : Bool) → good_list list ≡ t → asks_room Shut (cond t (Create (is_listed list name) pri) BadCreate) ≡ true
        → (good_list list ≡ true) × (is_listed list name ≡ true)
    go true e q = (e, q)
    go false e q = absurd (true_not_false (sym q))

says_asks :
    (list name : List ℕ) (pri : ℕ) → good_list list ≡ true → is_listed list name ≡ true
    → asks_room Shut (create_act list name pri) ≡ true
unfolding asks_room create_act
says_asks list name pri good listed = rw (good, listed)

-- and nothing else does
abbrev is_create : Act → Bool
is_create BadCreate = false
is_create (Create listed pri) = true
is_create (Bring offer block) = false
is_create (Garbled why) = false
is_create Closing = false
is_create LocalClose = false

asks_create : (v : View) (a : Act) → is_create a ≡ false → asks_room v a ≡ true → ⊥
unfolding asks_room
asks_create (Open r b) a c h = true_not_false (sym h)
asks_create Shut BadCreate c h = true_not_false (sym h)
asks_create Shut (Create listed pri) c h = true_not_false c
asks_create Shut (Bring offer block) c h = true_not_false (sym h)
asks_create Shut (Garbled why) c h = true_not_false (sym h)
asks_create Shut Closing c h = true_not_false (sym h)
asks_create Shut LocalClose c h = true_not_false (sym h)

not_asked : {A : Type 0} (st : State) (n : ℕ) (a : Act) → is_create a ≡ false → event_meets_full st (Of n a) ≡ true → A
unfolding event_meets_full
not_asked st n a c h = absurd (asks_create (view n st) a c (both (asks_room (view n st) a) (full_table st) h).0)

unread_asks : {A : Type 0} (st : State) (why : Refusal) (c : Option ℕ) → event_meets_full st (unread why c) ≡ true → A
unfolding unread event_meets_full
unread_asks st why None h = absurd (true_not_false (sym h))
unread_asks st why (Some m) h = not_asked st m (Garbled why) refl h

module _ (st : State) (s : Sane st) where
  read_full :
      (list pdu : List ℕ) (p : Pdu) → read_pdu true pdu ≡ p → event_meets_full st (event_of list pdu p) ≡ true
      → MeetsFullTable st.table (receives list pdu)
  unfolding event_of event_meets_full is_open
  read_full list pdu (CreateRequest n class name) e h =
      let b = both (asks_room (view n st) (create_act list (bytes_at pdu name) class)) (full_table st) h in
      let a = asks_says (view n st) list (bytes_at pdu name) class b.0 in
      let shut = le-ltb (number_place n st.table) PARTS (shut_past n st a.0) in
      a_listed_create n class name e a.1.0 a.1.1 shut (full_taken st s b.1)
  read_full list pdu (CreateResponse n status) e h = absurd (true_not_false (sym h))
  read_full list pdu (DataFirst n len block) e h = not_asked st n (Bring (First len) (bytes_at pdu block)) refl h
  read_full list pdu (Data n block) e h = not_asked st n (Bring More (bytes_at pdu block)) refl h
  read_full list pdu (Close n) e h = not_asked st n Closing refl h
  read_full list pdu (CapsRequest version charges) e h = absurd (true_not_false (sym h))
  read_full list pdu (CapsResponse version) e h = absurd (true_not_false (sym h))
  read_full list pdu (Refused why) e h = unread_asks st why (carries pdu) h

  full_only : (a : Entry) → event_meets_full st (event_in a) ≡ true → MeetsFullTable st.table a
  unfolding event_in
  full_only (receives list pdu) h = read_full list pdu (read_pdu true pdu) refl h
  full_only (closes n) h = not_asked st n LocalClose refl h

  full_all : (a : Entry) → MeetsFullTable st.table a → event_meets_full st (event_in a) ≡ true
  unfolding event_in event_of event_meets_full is_open
  full_all a (a_listed_create {list = list} {pdu = pdu} n class name e good listed shut taken) =
      let v = view_shut n st (number_place n st.table) refl (ltb-false (number_place n st.table) PARTS shut) in
      rw (e, v, says_asks list (bytes_at pdu name) class good listed, taken_full st s taken)

-- ---- as the calls say it

pub only_own : (n : ℕ) (c : Call) → is_event_of n c ≡ true → OwnEvent n (happening c.asked)
unfolding is_event_of
only_own n c h = only_these n c.asked h

pub all_own : (n : ℕ) (c : Call) → OwnEvent n (happening c.asked) → is_event_of n c ≡ true
unfolding is_event_of
all_own n c o = all_these n c.asked o

pub only_full : (st : State) → Reached st → (c : Call) → meets_full st c ≡ true → MeetsFullTable st.table c.asked
unfolding meets_full
only_full st r c h = full_only st (reached_calm st r).sane c.asked h

pub all_full : (st : State) → Reached st → (c : Call) → MeetsFullTable st.table c.asked → meets_full st c ≡ true
unfolding meets_full
all_full st r c m = full_all st (reached_calm st r).sane c.asked m

reached_call : (st : State) → Reached st → (c : Call) → Reached (after st c)
unfolding after gives
reached_call st r c = go c.asked
  where
    go : (a : Entry) → Reached (leaves (gives st a c.reply))
    go (receives list pdu) = by_receive r list pdu c.reply c.enough
    go (closes n) = by_local_close r n c.reply c.enough

pub still_reached : (st : State) → Reached st → (xs : List Call) → Reached (ends st xs)
unfolding ends
still_reached st r [] = r
still_reached st r (c ∷ xs) = still_reached (after st c) (reached_call st r c) xs
