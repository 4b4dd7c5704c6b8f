-- A call on bytes: refusal 1 in front of it leaves every byte, and behind it the step is given.
-- Assumes nothing.
use Rattle.std.specs.Prelude.{Result, Err, Ok, is_ok}
use Rattle.paper.specs.declared.Refusal.{Refusal}
use mathlib.Core.Path.{◌≡◌, refl, sym, ap, ◌∙◌}
use mathlib.Core.Bool.{Bool, true, false, not, cond, ◌&&◌, ◌||◌}
use mathlib.Core.List.{List, []}
use Prim.Native.Nat.{ℕ, ◌<◌}
use native.Mathlib.Nat.{mod-lt}
use native.Mathlib.Omega.{arith}
use borrow.Author.Tests.{eqb-true, eq-eqb, ne_eqb, not-false}
use lib.Dec.{eqb, ltb, lit<}
use lib.ListN.{length}
use Rattle.paper.specs.Sizes.{STORE, REPLY_MIN}
use Rattle.paper.specs.declared.Refusal.TheVariants.{BadCall}
use Rattle.lists.specs.Bytes.{laid}
use Rattle.lists.proofs.Cases.{both, neither, choice, and_false}
use Rattle.numbers.specs.Numbers.{Bytes}
use Rattle.channel.specs.declared.Record.{Record}
use Rattle.channel.specs.declared.Answer.{Answer}
use Rattle.channel.specs.Answers.{concern_of}
use Rattle.deciding.specs.declared.Matter.{Matter}
use Rattle.deciding.specs.declared.Matter.TheVariants.{Unread, Caps, Asks}
use Rattle.deciding.specs.declared.Decided.{Decided}
use Rattle.deciding.specs.Deciding.{level_for, refusing, readying, decided_of}
use Rattle.table.specs.declared.Table.{Table}
use Rattle.table.specs.Table.{empty_table}
use Rattle.table.specs.Sound.{sound_table}
use Rattle.connection.specs.States.{state_of, place_after}
use Rattle.reading.specs.Reading.{read_pdu}
use Rattle.client.specs.Events.{Event}
use Rattle.client.specs.Asking.{event_asked, heard_in, closing_of}
use Rattle.client.specs.declared.Received.{Received}
use Rattle.client.specs.Client as client
use Rattle.client.specs.Client.{Stepped, Whole, place_if, refused, stepped, bad_call, place_for, whole_of, called, received, locally_closed, started, store_started}
use Rattle.client.proofs.Asking.{event_asked_law, event_closing}
use Rattle.client.proofs.Calls.{refuses, passes}
use Rattle.saved.specs.Saved.{STATE, CLIENT, saved, table_in, asked_in, unasked, is_saved, is_state, is_good}
use Rattle.saved.proofs.Back.{told_saved}
use Rattle.packing.specs.Packing.{answer_place, packed_answer, packed_for}
use Rattle.packing.proofs.Own.{own, decided_own, decided_place}
use Rattle.client_face.specs.Face.{Faced, no_state, faced, dvc_received, dvc_closed, bad_face, Gives, faces, begins}

-- ---- bytes that are a state of the client

-- it has asked for nothing
pub unasked_state : (l : List ℕ) → is_state CLIENT false l ≡ true → asked_in l ≡ 0
unfolding is_state unasked
unasked_state l e =
    let asks = (both (is_saved CLIENT l) (unasked l) e).1 in
    eqb-true (asked_in l) 0 (both (eqb (asked_in l) 0) _ asks).0

-- its table's bytes are its own
pub state_own : (l : List ℕ) → Bytes l → is_state CLIENT false l ≡ true → saved CLIENT 0 (table_in l) ≡ l
unfolding is_state
state_own l h e = rw (unasked_state l e) at (told_saved CLIENT l h (both (is_saved CLIENT l) (unasked l) e).0)

pub good_state : (l : List ℕ) → is_good CLIENT false l ≡ true → (is_state CLIENT false l ≡ true) × (sound_table (table_in l) ≡ true)
unfolding is_good
good_state l e = both (is_state CLIENT false l) (sound_table (table_in l)) e

-- ---- refusal 1

-- of a state, the library's
pub bad_call_law : (l : List ℕ) (store reply : ℕ) → is_state CLIENT false l ≡ true → bad_face CLIENT false l store reply ≡ bad_call (table_in l) store reply
unfolding bad_face bad_call is_good
bad_call_law l store reply e = rw e

-- bytes that are none
no_state_law :
    (l store reply : List ℕ) (w : Whole) → is_state CLIENT false l ≡ false
    → faced l store reply w ≡ record { answer = no_state; state = l; store = store; reply = reply }
unfolding faced
no_state_law l store reply w e = rw e

-- a state, on which the library refuses with 1
state_refused :
    (l store reply : List ℕ) (w : Whole) → Bytes l → is_state CLIENT false l ≡ true
    → w ≡ whole_of reply (refused (state_of (table_in l) store) BadCall)
    → faced l store reply w ≡ record { answer = no_state; state = l; store = store; reply = reply }
unfolding faced whole_of place_for concern_of laid no_state
state_refused l store reply w h e r = rw (r, e, state_own l h e)

pub face_refuses :
    (l store reply : List ℕ) (event : Event) → Bytes l → bad_face CLIENT false l (length store) (length reply) ≡ true
    → faces l store event reply ≡ record { answer = no_state; state = l; store = store; reply = reply }
unfolding faces
face_refuses l store reply event h bad = go (is_state CLIENT false l) refl
  where
    go :
        (b : Bool) → is_state CLIENT false l ≡ b
        → faced l store reply (called (table_in l) store event reply) ≡ record { answer = no_state; state = l; store = store; reply = reply }
    go true e =
        state_refused l store reply (called (table_in l) store event reply) h e
        (refuses (table_in l) store reply (stepped (state_of (table_in l) store) event) (sym (bad_call_law l (length store) (length reply) e) ∙ bad))
    go false e = no_state_law l store reply (called (table_in l) store event reply) e

-- ---- and behind it

-- what isn't refused so
pub face_proper :
    (l : List ℕ) (store reply : ℕ) → bad_face CLIENT false l store reply ≡ false → (store ≡ STORE) × (is_good CLIENT false l ≡ true)
unfolding bad_face
face_proper l store reply e =
    let first = neither (not (eqb store STORE)) (ltb reply REPLY_MIN || not (is_good CLIENT false l)) e in
    let second = neither (ltb reply REPLY_MIN) (not (is_good CLIENT false l)) first.1 in
    (eqb-true store STORE (not-false (eqb store STORE) first.0), not-false (is_good CLIENT false l) second.1)

-- what a step gives, as the host finds it
unfoldable pub faced_of : List ℕ → Stepped → Faced
faced_of reply s =
    record {
      answer = packed_answer s.answer (place_for s.state.table (concern_of s.answer)) (length s.reply);
      state = saved CLIENT 0 s.state.table;
      store = s.state.store;
      reply = laid reply 0 s.reply;
    }

whole_faced :
    (l store reply : List ℕ) (w : Whole) (s : Stepped) → is_state CLIENT false l ≡ true → w ≡ whole_of reply s
    → faced l store reply w ≡ faced_of reply s
unfolding faced whole_of faced_of
whole_faced l store reply w s e r = rw (r, e)

pub face_passes :
    (l store reply : List ℕ) (event : Event) → bad_face CLIENT false l (length store) (length reply) ≡ false
    → faces l store event reply ≡ faced_of reply (stepped (state_of (table_in l) store) event)
unfolding faces
face_passes l store reply event bad =
    let good = (face_proper l (length store) (length reply) bad).1 in
    let e = (good_state l good).0 in
    let s = stepped (state_of (table_in l) store) event in
    whole_faced l store reply (called (table_in l) store event reply) s e
    (passes (table_in l) store reply s (sym (bad_call_law l (length store) (length reply) e) ∙ bad))

-- what gives the step gives the call
pub gives_face :
    (f : Faced) (s : Stepped) (reply : List ℕ) (r : ℕ) (stateAfter storeAfter replyAfter : List ℕ) → f ≡ faced_of reply s
    → Gives s reply r stateAfter storeAfter replyAfter
    → (r ≡ f.answer) × ((stateAfter ≡ f.state) × ((storeAfter ≡ f.store) × (replyAfter ≡ f.reply)))
unfolding faced_of
gives_face f s reply r stateAfter storeAfter replyAfter e g = rw e (g.result, (g.stated, (g.stored, g.replied)))

-- ---- a step

-- a place that is shown
pub shown :
    (a : Answer) (k j sent : ℕ) → answer_place a k ≡ answer_place a j → packed_answer a k sent ≡ packed_answer a j sent
unfolding packed_answer
shown a k j sent e = rw e

-- a level that a state tells
pub told_level : (l : List ℕ) → (table_in l).level < 256
unfolding table_in
told_level l = mod-lt _ {m = 256} (lit< tt)

level_most : (version : ℕ) → level_for version < 256
level_most version = omega arith

-- a level fits a byte, and so does the one that is decided on
pub level_small :
    (ready : Bool) (level n : ℕ) (room : Bool) (row : Record) (m : Matter) (len : ℕ) → level < 256
    → (decided_of ready level n room row m len).level < 256
unfolding decided_of refusing readying
level_small ready level n room row (Unread why whole) len h =
    choice (λ (d : Decided). d.level < 256) ((ready && whole) && row.taken) (λ e. h) (λ e. h)
level_small ready level n room row (Caps version) len h =
    choice (λ (d : Decided). d.level < 256) ready (λ e. h) (λ e. level_most version)
level_small ready level n room row (Asks ask) len h = choice (λ (d : Decided). d.level < 256) ready (λ e. h) (λ e. h)

-- what is decided, packed as the code packs it: with the number that was asked of and the place that was found
pub decided_packed :
    (ready : Bool) (level n : ℕ) (room : Bool) (row : Record) (m : Matter) (len : ℕ) (d : Decided) → d ≡ decided_of ready level n room row m len
    → (k sent : ℕ)
    → packed_for n d.turn.answer k sent
    ≡ packed_answer d.turn.answer (place_if (concern_of d.turn.answer) (place_after k row.taken d.turn.change)) sent
decided_packed ready level n room row m len d e k sent =
    let here = decided_of ready level n room row m len in
    rw e (
    own n here.turn.answer (decided_own ready level n room row m len) k sent
    ∙ shown here.turn.answer k (place_if (concern_of here.turn.answer) (place_after k row.taken here.turn.change)) sent
    (decided_place ready level n room row m len k)
    )

pub decided_level :
    (ready : Bool) (level n : ℕ) (room : Bool) (row : Record) (m : Matter) (len : ℕ) (d : Decided) → d ≡ decided_of ready level n room row m len
    → level < 256 → d.level < 256
decided_level ready level n room row m len d e h = rw e (level_small ready level n room row m len h)

-- what was packed and put back is what the step gives
pub gives_packed :
    (s : Stepped) (r : Received) (l reply storeAfter replyAfter : List ℕ) → client.Gives s reply r storeAfter replyAfter
    → (p : ℕ) → p ≡ packed_answer r.answer r.place r.sent → l ≡ saved CLIENT 0 r.table → Gives s reply p l storeAfter replyAfter
gives_packed s r l reply storeAfter replyAfter g p e f =
    record {
      result = e ∙ ap (λ (x : Received). packed_answer x.answer x.place x.sent) g.result;
      stated = f ∙ ap (λ (x : Received). saved CLIENT 0 x.table) g.result;
      stored = g.stored;
      replied = g.replied;
    }

-- ---- the two calls

pub receives_face :
    (l store list pdu reply : List ℕ) → dvc_received l store list pdu reply ≡ faces l store (event_asked (heard_in list pdu (read_pdu true pdu)) pdu) reply
unfolding dvc_received faces received
receives_face l store list pdu reply = rw (event_asked_law list pdu (read_pdu true pdu))

pub closes_face :
    (l store : List ℕ) (n : ℕ) (reply : List ℕ) → dvc_closed l store n reply ≡ faces l store (event_asked (closing_of n) []) reply
unfolding dvc_closed faces locally_closed
closes_face l store n reply = rw event_closing

-- a call is what its name says
pub face_is :
    (f g : Faced) (r : ℕ) (stateAfter storeAfter replyAfter : List ℕ) → f ≡ g
    → (r ≡ g.answer) × ((stateAfter ≡ g.state) × ((storeAfter ≡ g.store) × (replyAfter ≡ g.reply)))
    → (r ≡ f.answer) × ((stateAfter ≡ f.state) × ((storeAfter ≡ f.store) × (replyAfter ≡ f.reply)))
face_is f g r stateAfter storeAfter replyAfter e h = rw e h

-- ---- Start

begun_is : (store : List ℕ) → is_ok (started store).begun ≡ eqb (length store) STORE
unfolding started
begun_is store = go (eqb (length store) STORE)
  where
    go : (b : Bool) → is_ok {T = Unit {0}} {E = Refusal} (cond b (Ok tt) (Err BadCall)) ≡ b
    go true = refl
    go false = refl

pub begins_other : (mark : ℕ) (t : Table) (state store : List ℕ) → (length state ≡ STATE → ⊥) → begins mark t state store ≡ record { answer = 1; state = state; store = store }
unfolding begins
begins_other mark t state store h = rw (ne_eqb (length state) STATE h)

pub begins_refused :
    (mark : ℕ) (t : Table) (state store : List ℕ) (b : Result (Unit {0}) Refusal) → b ≡ (started store).begun → is_ok b ≡ false
    → begins mark t state store ≡ record { answer = 1; state = state; store = store }
unfolding begins
begins_refused mark t state store b e f =
    let not_its_size : eqb (length store) STORE ≡ false = sym (begun_is store) ∙ ap is_ok (sym e) ∙ f in
    rw (not_its_size, and_false (eqb (length state) STATE))

pub begins_done :
    (mark : ℕ) (t : Table) (state store : List ℕ) (b : Result (Unit {0}) Refusal) → length state ≡ STATE → b ≡ (started store).begun → is_ok b ≡ true
    → begins mark t state store ≡ record { answer = 0; state = saved mark 0 t; store = store_started store }
unfolding begins
begins_done mark t state store b h e f =
    let its_size : eqb (length store) STORE ≡ true = sym (begun_is store) ∙ ap is_ok (sym e) ∙ f in
    rw (its_size, eq-eqb (length state) STATE h)

pub store_left : (store : List ℕ) (b : Result (Unit {0}) Refusal) → b ≡ (started store).begun → is_ok b ≡ false → store_started store ≡ store
unfolding store_started
store_left store b e f =
    let not_its_size : eqb (length store) STORE ≡ false = sym (begun_is store) ∙ ap is_ok (sym e) ∙ f in
    rw not_its_size

pub started_empty : (store : List ℕ) → (started store).table ≡ empty_table
unfolding started
started_empty store = refl
