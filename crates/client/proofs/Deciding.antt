-- What was decided of what was found, put back, is the step.
-- Assumes nothing.
use Rattle.std.specs.Prelude.{None, Some}
use mathlib.Core.Path.{◌≡◌, refl, sym, ap, ◌∙◌}
use mathlib.Core.Bool.{Bool, true, false, ◌&&◌}
use mathlib.Core.List.{List}
use mathlib.Core.Logic.{⊎_elim}
use Prim.Native.Nat.{ℕ, ◌≤◌, ◌<◌}
use lib.Dec.{ltb}
use lib.ListN.{length}
use Rattle.paper.specs.Sizes.{PARTS, STORE}
use Rattle.paper.specs.declared.Refusal.{Refusal}
use Rattle.paper.specs.declared.Refusal.TheVariants.{WrongTime}
use Rattle.lists.specs.Bytes.{laid}
use Rattle.lists.proofs.Cases.{and_true, and_false, lt_or_le}
use Rattle.channel.specs.declared.Record.{Record}
use Rattle.channel.specs.declared.Ask.{Ask}
use Rattle.channel.specs.declared.Ask.TheVariants.{NoList, Name, Block, End}
use Rattle.channel.specs.declared.Turn.{Turn}
use Rattle.channel.specs.Answers.{concern_of}
use Rattle.channel.specs.Channel.{Garbled, View, Did}
use Rattle.channel.specs.Turns.{garbling, act_of, reply_told}
use Rattle.channel.proofs.Turns.{turn_says}
use Rattle.table.specs.declared.Table.{Table}
use Rattle.table.specs.declared.Found.{Found}
use Rattle.table.specs.Table.{number_place, record_at, home_place, home_in, put_back}
use Rattle.table.specs.Sound.{sound_table}
use Rattle.deciding.specs.declared.Matter.{Matter}
use Rattle.deciding.specs.declared.Matter.TheVariants.{Unread, Caps, Asks}
use Rattle.deciding.specs.declared.Decided.{Decided}
use Rattle.deciding.specs.Deciding.{too_soon, level_for, taking, refusing, readying, decided_of}
use Rattle.deciding.proofs.Times.{garbled, unread, late, first, early, in_time as on-time}
use Rattle.connection.specs.States.{State, state_of, view, kept, place_after}
use Rattle.connection.proofs.Views.{view_shut}
use Rattle.connection.proofs.Putting.{put_stays, past_blank, Does, taken, rules, turn_does, is_open_law, garbled_does}
use Rattle.connection.proofs.Places.{own_number, number_after}
use Rattle.client.specs.declared.Received.{Received}
use Rattle.client.specs.Events.{Capabilities, Of}
use Rattle.client.specs.Asking.{told}
use Rattle.client.specs.Client.{Stepped, refused, finished, readied, stepped, place_for, place_if, Gives}
use Rattle.client.proofs.Steps.{in_time, too_early, garbled_shut, too_late, made_ready}

-- what the rules did, put back
finished_does :
    (n : ℕ) (st next : State) (v : View) (d : Did) (t : Turn) → Does n st next t v d
    → finished n st v d ≡ record { state = next; answer = t.answer; reply = reply_told n t.reply }
unfolding finished
finished_does n st next v d t x = rw (x.state, x.answer, x.reply) refl

-- the tests of a garbled block: ready, whole, open
all_hold : (ready taken : Bool) → ready ≡ true → taken ≡ true → ((ready && true) && taken) ≡ true
all_hold ready taken e f = rw (e, f)

shut_fails : (ready taken : Bool) → taken ≡ false → ((ready && true) && taken) ≡ false
shut_fails ready taken e = rw (e, and_true ready, and_false ready)

early_fails : (ready taken : Bool) → ready ≡ false → ((ready && true) && taken) ≡ false
early_fails ready taken e = rw e

-- what is asked too early is refused with 7
asked_soon : (ask : Ask) (block : List ℕ) → too_soon (act_of ask block) ≡ WrongTime
unfolding too_soon act_of
asked_soon NoList block = refl
asked_soon (Name listed pri) block = refl
asked_soon (Block offer) block = refl
asked_soon (End true) block = refl
asked_soon (End false) block = refl

module _ (n : ℕ) (t : Table) (store : List ℕ) (long : length t.records ≡ PARTS) (h : length store ≡ STORE)
    (sound : sound_table t ≡ true) where
  abbrev home : ℕ
  home = home_place n t

  abbrev found : Record
  found = record_at t (number_place n t)

  -- what was decided, put back
  abbrev left : List ℕ → Decided → Stepped
  left block d =
      record {
        state = state_of (put_back t d.ready d.level home found d.turn.change) (kept store home d.turn.part block);
        answer = d.turn.answer;
        reply = reply_told n d.turn.reply;
      }

  abbrev decided : Matter → List ℕ → Decided
  decided matter block = decided_of t.ready t.level n (ltb home PARTS) found matter (length block)

  -- its place is that of the state afterwards
  abbrev Placed : Decided → Type 0
  Placed d =
      place_if (concern_of d.turn.answer) (place_after home found.taken d.turn.change) ≡ place_for (put_back t d.ready
      d.level home found d.turn.change) (concern_of d.turn.answer)

  -- a step that was decided so
  abbrev ComesTo : Stepped → List ℕ → Decided → Type 0
  ComesTo s block d = (s ≡ left block d) × Placed d

  no_place : (d : Decided) → concern_of d.turn.answer ≡ None → Placed d
  unfolding place_if place_for
  no_place d e = rw e refl

  own_place :
      (d : Decided) → concern_of d.turn.answer ≡ Some n
      → number_place n (put_back t d.ready d.level home found d.turn.change) ≡ place_after home found.taken d.turn.change
      → Placed d
  unfolding place_if place_for
  own_place d e f = rw e (sym f)

  refused_step : (why : Refusal) (block : List ℕ) → ComesTo (refused (state_of t store) why) block (refusing t.ready t.level why)
  unfolding refusing kept reply_told concern_of
  refused_step why block = (rw (put_stays t t.ready t.level home found long) refl, no_place (refusing t.ready t.level why) refl)

  ready_step : (version : ℕ) (block : List ℕ) → ComesTo (readied (state_of t store) version) block (readying version)
  unfolding readying readied kept reply_told concern_of
  ready_step version block = (rw (put_stays t true (level_for version) home found long) refl, no_place (readying version) refl)

  turn_step :
      (ask : Ask) (block : List ℕ) → t.ready ≡ true
      → ComesTo (stepped (state_of t store) (Of n (act_of ask block))) block (taking t.ready t.level
      (taken n t store long h ask block))
  turn_step ask block e =
      let st = state_of t store in
      let turn = taken n t store long h ask block in
      let says = turn_says t.level n (ltb home PARTS) found (own_number n t long sound) ask (length block) in
      let stays = number_after n t long sound t.ready t.level found turn.change says.0 in (
        in_time st n (act_of ask block) (view n st) e refl
            ∙ finished_does n st _ (view n st) (rules n t store long h ask block) turn (turn_does n t store long h ask block),
        ⊎_elim (λ c. own_place (taking t.ready t.level turn) c stays) (λ c. no_place (taking t.ready t.level turn) c)
            says.1,
      )

  -- a garbled block, on an open channel and on one that isn't
  garbled_open :
      (why : Refusal) (block : List ℕ) → t.ready ≡ true → number_place n t < PARTS
      → ComesTo (stepped (state_of t store) (Of n (Garbled why))) block (decided (Unread why true) block)
  unfolding concern_of garbling
  garbled_open why block e l =
      let st = state_of t store in
      let turn = garbling found why in
      let spoils = garbled t.ready t.level n (ltb home PARTS) found (length block) why true (all_hold t.ready found.taken e (is_open_law n t store long h l)) in
      rw (← spoils) (
        in_time st n (Garbled why) (view n st) e refl
            ∙ finished_does n st _ (view n st) _ turn (garbled_does n t store long h why block l),
        no_place (taking t.ready t.level turn) refl,
      )

  garbled_refused :
      (why : Refusal) (block : List ℕ) → ((t.ready && true) && found.taken) ≡ false
      → stepped (state_of t store) (Of n (Garbled why)) ≡ refused (state_of t store) why
      → ComesTo (stepped (state_of t store) (Of n (Garbled why))) block (decided (Unread why true) block)
  garbled_refused why block e f =
      rw (f, ← unread t.ready t.level n (ltb home PARTS) found (length block) why true e) (refused_step why block)

  is_shut_law : PARTS ≤ number_place n t → found.taken ≡ false
  is_shut_law l = ap (λ (r : Record). r.taken) (past_blank n t (rw long l))

  garbled_step :
      (why : Refusal) (block : List ℕ)
      → ComesTo (stepped (state_of t store) (Of n (Garbled why))) block (decided (Unread why true) block)
  unfolding too_soon
  garbled_step why block = go t.ready refl
    where
      go : (b : Bool) → t.ready ≡ b → ComesTo (stepped (state_of t store) (Of n (Garbled why))) block (decided (Unread why true) block)
      go true e =
          ⊎_elim (garbled_open why block e)
          (λ l. garbled_refused why block (shut_fails t.ready found.taken (is_shut_law l))
          (garbled_shut (state_of t store) n why e (view_shut n (state_of t store) (number_place n t) refl l)))
          (lt_or_le (number_place n t) PARTS)
      go false e = garbled_refused why block (early_fails t.ready found.taken e) (too_early (state_of t store) n (Garbled why) e)

  unread_step :
      (why : Refusal) (block : List ℕ)
      → ComesTo (stepped (state_of t store) (told n (Unread why false) block)) block (decided (Unread why false) block)
  unfolding told stepped
  unread_step why block =
      rw (← unread t.ready t.level n (ltb home PARTS) found (length block) why false (rw (and_false t.ready) refl))
      (refused_step why block)

  pub decided_step :
      (matter : Matter) (block : List ℕ) → ComesTo (stepped (state_of t store) (told n matter block)) block (decided matter block)
  unfolding told
  decided_step (Unread why true) block = garbled_step why block
  decided_step (Unread why false) block = unread_step why block
  decided_step (Caps version) block = go t.ready refl
    where
      go : (b : Bool) → t.ready ≡ b → ComesTo (stepped (state_of t store) (Capabilities version)) block (decided (Caps version) block)
      go true e =
          rw (too_late (state_of t store) version e, ← late t.ready t.level n (ltb home PARTS) found (length block) version e)
          (refused_step WrongTime block)
      go false e =
          rw (made_ready (state_of t store) version e, ← first t.ready t.level n (ltb home PARTS) found (length block) version e)
          (ready_step version block)
  decided_step (Asks ask) block = go t.ready refl
    where
      go : (b : Bool) → t.ready ≡ b → ComesTo (stepped (state_of t store) (Of n (act_of ask block))) block (decided (Asks ask) block)
      go true e = rw (← on-time t.ready t.level n (ltb home PARTS) found (length block) ask e) (turn_step ask block e)
      go false e =
          rw (
            too_early (state_of t store) n (act_of ask block) e,
            asked_soon ask block,
            ← early t.ready t.level n (ltb home PARTS) found
                (length block) ask e,
          ) (refused_step WrongTime block)

  -- as the code has it
  pub gives_decided :
      (matter : Matter) (block : List ℕ) (f : Found) (d : Decided) → f ≡ home_in n t
      → d ≡ decided_of t.ready t.level n (ltb f.place PARTS) f.row matter (length block)
      → (reply storeAfter replyAfter : List ℕ) (r : Received)
      → r ≡ record {
        table = put_back t d.ready d.level f.place f.row d.turn.change;
        answer = d.turn.answer;
        sent = length (reply_told n d.turn.reply);
        place = place_if (concern_of d.turn.answer) (place_after f.place f.row.taken d.turn.change);
      }
      → storeAfter ≡ kept store f.place d.turn.part block → replyAfter ≡ laid reply 0 (reply_told n d.turn.reply)
      → Gives (stepped (state_of t store) (told n matter block)) reply r storeAfter replyAfter
  unfolding home_in
  gives_decided matter block f d e g reply storeAfter replyAfter r p q s =
      let same : d ≡ decided matter block = rw e at g in
      let step = decided_step matter block in
      let p2 = rw (e, same) at p in
      rw step.0 (record {
        result = p2 ∙ ap (λ (k : ℕ). record {
          table = (left block (decided matter block)).state.table;
          answer = (decided matter block).turn.answer;
          sent = length (reply_told n (decided matter block).turn.reply);
          place = k;
        }) step.1;
        stored = rw (e, same) at q;
        replied = rw same at s;
      })
