-- What was decided of what was found, put back, is the step. What both ends have in common is the client's step, said at this
-- end (`decided_step`, client); an awaited number is seen as one that isn't open, and stays.
-- Assumes nothing.
use Rattle.std.specs.Prelude.{None, Some}
use mathlib.Core.Path.{◌≡◌, refl, sym, ap, ◌∙◌}
use mathlib.Core.Bool.{Bool, true, false, cond, ◌&&◌, ◌||◌}
use mathlib.Core.List.{List, []}
use mathlib.Core.Logic.{⊎_elim}
use Prim.Native.Nat.{ℕ, ◌≤◌, ◌<◌}
use borrow.Author.Tests.{lt-ltb}
use lib.Dec.{eqb, ltb}
use lib.IntN.{ℤ}
use lib.ListN.{length}
use Rattle.paper.specs.Sizes.{PARTS, STORE}
use Rattle.paper.specs.declared.Refusal.{Refusal}
use Rattle.paper.specs.declared.Refusal.TheVariants.{WrongTime, NotOpen, NotAwaited}
use Rattle.lists.specs.Bytes.{laid}
use Rattle.lists.proofs.Cases.{and_false, both, lt_or_le, true_not_false}
use Rattle.channel.specs.declared.Record.{Record}
use Rattle.channel.specs.declared.Offer.{Offer}
use Rattle.channel.specs.declared.Answer.{Answer}
use Rattle.channel.specs.declared.Answer.TheVariants as answer
use Rattle.channel.specs.declared.Ask.{Ask}
use Rattle.channel.specs.declared.Ask.TheVariants as ask
use Rattle.channel.specs.declared.Change.{Change}
use Rattle.channel.specs.declared.Change.TheVariants.{Stays, Becomes, Frees}
use Rattle.channel.specs.declared.Part.{Part}
use Rattle.channel.specs.declared.Part.TheVariants.{Keeps, Clears}
use Rattle.channel.specs.declared.Reply.{Reply}
use Rattle.channel.specs.declared.Reply.TheVariants.{NoReply}
use Rattle.channel.specs.Answers.{concern_of}
use Rattle.channel.specs.Channel.{blank, Act, BadCreate, Create, Bring, Garbled, Closing, LocalClose, View, Shut, Open, Room, NoRoom, did, act}
use Rattle.channel.specs.Turns.{turn, answering, closing, bringing, turn_of, act_of, part_told, reply_told}
use Rattle.channel.proofs.Turns.{Comes}
use Rattle.table.specs.declared.Table.{Table}
use Rattle.table.specs.declared.Found.{Found}
use Rattle.table.specs.Table.{number_place, record_at, home_place, home_in, put_back}
use Rattle.table.specs.Sound.{sound_table}
use Rattle.store.specs.Parts.{part}
use Rattle.deciding.specs.declared.Decided as decision
use Rattle.deciding.specs.declared.Matter.{Matter as Common}
use Rattle.deciding.specs.declared.Matter.TheVariants as matter
use Rattle.deciding.specs.Deciding as common
use Rattle.connection.specs.States.{State, state_of, view, save, room_in, kept, place_after}
use Rattle.connection.proofs.Views.{view_open, view_shut, save_own}
use Rattle.connection.proofs.Putting.{put_stays, past_blank, is_open_law, open_saved}
use Rattle.connection.proofs.Places.{own_number, number_after}
use Rattle.client.specs.Events as client
use Rattle.client.specs.Asking as client-asks
use Rattle.client.specs.Client.{place_for, place_if}
use Rattle.client.specs.Client as steps
use Rattle.deciding.proofs.Times.{unread, early, in_time as on-time}
use Rattle.client.proofs.Steps.{in_time, too_early}
use Rattle.client.proofs.Deciding.{decided_step as client-step}
use Rattle.shore.specs.declared.Given.{Given}
use Rattle.shore.specs.declared.Said.{Said}
use Rattle.shore.specs.declared.Said.TheVariants.{Ready, Opened, Declined, Refused}
use Rattle.shore.specs.declared.Matter.{Matter}
use Rattle.shore.specs.declared.Matter.TheVariants.{Unread, Caps, Status, Block, End}
use Rattle.shore.specs.declared.Decided.{Decided}
use Rattle.shore.specs.Saying.{concern_said, said_as}
use Rattle.shore.specs.Rules.{Deed, Answered, Acts, does, as_open, unless_awaited, sent_for, common, is_below_zero, settled_record, settled, unawaited, deed}
use Rattle.shore.specs.Events.{Unreadable, Response, Of}
use Rattle.shore.specs.Shore.{Standing, standing, with_state, Stepped, step_to, refused, level_between, readied, responded, finished, done, too_soon_for, stepped, Gives}
use Rattle.shore.proofs.Laws.{deed_acts, too_soon_law, not_awaited, declined, accepted}
use Rattle.shore.specs.Asking.{told}
use Rattle.shore.specs.Deciding.{deciding, saying, responding, settling, seen_row, as_common, decided_of}

-- ---- what both ends have in common

-- an answer concerns the same channel, said at this end
same_concern : (a : Answer) → concern_said (said_as a) ≡ concern_of a
unfolding concern_said said_as concern_of
same_concern (answer.Ready level) = refl
same_concern (answer.Opened n) = refl
same_concern (answer.Declined n why) = refl
same_concern (answer.Held n left) = refl
same_concern (answer.Message n len) = refl
same_concern (answer.Closed n) = refl
same_concern (answer.Ignored n) = refl
same_concern (answer.Refused why concern) = refl

-- what is no Create asks for no room
abbrev NoCreate : Act → Type 0
NoCreate BadCreate = Unit {0}
NoCreate (Create listed pri) = ⊥
NoCreate (Bring offer bytes) = Unit {0}
NoCreate (Garbled why) = Unit {0}
NoCreate Closing = Unit {0}
NoCreate LocalClose = Unit {0}

any_room : (level n : ℕ) (r s : Room) (v : View) (a : Act) → NoCreate a → act level n r v a ≡ act level n s v a
unfolding act
any_room level n r s v BadCreate z = refl
any_room level n r s v (Create listed pri) z = absurd z
any_room level n r s Shut (Bring offer bytes) z = refl
any_room level n r s (Open row part) (Bring offer bytes) z = refl
any_room level n r s Shut (Garbled why) z = refl
any_room level n r s (Open row part) (Garbled why) z = refl
any_room level n r s Shut Closing z = refl
any_room level n r s (Open row part) Closing z = refl
any_room level n r s Shut LocalClose z = refl
any_room level n r s (Open row part) LocalClose z = refl

-- where the client sends nothing, nothing is sent
none_sent : (a : Act) → sent_for a [] ≡ []
none_sent BadCreate = refl
none_sent (Create listed pri) = refl
none_sent (Bring offer bytes) = refl
none_sent (Garbled why) = refl
none_sent Closing = refl
none_sent LocalClose = refl

-- an awaited number is seen as one that isn't open, and stays
stays_awaited :
    (level n : ℕ) (r : Record) (part : List ℕ) (a : Act) (answer : Answer) → r.awaited ≡ true → act level n NoRoom Shut a ≡ did Shut answer []
    → common (Open r part) a (act level n NoRoom (as_open (Open r part)) a) ≡ does (Open r part) (said_as answer) []
unfolding common
stays_awaited level n r part a answer e f = go r.awaited e
  where
    go :
        (b : Bool) → b ≡ true
        → does (cond b (Open r part) (act level n NoRoom (cond b Shut (Open r part)) a).view) (said_as (act level n NoRoom (cond b Shut (Open r part)) a).answer)
        (sent_for a (act level n NoRoom (cond b Shut (Open r part)) a).reply) ≡ does (Open r part) (said_as answer) []
    go true h = rw (f, none_sent a) refl
    go false h = absurd (true_not_false (sym h))

-- what the common rules see of a record
seen_plain : (r : Record) → r.awaited ≡ false → seen_row r ≡ r
unfolding seen_row
seen_plain r e = ap (λ (b : Bool). cond b blank r) e

seen_awaited : (r : Record) → r.awaited ≡ true → seen_row r ≡ blank
unfolding seen_row
seen_awaited r e = ap (λ (b : Bool). cond b blank r) e

module _ (n : ℕ) (t : Table) (asked : ℕ) (store : List ℕ) (long : length t.records ≡ PARTS) (h : length store ≡ STORE)
    (sound : sound_table t ≡ true) where
  abbrev st : Standing
  st = standing (record { table = t; asked = asked }) store

  abbrev here : State
  here = state_of t store

  abbrev home : ℕ
  home = home_place n t

  abbrev found : Record
  found = record_at t (number_place n t)

  -- what was decided, put back
  abbrev left : List ℕ → Decided → Stepped
  left block d =
      step_to (standing (record { table = put_back t d.ready d.level home found d.change; asked = asked }) (kept store home d.part block))
      d.said (reply_told n d.reply)

  -- its place is that of the state afterwards
  abbrev Placed : Decided → Type 0
  Placed d =
      place_if (concern_said d.said) (place_after home found.taken d.change)
      ≡ place_for (put_back t d.ready d.level home found d.change) (concern_said d.said)

  -- a step that was decided so
  abbrev ComesTo : Stepped → List ℕ → Decided → Type 0
  ComesTo s block d = (s ≡ left block d) × Placed d

  no_place : (d : Decided) → concern_said d.said ≡ None → Placed d
  unfolding place_if place_for
  no_place d e = rw e refl

  own_place :
      (d : Decided) → concern_said d.said ≡ Some n
      → number_place n (put_back t d.ready d.level home found d.change) ≡ place_after home found.taken d.change → Placed d
  unfolding place_if place_for
  own_place d e f = rw e (sym f)

  stays_place : (ready : Bool) (level : ℕ) → number_place n (put_back t ready level home found Stays) ≡ place_after home found.taken Stays
  stays_place ready level = number_after n t long sound ready level found Stays tt

  -- nothing but an answer, ready or not, at a level
  says_step :
      (ready : Bool) (level : ℕ) (said : Said) (block : List ℕ)
      → step_to (standing (record { table = record { totals = t.totals; ready = ready; level = level; records = t.records }; asked = asked }) store) said []
      ≡ left block (saying ready level said)
  unfolding kept reply_told
  says_step ready level said block = rw (put_stays t ready level home found long) refl

  refused_step : (why : Refusal) (block : List ℕ) → ComesTo (refused st why) block (saying t.ready t.level (Refused why None))
  unfolding concern_said
  refused_step why block =
      (says_step t.ready t.level (Refused why None) block, no_place (saying t.ready t.level (Refused why None)) refl)

  -- in time, and too soon
  in_step : t.ready ≡ true → (d : Deed) → stepped st (Of n d) ≡ finished n st (view n here) (deed t.level n (view n here) d)
  unfolding stepped done
  in_step r d = rw r

  soon_step : t.ready ≡ false → (d : Deed) → stepped st (Of n d) ≡ refused st (too_soon_for d)
  unfolding stepped
  soon_step r d = rw r

  -- ---- the number's view

  not_found : PARTS ≤ number_place n t → found ≡ blank
  not_found l = past_blank n t (rw long l)

  plain_view : found.awaited ≡ false → (as_open (view n here) ≡ view n here) × ((w : View) → unless_awaited (view n here) w ≡ w)
  plain_view e =
      ⊎_elim
      (λ (l : number_place n t < PARTS). rw (view_open n here (number_place n t) refl l, e) (refl, λ w. refl))
      (λ (l : PARTS ≤ number_place n t). rw (view_shut n here (number_place n t) refl l) (refl, λ w. refl))
      (lt_or_le (number_place n t) PARTS)

  awaited_there : found.awaited ≡ true → number_place n t < PARTS
  awaited_there e =
      ⊎_elim (λ (l : number_place n t < PARTS). l)
      (λ (l : PARTS ≤ number_place n t). absurd (true_not_false (sym e ∙ ap (λ (r : Record). r.awaited) (not_found l))))
      (lt_or_le (number_place n t) PARTS)

  awaited_view : found.awaited ≡ true → view n here ≡ Open found (part store (number_place n t))
  awaited_view e = view_open n here (number_place n t) refl (awaited_there e)

  -- ---- a number that isn't awaited: the client's step, said at this end

  abbrev translated : Act → steps.Stepped → Stepped
  translated a s = step_to (with_state st s.state) (said_as s.answer) (sent_for a s.reply)

  as_client : found.awaited ≡ false → (a : Act) → NoCreate a → stepped st (Of n (Acts a)) ≡ translated a (steps.stepped here (client.Of n a))
  unfolding finished common said_as too_soon_for steps.finished
  as_client e a z = go t.ready refl
    where
      go : (b : Bool) → t.ready ≡ b → stepped st (Of n (Acts a)) ≡ translated a (steps.stepped here (client.Of n a))
      go true r =
          let v = view n here in
          let d = act t.level n (room_in here) v a in
          let p = plain_view e in
          let rules : deed t.level n v (Acts a) ≡ common v a d =
          deed_acts t.level n v a ∙ ap (λ (w : View). common v a (act t.level n NoRoom w a)) p.0
          ∙ ap (common v a) (any_room t.level n NoRoom (room_in here) v a z) in
          let back : finished n st v (common v a d) ≡ translated a (steps.finished n here v d) =
          ap (λ (w : View). step_to (with_state st (save n here v w)) (said_as d.answer) (sent_for a d.reply)) (p.1 d.view) in
          in_step r (Acts a) ∙ ap (finished n st v) rules ∙ back ∙ ap (translated a) (sym (in_time here n a v r refl))
      go false r = soon_step r (Acts a) ∙ sym (ap (translated a) (too_early here n a r) ∙ rw (none_sent a) refl)

  -- what the client's step was decided as
  common_step :
      found.awaited ≡ false → (a : Act) → NoCreate a → (m : Common) (block : List ℕ) (reply : Reply) → client-asks.told n m block ≡ client.Of n a
      → sent_for a (reply_told n (common.decided_of t.ready t.level n (ltb home PARTS) found m (length block)).turn.reply) ≡ reply_told n reply
      → ComesTo (stepped st (Of n (Acts a))) block (as_common (common.decided_of t.ready t.level n (ltb home PARTS) found m (length block)) reply)
  unfolding as_common
  common_step e a z m block reply f g =
      let d = common.decided_of t.ready t.level n (ltb home PARTS) found m (length block) in
      let c = rw f at (client-step n t store long h sound m block) in
      (as_client e a z ∙ ap (translated a) c.0 ∙ rw g refl, rw (same_concern d.turn.answer) c.1)

  -- ---- a number that is awaited: as one that isn't open, and it stays

  kept_step :
      found.awaited ≡ true → t.ready ≡ true → (a : Act) (answer : Answer) → act t.level n NoRoom Shut a ≡ did Shut answer []
      → stepped st (Of n (Acts a)) ≡ step_to st (said_as answer) []
  unfolding finished
  kept_step e r a answer f =
      let v = view n here in
      let kept : deed t.level n v (Acts a) ≡ does v (said_as answer) [] =
      deed_acts t.level n v a ∙ rw (awaited_view e) (stays_awaited t.level n found (part store (number_place n t)) a answer e f) in
      in_step r (Acts a) ∙ ap (finished n st v) kept
      ∙ ap (λ (x : State). step_to (with_state st x) (said_as answer) []) (save_own n here h)

  -- ---- what is decided of each matter

  abbrev decided : Matter → List ℕ → Decided
  decided matter block = decided_of asked t.ready t.level n (ltb home PARTS) found matter (length block)

  -- what the common rules decide of a record
  abbrev decides : Record → Common → List ℕ → decision.Decided
  decides row m block = common.decided_of t.ready t.level n (ltb home PARTS) row m (length block)

  -- a garbled block leaves an awaited number, and its refusal concerns no channel
  awaited_garbled : found.awaited ≡ true → (why : Refusal) → stepped st (Of n (Acts (Garbled why))) ≡ refused st why
  unfolding act said_as too_soon_for common.too_soon
  awaited_garbled e why = go t.ready refl
    where
      go : (b : Bool) → t.ready ≡ b → stepped st (Of n (Acts (Garbled why))) ≡ refused st why
      go true r = kept_step e r (Garbled why) (answer.Refused why None) refl
      go false r = soon_step r (Acts (Garbled why))

  blank_garbled :
      (why : Refusal) (block : List ℕ)
      → as_common (decides blank (matter.Unread why true) block) NoReply ≡ saying t.ready t.level (Refused why None)
  unfolding as_common common.refusing said_as
  blank_garbled why block =
      rw (← unread t.ready t.level n (ltb home PARTS) blank (length block) why true (and_false (t.ready && true))) refl

  garbled_step : (why : Refusal) (block : List ℕ) → ComesTo (stepped st (Of n (Acts (Garbled why)))) block (decided (Unread why true) block)
  unfolding decided_of client-asks.told reply_told
  garbled_step why block = go found.awaited refl
    where
      go : (b : Bool) → found.awaited ≡ b → ComesTo (stepped st (Of n (Acts (Garbled why)))) block (decided (Unread why true) block)
      go false e = rw (seen_plain found e) (common_step e (Garbled why) tt (matter.Unread why true) block NoReply refl refl)
      go true e = rw (seen_awaited found e, blank_garbled why block, awaited_garbled e why) (refused_step why block)

  -- what is asked of an awaited number
  awaited_asks :
      found.awaited ≡ true → (a : Act) (ask : Ask) (answer : Answer) (reply : decision.Decided → Reply) (block : List ℕ)
      → act t.level n NoRoom Shut a ≡ did Shut answer [] → turn_of t.level n (ltb home PARTS) blank ask (length block) ≡ answering answer
      → concern_of answer ≡ Some n → common.too_soon a ≡ WrongTime → ((d : decision.Decided) → d.turn.reply ≡ NoReply → reply d ≡ NoReply)
      → ComesTo (stepped st (Of n (Acts a))) block (as_common (decides blank (matter.Asks ask) block) (reply (decides blank (matter.Asks ask) block)))
  unfolding as_common too_soon_for said_as common.refusing
  awaited_asks e a ask answer reply block f g c soon mute = go t.ready refl
    where
      go :
          (b : Bool) → t.ready ≡ b
          → ComesTo (stepped st (Of n (Acts a))) block (as_common (decides blank (matter.Asks ask) block) (reply (decides blank (matter.Asks ask) block)))
      go true r =
          let d = common.taking t.ready t.level (answering answer) in
          let same : decides blank (matter.Asks ask) block ≡ d =
          sym (on-time t.ready t.level n (ltb home PARTS) blank (length block) ask r) ∙ ap (common.taking t.ready t.level) g in
          rw (same, mute d refl) (
            kept_step e r a answer f ∙ says_step t.ready t.level (said_as answer) block,
            own_place (saying t.ready t.level (said_as answer)) (same_concern answer ∙ c) (stays_place t.ready t.level),
          )
      go false r =
          let d = common.refusing t.ready t.level WrongTime in
          let same : decides blank (matter.Asks ask) block ≡ d = sym (early t.ready t.level n (ltb home PARTS) blank (length block) ask r) in
          rw (same, mute d refl, soon_step r (Acts a), soon) (refused_step WrongTime block)

  block_step : (offer : Offer) (block : List ℕ) → ComesTo (stepped st (Of n (Acts (Bring offer block)))) block (decided (Block offer) block)
  unfolding decided_of client-asks.told act_of reply_told act turn_of bringing concern_of common.too_soon
  block_step offer block = go found.awaited refl
    where
      go : (b : Bool) → found.awaited ≡ b → ComesTo (stepped st (Of n (Acts (Bring offer block)))) block (decided (Block offer) block)
      go false e = rw (seen_plain found e) (common_step e (Bring offer block) tt (matter.Asks (ask.Block offer)) block NoReply refl refl)
      go true e =
          rw (seen_awaited found e)
          (awaited_asks e (Bring offer block) (ask.Block offer) (answer.Refused NotOpen (Some n)) (λ d. NoReply) block refl refl refl refl (λ d h. refl))

  end_step : (local : Bool) (block : List ℕ) → ComesTo (stepped st (Of n (Acts (client.close_act local)))) block (decided (End local) block)
  unfolding decided_of client-asks.told act_of reply_told act turn_of closing concern_of common.too_soon
  end_step local block = go found.awaited refl local
    where
      go :
          (b : Bool) → found.awaited ≡ b → (local : Bool)
          → ComesTo (stepped st (Of n (Acts (client.close_act local)))) block (decided (End local) block)
      go false e true =
          rw (seen_plain found e)
          (common_step e LocalClose tt (matter.Asks (ask.End true)) block (decides found (matter.Asks (ask.End true)) block).turn.reply refl refl)
      go false e false = rw (seen_plain found e) (common_step e Closing tt (matter.Asks (ask.End false)) block NoReply refl refl)
      go true e true =
          rw (seen_awaited found e)
          (awaited_asks e LocalClose (ask.End true) (answer.Refused NotOpen (Some n)) (λ d. d.turn.reply) block refl refl refl refl (λ d h. h))
      go true e false =
          rw (seen_awaited found e) (awaited_asks e Closing (ask.End false) (answer.Ignored n) (λ d. NoReply) block refl refl refl refl (λ d h. refl))

  -- a Capabilities response
  response_step : (version : ℕ) (block : List ℕ) → ComesTo (stepped st (Response version)) block (decided (Caps version) block)
  unfolding stepped responded readied decided_of responding concern_said
  response_step version block = go (t.ready || eqb asked 0)
    where
      go :
          (b : Bool)
          → ComesTo
          (cond b (refused st WrongTime)
          (step_to (with_state st (state_of (readied t (level_between asked version)) store)) (Ready (level_between asked version)) []))
          block
          (cond b (saying t.ready t.level (Refused WrongTime None)) (saying true (level_between asked version) (Ready (level_between asked version))))
      go true = refused_step WrongTime block
      go false =
          let level = level_between asked version in
          (says_step true level (Ready level) block, no_place (saying true level (Ready level)) refl)

  -- ---- a Create response

  abbrev answers : ℤ → Stepped
  answers status = stepped st (Of n (Answered status))

  -- of an awaited number
  awaited_answered :
      (status : ℤ) (block : List ℕ) → t.ready ≡ true → (e : found.awaited ≡ true)
      → answers status ≡ finished n st (Open found (part store (number_place n t))) (settled n found (part store (number_place n t)) status)
  unfolding deed
  awaited_answered status block r e =
      let p = part store (number_place n t) in
      in_step r (Answered status) ∙ rw (awaited_view e) (ap (finished n st (Open found p)) (ap (λ (b : Bool). cond b (settled n found p status) (unawaited n (Open found p))) e))

  -- what becomes of it, put back
  put_awaited :
      (e : found.awaited ≡ true) (change : Change) (p : Part) (said : Said) (new : View) (block : List ℕ)
      → Comes found (part store (number_place n t)) block change p new
      → step_to (with_state st (save n here (Open found (part store (number_place n t))) new)) said [] ≡ left block (deciding t.ready t.level change p said NoReply)
  unfolding reply_told home_place
  put_awaited e change p said new block c =
      let l = awaited_there e in
      let at : home ≡ number_place n t = rw (lt-ltb (number_place n t) PARTS l) refl in
      rw at (ap (λ (x : State). step_to (with_state st x) said [])
      (open_saved n t store (number_place n t) found long h l refl refl (is_open_law n t store long h l) block (turn change p (answer.Ignored n) NoReply) new c))

  -- of a number that isn't awaited
  unawaited_deed :
      (status : ℤ) → (found.taken && found.awaited) ≡ false → deed t.level n (view n here) (Answered status) ≡ unawaited n (view n here)
  unfolding deed
  unawaited_deed status e =
      ⊎_elim
      (λ (l : number_place n t < PARTS).
      let p = part store (number_place n t) in
      let not : found.awaited ≡ false = ap (λ (b : Bool). b && found.awaited) (sym (is_open_law n t store long h l)) ∙ e in
      rw (view_open n here (number_place n t) refl l) (ap (λ (b : Bool). cond b (settled n found p status) (unawaited n (Open found p))) not))
      (λ (l : PARTS ≤ number_place n t). rw (view_shut n here (number_place n t) refl l) refl)
      (lt_or_le (number_place n t) PARTS)

  not_answered : (status : ℤ) → t.ready ≡ true → (found.taken && found.awaited) ≡ false → answers status ≡ step_to st (Refused NotAwaited (Some n)) []
  unfolding finished
  not_answered status r e =
      in_step r (Answered status) ∙ ap (finished n st (view n here)) (unawaited_deed status e)
      ∙ ap (λ (x : State). step_to (with_state st x) (Refused NotAwaited (Some n)) []) (save_own n here h)

  module _ (status : ℤ) (block : List ℕ) (r : t.ready ≡ true) (e : (found.taken && found.awaited) ≡ true) where
    is_taken : found.taken ≡ true
    is_taken = (both found.taken found.awaited e).0

    is_awaited_law : found.awaited ≡ true
    is_awaited_law = (both found.taken found.awaited e).1

    frees_step : is_below_zero status ≡ true → ComesTo (answers status) block (deciding t.ready t.level Frees Clears (Declined n) NoReply)
    unfolding finished settled concern_said
    frees_step f = (
      awaited_answered status block r is_awaited_law ∙ rw f (put_awaited is_awaited_law Frees Clears (Declined n) Shut block (refl, is_taken, refl)),
      own_place (deciding t.ready t.level Frees Clears (Declined n) NoReply) refl (number_after n t long sound t.ready t.level found Frees is_taken),
    )

    opens_step :
        is_below_zero status ≡ false
        → ComesTo (answers status) block (deciding t.ready t.level (Becomes (settled_record found)) Keeps (Opened n) NoReply)
    unfolding finished settled concern_said settled_record part_told
    opens_step f = (
      awaited_answered status block r is_awaited_law
          ∙ rw f (put_awaited is_awaited_law (Becomes (settled_record found)) Keeps (Opened n) (Open (settled_record found) (part store (number_place n t))) block refl),
      own_place (deciding t.ready t.level (Becomes (settled_record found)) Keeps (Opened n) NoReply) refl
          (number_after n t long sound t.ready t.level found (Becomes (settled_record found))
          (is_taken, own_number n t long sound is_taken, λ x. absurd (true_not_false (sym is_taken ∙ x)))),
    )

  answered_step : (status : ℤ) (block : List ℕ) → ComesTo (answers status) block (decided (Status status) block)
  unfolding decided_of too_soon_for concern_said
  answered_step status block = go t.ready refl (found.taken && found.awaited) refl (is_below_zero status) refl
    where
      go :
          (b : Bool) → t.ready ≡ b → (c : Bool) → (found.taken && found.awaited) ≡ c → (d : Bool) → is_below_zero status ≡ d
          → ComesTo (answers status) block (settling t.ready t.level n found status)
      go false r c e d f = rw (← too_soon_law t.ready t.level n found status r, soon_step r (Answered status)) (refused_step WrongTime block)
      go true r false e d f =
          let said = Refused NotAwaited (Some n) in
          rw (← not_awaited t.ready t.level n found status r e) (
            not_answered status r e ∙ says_step t.ready t.level said block,
            own_place (saying t.ready t.level said) refl (stays_place t.ready t.level),
          )
      go true r true e true f = rw (← declined t.ready t.level n found status r e f) (frees_step status block r e f)
      go true r true e false f = rw (← accepted t.ready t.level n found status r e f) (opens_step status block r e f)

  unread_step : (why : Refusal) (block : List ℕ) → ComesTo (stepped st (Unreadable why)) block (decided (Unread why false) block)
  unfolding stepped decided_of as_common common.refusing said_as
  unread_step why block =
      rw (← unread t.ready t.level n (ltb home PARTS) (seen_row found) (length block) why false (rw (and_false t.ready) refl)) (refused_step why block)

  pub decided_step : (matter : Matter) (block : List ℕ) → ComesTo (stepped st (told n matter block)) block (decided matter block)
  unfolding told
  decided_step (Unread why true) block = garbled_step why block
  decided_step (Unread why false) block = unread_step why block
  decided_step (Caps version) block = response_step version block
  decided_step (Status status) block = answered_step status block
  decided_step (Block offer) block = block_step offer block
  decided_step (End local) block = end_step local block

  -- as the code has it
  pub gives_decided :
      (matter : Matter) (block : List ℕ) (f : Found) (d : Decided) → f ≡ home_in n t
      → d ≡ decided_of asked t.ready t.level n (ltb f.place PARTS) f.row matter (length block)
      → (reply storeAfter replyAfter : List ℕ) (r : Given)
      → r ≡ record {
        shore = record { table = put_back t d.ready d.level f.place f.row d.change; asked = asked };
        said = d.said;
        sent = length (reply_told n d.reply);
        place = place_if (concern_said d.said) (place_after f.place f.row.taken d.change);
      }
      → storeAfter ≡ kept store f.place d.part block → replyAfter ≡ laid reply 0 (reply_told n d.reply)
      → Gives (stepped st (told n matter block)) reply r storeAfter replyAfter
  unfolding home_in
  gives_decided matter block f d e g reply storeAfter replyAfter r p q s =
      let same : d ≡ decided matter block = rw e at g in
      let step = decided_step matter block in
      let p2 = rw (e, same) at p in
      rw step.0 (record {
        result = p2 ∙ ap (λ (k : ℕ). record {
          shore = (left block (decided matter block)).state.shore;
          said = (decided matter block).said;
          sent = length (reply_told n (decided matter block).reply);
          place = k;
        }) step.1;
        stored = rw (e, same) at q;
        replied = rw same at s;
      })
