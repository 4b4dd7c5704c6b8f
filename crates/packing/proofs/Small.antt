-- Every answer of a call of the client is small, what it sends fits its bits, and so does the place of a message: so its
-- number gives all of it back.
-- Assumes nothing.
use Rattle.std.specs.Prelude.{None, Some, Option}
use mathlib.Core.Path.{◌≡◌, refl, sym, ap, ◌∙◌}
use mathlib.Core.Bool.{Bool, true, false, not, ◌&&◌}
use mathlib.Core.List.{List, []}
use mathlib.Core.Logic.{◌⊎◌, inl, inr, ⊎_elim}
use Prim.Native.Nat.{ℕ, ◌+◌, ◌≤◌, ◌<◌}
use native.Mathlib.Omega.{arith}
use borrow.Author.Tests.{ltb-false, lt-ltb}
use lib.Dec.{eqb, ltb, lit<, lit≤}
use lib.ListN.{length}
use Rattle.paper.specs.Sizes.{PDU_MAX, MESSAGE_MAX, PARTS, STORE, REPLY_MIN}
use Rattle.paper.specs.Refusals.{refusal_number}
use Rattle.paper.specs.declared.Refusal.{Refusal}
use Rattle.paper.specs.declared.Refusal.TheVariants.{BadCall, CutShort, TooLong, NoCommand, BadField, BadList, WrongTime, NotOpen}
use Rattle.paper.specs.declared.Refusal.TheVariants.{AlreadyOpen, StillJoining, OverLimit, PastLength, IsSpoiled, NoStart}
use Rattle.paper.specs.declared.Refusal.TheVariants.{AllTaken, NotAwaited, NotSets, Loose, NoPartner, NoRoom, LogFull, NotBlocks}
use Rattle.lists.proofs.Cases.{choice, true_not_false, lt_or_le}
use Rattle.numbers.specs.Numbers.{Bytes, NUMBERS}
use Rattle.numbers.proofs.Widths.{narrowest_le}
use Rattle.reading.specs.declared.Pdu.{Pdu}
use Rattle.reading.specs.declared.Pdu.TheVariants.{CreateRequest, CreateResponse, DataFirst, Data, Close}
use Rattle.reading.specs.declared.Pdu.TheVariants.{CapsRequest, CapsResponse, Refused as NotRead}
use Rattle.reading.specs.Said.{bytes_at}
use Rattle.reading.specs.Garbled.{carries}
use Rattle.reading.specs.Reading.{read_pdu}
use Rattle.laying.proofs.Lengths.{length_create_response, length_close, length_caps_response}
use Rattle.channel.specs.declared.Stage.{Stage}
use Rattle.channel.specs.declared.Stage.TheVariants.{Idle, Joining, Spoiled}
use Rattle.channel.specs.declared.Record.{Record}
use Rattle.channel.specs.declared.Offer.{Offer}
use Rattle.channel.specs.declared.Offer.TheVariants.{First, More}
use Rattle.channel.specs.declared.Took.{Took}
use Rattle.channel.specs.declared.Took.TheVariants.{Bars, Spoils, Holds, Finishes}
use Rattle.channel.specs.declared.Decline.TheVariants.{Unlisted, Full}
use Rattle.channel.specs.declared.Answer.{Answer}
use Rattle.channel.specs.declared.Answer.TheVariants.{Ready, Opened, Declined, Held, Message, Closed, Ignored, Refused}
use Rattle.channel.specs.declared.Ask.{Ask}
use Rattle.channel.specs.declared.Ask.TheVariants.{NoList, Name, Block, End}
use Rattle.channel.specs.declared.Reply.{Reply}
use Rattle.channel.specs.declared.Reply.TheVariants.{NoReply, Version, Status, CloseBack}
use Rattle.channel.specs.declared.Turn.{Turn}
use Rattle.channel.specs.Answers.{concern_of, number_of, decline_number}
use Rattle.channel.specs.Stages.{added, took_first, took}
use Rattle.channel.specs.Channel.{LocalClose, answer_to}
use Rattle.channel.specs.Turns.{creating, landing, bringing, garbling, closing, turn_of, reply_told}
use Rattle.table.specs.declared.Table.{Table}
use Rattle.table.specs.Table.{number_place, record_at, home_place}
use Rattle.table.specs.Sound.{good_stage, sound_table}
use Rattle.table.proofs.Soundness.{sound_says, joining_bounds}
use Rattle.deciding.specs.declared.Matter.{Matter}
use Rattle.deciding.specs.declared.Matter.TheVariants.{Unread, Caps, Asks}
use Rattle.deciding.specs.declared.Decided.{Decided}
use Rattle.deciding.specs.Deciding.{refusing, readying, decided_of}
use Rattle.connection.specs.States.{state_of}
use Rattle.connection.proofs.Putting.{past_blank}
use Rattle.client.specs.declared.Asked.{Asked}
use Rattle.client.specs.declared.Received.{Received}
use Rattle.client.specs.Events.{Event, Of, event_of}
use Rattle.client.specs.Asking.{told, event_asked, unread_ask, heard_in, closing_of}
use Rattle.client.specs.Client.{refused, stepped, bad_call, result_of, whole_of, called, received, locally_closed}
use Rattle.client.proofs.Calls.{proper, refuses, passes}
use Rattle.client.proofs.Asking.{event_asked_law, event_closing}
use Rattle.client.proofs.Deciding.{decided_step}
use Rattle.packing.specs.Packing.{channel_of, answer_place, packed_answer}
use Rattle.packing.specs.Unpacking.{place_in, sent_in, answer_in, Small}
use Rattle.packing.proofs.Unpacked.{answer_back, answer_sent, answer_place_law}
use Rattle.packing.proofs.Own.{decided_place}
use Rattle.packing.proofs.Brought.{Brings, CarriesSmall, block_length, carried_small, read_brings}

-- ---- small answers

pub refusal_small : (why : Refusal) → refusal_number why < 8192
refusal_small BadCall = lit< tt
refusal_small CutShort = lit< tt
refusal_small TooLong = lit< tt
refusal_small NoCommand = lit< tt
refusal_small BadField = lit< tt
refusal_small BadList = lit< tt
refusal_small WrongTime = lit< tt
refusal_small NotOpen = lit< tt
refusal_small AlreadyOpen = lit< tt
refusal_small StillJoining = lit< tt
refusal_small OverLimit = lit< tt
refusal_small PastLength = lit< tt
refusal_small IsSpoiled = lit< tt
refusal_small NoStart = lit< tt
refusal_small AllTaken = lit< tt
refusal_small NotAwaited = lit< tt
refusal_small NotSets = lit< tt
refusal_small Loose = lit< tt
refusal_small NoPartner = lit< tt
refusal_small NoRoom = lit< tt
refusal_small LogFull = lit< tt
refusal_small NotBlocks = lit< tt

-- a refusal that concerns no channel
none_small : (why : Refusal) → Small (Refused why None)
unfolding concern_of channel_of number_of
none_small why = record { channel = lit< tt; number = refusal_small why }

ready_small : (level : ℕ) → level < 8192 → Small (Ready level)
unfolding concern_of channel_of number_of
ready_small level h = record { channel = lit< tt; number = h }

-- those of a channel
module _ (n : ℕ) (h : n < NUMBERS) where
  refused_small : (why : Refusal) → Small (Refused why (Some n))
  unfolding concern_of channel_of number_of
  refused_small why = record { channel = h; number = refusal_small why }

  unlisted_small : Small (Declined n Unlisted)
  unfolding concern_of channel_of number_of decline_number
  unlisted_small = record { channel = h; number = lit< tt }

  full_small : Small (Declined n Full)
  unfolding concern_of channel_of number_of decline_number
  full_small = record { channel = h; number = lit< tt }

  opens_small : Small (Opened n)
  unfolding concern_of channel_of number_of
  opens_small = record { channel = h; number = lit< tt }

  closes_small : Small (Closed n)
  unfolding concern_of channel_of number_of
  closes_small = record { channel = h; number = lit< tt }

  ignored_small : Small (Ignored n)
  unfolding concern_of channel_of number_of
  ignored_small = record { channel = h; number = lit< tt }

-- ---- what data does

abbrev TookSmall : Took → Type 0
TookSmall (Bars why) = Unit {0}
TookSmall (Spoils why) = Unit {0}
TookSmall (Holds wanted at held) = wanted < 8192
TookSmall (Finishes at len) = len < 8192

added_small : (wanted held len : ℕ) → wanted < 8192 → TookSmall (added wanted held len)
unfolding added
added_small wanted held len h =
    choice TookSmall (ltb wanted (held + len)) (λ e. tt) (λ e. choice TookSmall (eqb (held + len) wanted) (λ f. h) (λ f. h))

-- a message has 4,096 bytes at most, or those of the block that brings it whole
took_small : (s : Stage) (offer : Offer) (len : ℕ) → good_stage s ≡ true → len < 8192 → TookSmall (took s offer len)
unfolding took took_first MESSAGE_MAX
took_small Spoiled offer len g h = tt
took_small (Joining wanted held) (First n) len g h = tt
took_small (Joining wanted held) More len g h =
    added_small wanted held len (omega (arith, joining_bounds (Joining wanted held) wanted held refl g))
took_small Idle (First n) len g h =
    choice TookSmall (ltb MESSAGE_MAX n) (λ e. tt) (λ e. added_small n 0 len (omega (arith, ltb-false MESSAGE_MAX n e)))
took_small Idle More len g h = h

answer_small : (n : ℕ) (tk : Took) → n < NUMBERS → TookSmall tk → Small (answer_to n tk)
unfolding answer_to concern_of channel_of number_of
answer_small n (Bars why) h k = refused_small n h why
answer_small n (Spoils why) h k = refused_small n h why
answer_small n (Holds wanted at held) h k = record { channel = h; number = omega arith }
answer_small n (Finishes at len) h k = record { channel = h; number = k }

-- ---- what is decided

-- a place is shown of an open channel only
abbrev Seated : Record → Answer → Type 0
Seated row a = ((k : ℕ) → answer_place a k ≡ 0) ⊎ (row.taken ≡ true)

abbrev pub Fine : Record → Answer → Type 0
Fine row a = Small a × Seated row a

abbrev TurnFine : Record → Turn → Type 0
TurnFine row t = Fine row t.answer

abbrev pub DecidedFine : Record → Decided → Type 0
DecidedFine row d = Fine row d.turn.answer

module _ (level n : ℕ) (room : Bool) (row : Record) (h : n < NUMBERS) where
  creates_fine : (listed : Bool) (pri : ℕ) → TurnFine row (creating level n room row listed pri)
  unfolding creating answer_place
  creates_fine listed pri =
      choice (TurnFine row) row.taken (λ e. (refused_small n h AlreadyOpen, inr e))
      (λ e. choice (TurnFine row) (not listed) (λ f. (unlisted_small n h, inl (λ k. refl)))
      (λ f. choice (TurnFine row) (not room) (λ g. (full_small n h, inl (λ k. refl))) (λ g. (opens_small n h, inl (λ k. refl)))))

  brings_fine : (offer : Offer) (len : ℕ) → good_stage row.stage ≡ true → len < 8192 → TurnFine row (bringing n row offer len)
  unfolding bringing landing answer_place
  brings_fine offer len g l =
      choice (TurnFine row) row.taken
      (λ e. (answer_small n (took row.stage offer len) h (took_small row.stage offer len g l), inr e))
      (λ e. (refused_small n h NotOpen, inl (λ k. refl)))

  closes_fine : (local : Bool) → TurnFine row (closing n row local)
  unfolding closing answer_place
  closes_fine local =
      choice (TurnFine row) row.taken (λ e. (closes_small n h, inr e))
      (λ e. choice (TurnFine row) local (λ f. (refused_small n h NotOpen, inl (λ k. refl))) (λ f. (ignored_small n h, inl (λ k. refl))))

  turn_fine : (ask : Ask) (len : ℕ) → good_stage row.stage ≡ true → len < 8192 → TurnFine row (turn_of level n room row ask len)
  unfolding turn_of answer_place
  turn_fine NoList len g l = (none_small BadList, inl (λ k. refl))
  turn_fine (Name listed pri) len g l = creates_fine listed pri
  turn_fine (Block offer) len g l = brings_fine offer len g l
  turn_fine (End local) len g l = closes_fine local

  pub decided_fine :
      (ready : Bool) (m : Matter) (len : ℕ) → good_stage row.stage ≡ true → len < 8192
      → DecidedFine row (decided_of ready level n room row m len)
  unfolding decided_of refusing readying garbling answer_place
  decided_fine ready (Unread why whole) len g l =
      choice (DecidedFine row) ((ready && whole) && row.taken) (λ e. (none_small why, inl (λ k. refl))) (λ e. (none_small why, inl (λ k. refl)))
  decided_fine ready (Caps version) len g l =
      choice (DecidedFine row) ready (λ e. (none_small WrongTime, inl (λ k. refl))) (λ e. (ready_small _ (omega arith), inl (λ k. refl)))
  decided_fine ready (Asks ask) len g l =
      choice (DecidedFine row) ready (λ e. turn_fine ask len g l) (λ e. (none_small WrongTime, inl (λ k. refl)))

-- ---- what is sent

-- a reply is no longer than its buffer must be
pub reply_short : (n : ℕ) (reply : Reply) → length (reply_told n reply) ≤ REPLY_MIN
unfolding reply_told REPLY_MIN
reply_short n NoReply = lit≤ tt
reply_short n Version = omega (arith, length_caps_response 2)
reply_short n (Status status) = omega (arith, length_create_response n status, narrowest_le n)
reply_short n CloseBack = omega (arith, length_close n, narrowest_le n)

-- ---- where a record stands

-- an open channel's record is one of the table's
pub at_home : (n : ℕ) (t : Table) → length t.records ≡ PARTS → (record_at t (number_place n t)).taken ≡ true → home_place n t < PARTS
unfolding home_place
at_home n t long e =
    ⊎_elim
    (λ (l : number_place n t < PARTS). rw (lt-ltb (number_place n t) PARTS l) l)
    (λ (l : PARTS ≤ number_place n t). absurd (true_not_false (sym e ∙ ap (λ (r : Record). r.taken) (past_blank n t (rw long l)))))
    (lt_or_le (number_place n t) PARTS)

place_most : (a : Answer) (k : ℕ) → answer_place a k ≤ k
unfolding answer_place
place_most (Ready level) k = omega arith
place_most (Opened n) k = omega arith
place_most (Declined n why) k = omega arith
place_most (Held n left) k = omega arith
place_most (Message n len) k = omega arith
place_most (Closed n) k = omega arith
place_most (Ignored n) k = omega arith
place_most (Refused why concern) k = omega arith

-- ---- steps and calls

-- an answer, how many bytes are sent and the place fit their bits
pub record Fits (r : Received) : Type 0 where
  pub small : Small r.answer
  pub sent : r.sent ≤ REPLY_MIN
  pub place : answer_place r.answer r.place < 16

-- so they are got back
pub fits_back :
    (r : Received) → Fits r
    → (answer_in (packed_answer r.answer r.place r.sent) ≡ r.answer)
    × (sent_in (packed_answer r.answer r.place r.sent) ≡ r.sent)
    × (place_in (packed_answer r.answer r.place r.sent) ≡ answer_place r.answer r.place)
unfolding REPLY_MIN
fits_back r f = (
  answer_back r.answer r.place r.sent f.small,
  answer_sent r.answer r.place r.sent f.small (omega (arith, f.sent)),
  answer_place_law r.answer r.place r.sent f.small f.place,
)

refused_fits : (t : Table) (store : List ℕ) (why : Refusal) → Fits (result_of (refused (state_of t store) why))
unfolding answer_place REPLY_MIN
refused_fits t store why = record { small = none_small why; sent = lit≤ tt; place = lit< tt }

module _ (t : Table) (store : List ℕ) (long : length t.records ≡ PARTS) where
  pub step_fits :
      (n : ℕ) (m : Matter) (block : List ℕ) → length store ≡ STORE → sound_table t ≡ true → n < NUMBERS → length block < 8192
      → Fits (result_of (stepped (state_of t store) (told n m block)))
  unfolding PARTS
  step_fits n m block size sound h l =
      let row = record_at t (number_place n t) in
      let home = home_place n t in
      let d = decided_of t.ready t.level n (ltb home PARTS) row m (length block) in
      let step = decided_step n t store long size sound m block in
      let fine = decided_fine t.level n (ltb home PARTS) row h t.ready m (length block) ((sound_says t sound).stage (number_place n t)) l in
      let shown = decided_place t.ready t.level n (ltb home PARTS) row m (length block) home in
      rw (step.0, ← step.1) (record {
        small = fine.0;
        sent = reply_short n d.turn.reply;
        place = rw (← shown) (⊎_elim (λ e. rw (e home) (lit< tt)) (λ e. omega (arith, at_home n t long e, place_most d.turn.answer home)) fine.1);
      })

  call_fits :
      (a : Asked Matter) (pdu : List ℕ) (event : Event) (reply : List ℕ) → event_asked a pdu ≡ event → a.number < NUMBERS
      → length (bytes_at pdu a.block) < 8192 → Fits (called t store event reply).result
  unfolding whole_of event_asked
  call_fits a pdu event reply e h l = go (bad_call t (length store) (length reply)) refl
    where
      go : (b : Bool) → bad_call t (length store) (length reply) ≡ b → Fits (called t store event reply).result
      go true b = rw (refuses t store reply (stepped (state_of t store) event) b) (refused_fits t store BadCall)
      go false b =
          let p = proper t (length store) (length reply) b in
          rw (passes t store reply (stepped (state_of t store) event) b, ← e)
          (step_fits a.number a.matter (bytes_at pdu a.block) p.store_size p.sound h l)

-- ---- what a PDU asks

abbrev AskedSmall : List ℕ → Asked Matter → Type 0
AskedSmall pdu a = (a.number < NUMBERS) × (length (bytes_at pdu a.block) < 8192)

unread_small : (pdu : List ℕ) (why : Refusal) (carried : Option ℕ) → CarriesSmall carried → AskedSmall pdu (unread_ask why carried)
unfolding unread_ask bytes_at
unread_small pdu why None h = (lit< tt, lit< tt)
unread_small pdu why (Some n) h = (h, lit< tt)

heard_small : (list pdu : List ℕ) → Bytes pdu → (p : Pdu) → Brings pdu p → AskedSmall pdu (heard_in list pdu p)
unfolding heard_in bytes_at PDU_MAX
heard_small list pdu b (CreateRequest n class name) h = (h, lit< tt)
heard_small list pdu b (CreateResponse n status) h = (lit< tt, lit< tt)
heard_small list pdu b (DataFirst n len block) h = (h.0, omega (arith, block_length pdu block, h.1))
heard_small list pdu b (Data n block) h = (h.0, omega (arith, block_length pdu block, h.1))
heard_small list pdu b (Close n) h = (h, lit< tt)
heard_small list pdu b (CapsRequest version charges) h = (lit< tt, lit< tt)
heard_small list pdu b (CapsResponse version) h = (lit< tt, lit< tt)
heard_small list pdu b (NotRead why) h = unread_small pdu why (carries pdu) (carried_small pdu b)

-- ---- the calls, on any table of sixteen records: refusal 1 meets an unsound one

module _ (t : Table) (store : List ℕ) (long : length t.records ≡ PARTS) where
  pub received_fits : (list pdu reply : List ℕ) → Bytes pdu → Fits (received t store list pdu reply).result
  unfolding received
  received_fits list pdu reply b =
      let p = read_pdu true pdu in
      let a = heard_small list pdu b p (read_brings pdu b true) in
      call_fits t store long (heard_in list pdu p) pdu (event_of list pdu p) reply (event_asked_law list pdu p) a.0 a.1

  pub closed_fits : (n : ℕ) (reply : List ℕ) → n < NUMBERS → Fits (locally_closed t store n reply).result
  unfolding locally_closed closing_of bytes_at
  closed_fits n reply h = call_fits t store long (closing_of n) [] (Of n LocalClose) reply (event_closing n []) h (lit< tt)

  pub received_small : (list pdu reply : List ℕ) → Bytes pdu → Small (received t store list pdu reply).result.answer
  received_small list pdu reply b = (received_fits list pdu reply b).small

  pub closed_small : (n : ℕ) (reply : List ℕ) → n < NUMBERS → Small (locally_closed t store n reply).result.answer
  closed_small n reply h = (closed_fits n reply h).small
