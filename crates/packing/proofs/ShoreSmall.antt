-- Every answer of a call of the shore is small, what it sends fits its bits, and so does the place of a message: so its
-- number gives all of it back.
-- Assumes nothing.
use Rattle.std.specs.Prelude.{None, Some, Option}
use mathlib.Core.Path.{◌≡◌, refl, sym}
use mathlib.Core.Bool.{Bool, true, false, cond, not, ◌&&◌, ◌||◌}
use mathlib.Core.List.{List, []}
use mathlib.Core.Logic.{◌⊎◌, inl, inr, ⊎_elim}
use Prim.Native.Nat.{ℕ, zero, suc, ◌+◌, ◌≤◌, ◌<◌}
use native.Mathlib.Omega.{arith}
use borrow.Author.Tests.{ltb-false, eqb-true}
use lib.Dec.{eqb, ltb, lit<, lit≤}
use lib.IntN.{ℤ}
use lib.ListN.{length}
use Rattle.paper.specs.Sizes.{PDU_MAX, PARTS, STORE, REPLY_MIN}
use Rattle.paper.specs.declared.Refusal.{Refusal}
use Rattle.paper.specs.declared.Refusal.TheVariants.{BadCall, BadField, WrongTime, OverLimit, AllTaken, NotAwaited}
use Rattle.lists.proofs.Cases.{choice, true_not_false}
use Rattle.numbers.specs.Numbers.{Bytes, NUMBERS}
use Rattle.reading.specs.declared.Charges.{Charges}
use Rattle.reading.specs.declared.Pdu.{Pdu}
use Rattle.reading.specs.declared.Pdu.TheVariants.{CreateRequest, CreateResponse, DataFirst, Data, Close}
use Rattle.reading.specs.declared.Pdu.TheVariants.{CapsRequest, CapsResponse, Refused as NotRead}
use Rattle.reading.specs.Said.{bytes_at}
use Rattle.reading.specs.Garbled.{carries}
use Rattle.reading.specs.Reading.{bad_version, read_pdu}
use Rattle.reading.proofs.Placed.{good_version}
use Rattle.laying.specs.Laying.{create_request_bytes}
use Rattle.laying.proofs.Lengths.{length_caps_request}
use Rattle.writing.specs.Writing.{bad_request, all_zero, bad_capabilities}
use Rattle.channel.specs.declared.Record.{Record}
use Rattle.channel.specs.declared.Answer.{Answer}
use Rattle.channel.specs.declared.Answer.TheVariants as client
use Rattle.channel.specs.declared.Ask.TheVariants as ask
use Rattle.channel.specs.declared.Reply.{Reply}
use Rattle.channel.specs.Answers.{concern_of, number_of}
use Rattle.channel.specs.Channel.{LocalClose}
use Rattle.table.specs.declared.Table.{Table}
use Rattle.table.specs.Table.{number_place, record_at, home_place}
use Rattle.table.specs.Sound.{good_stage, sound_table}
use Rattle.table.proofs.Soundness.{sound_says}
use Rattle.deciding.specs.declared.Matter.TheVariants as matter
use Rattle.deciding.specs.declared.Decided as both
use Rattle.client.specs.Client.{bad_call}
use Rattle.client.proofs.Calls.{proper}
use Rattle.shore.specs.declared.Said.{Said}
use Rattle.shore.specs.declared.Said.TheVariants.{Asked, Ready, Awaited, Opened, Declined, Held, Message, Closed, Ignored, Refused}
use Rattle.shore.specs.declared.Shore.{Shore}
use Rattle.shore.specs.declared.Given.{Given}
use Rattle.shore.specs.declared.Sending.{Sending}
use Rattle.client.specs.declared.Asked.{Asked as Call}
use Rattle.shore.specs.declared.Matter.{Matter}
use Rattle.shore.specs.declared.Matter.TheVariants.{Unread, Caps, Status, Block, End}
use Rattle.shore.specs.declared.Decided.{Decided}
use Rattle.shore.specs.Saying.{concern_said, number_said, said_as}
use Rattle.shore.specs.Numbers.{least_from, least_number}
use Rattle.shore.specs.Rules.{Acts, is_below_zero}
use Rattle.shore.specs.Events.{Event, Of, event_of}
use Rattle.shore.specs.Asking.{told, event_asked, unread_heard, heard_in, closing_of}
use Rattle.shore.specs.Deciding.{responding, settling, seen_row, as_common, decided_of}
use Rattle.shore.specs.Shore.{Standing, standing, Stepped, refused, asking, class_in, number_next, all_taken, opening, stepped, result_of, whole_of}
use Rattle.shore.specs.Shore.{called, received, locally_closed, sends_of, bad_out, storeless, sending, requested, locally_opened}
use Rattle.shore.proofs.Calls.{refuses, passes, out_refuses, out_passes}
use Rattle.shore.proofs.Asking.{event_heard, event_closing}
use Rattle.shore.proofs.Deciding.{decided_step}
use Rattle.packing.specs.Packing.{channel_of, answer_place, said_place, packed_said}
use Rattle.packing.specs.Unpacking.{place_in, sent_in, said_in, SmallSaid}
use Rattle.packing.proofs.Unpacked.{said_back, said_sent, said_place_law}
use Rattle.packing.proofs.Own.{shore_place}
use Rattle.packing.proofs.Brought.{Brings, CarriesSmall, block_length, carried_small, read_brings}
use Rattle.packing.proofs.Small.{refusal_small, Fine, DecidedFine, decided_fine, reply_short, at_home}

-- ---- small answers

-- a refusal that concerns no channel
none_small : (why : Refusal) → SmallSaid (Refused why None)
unfolding concern_said channel_of number_said
none_small why = record { channel = lit< tt; number = refusal_small why }

ready_small : (level : ℕ) → level < 8192 → SmallSaid (Ready level)
unfolding concern_said channel_of number_said
ready_small level h = record { channel = lit< tt; number = h }

asked_small : (version : ℕ) → version < 8192 → SmallSaid (Asked version)
unfolding concern_said channel_of number_said
asked_small version h = record { channel = lit< tt; number = h }

-- those of a number
module _ (n : ℕ) (h : n < NUMBERS) where
  awaited_small : SmallSaid (Awaited n)
  unfolding concern_said channel_of number_said
  awaited_small = record { channel = h; number = lit< tt }

  opens_small : SmallSaid (Opened n)
  unfolding concern_said channel_of number_said
  opens_small = record { channel = h; number = lit< tt }

  declined_small : SmallSaid (Declined n)
  unfolding concern_said channel_of number_said
  declined_small = record { channel = h; number = lit< tt }

  unawaited_small : SmallSaid (Refused NotAwaited (Some n))
  unfolding concern_said channel_of number_said
  unawaited_small = record { channel = h; number = lit< tt }

-- ---- what is decided

-- a place is shown of an open channel only
abbrev Seated : Record → Said → Type 0
Seated row s = ((k : ℕ) → said_place s k ≡ 0) ⊎ (row.taken ≡ true)

abbrev SaidFine : Record → Said → Type 0
SaidFine row s = SmallSaid s × Seated row s

abbrev DecidedSaid : Record → Decided → Type 0
DecidedSaid row d = SaidFine row d.said

-- what both ends have in common, said at this end
said_fine : (row : Record) (a : Answer) → Fine row a → SaidFine row (said_as a)
unfolding said_as concern_of number_of concern_said number_said channel_of answer_place said_place
said_fine row (client.Ready level) f = (record { channel = f.0.channel; number = f.0.number }, f.1)
said_fine row (client.Opened n) f = (record { channel = f.0.channel; number = f.0.number }, f.1)
said_fine row (client.Declined n why) f = (record { channel = f.0.channel; number = lit< tt }, f.1)
said_fine row (client.Held n left) f = (record { channel = f.0.channel; number = f.0.number }, f.1)
said_fine row (client.Message n len) f = (record { channel = f.0.channel; number = f.0.number }, f.1)
said_fine row (client.Closed n) f = (record { channel = f.0.channel; number = f.0.number }, f.1)
said_fine row (client.Ignored n) f = (record { channel = f.0.channel; number = f.0.number }, f.1)
said_fine row (client.Refused why concern) f = (record { channel = f.0.channel; number = f.0.number }, f.1)

-- an awaited record is seen as a blank one
seen_taken : (row : Record) → (seen_row row).taken ≡ true → row.taken ≡ true
unfolding seen_row
seen_taken row =
    choice (λ (r : Record). r.taken ≡ true → row.taken ≡ true) row.awaited (λ e f. absurd (true_not_false (sym f))) (λ e f. f)

seen_stage : (row : Record) → good_stage row.stage ≡ true → good_stage (seen_row row).stage ≡ true
unfolding seen_row good_stage
seen_stage row g = choice (λ (r : Record). good_stage r.stage ≡ true) row.awaited (λ e. refl) (λ e. g)

common_fine : (row : Record) (d : both.Decided) (reply : Reply) → DecidedFine (seen_row row) d → DecidedSaid row (as_common d reply)
unfolding as_common
common_fine row d reply f =
    let s = said_fine (seen_row row) d.turn.answer f in
    (s.0, ⊎_elim (λ e. inl e) (λ e. inr (seen_taken row e)) s.1)

responds_fine : (row : Record) (asked : ℕ) (ready : Bool) (level version : ℕ) → DecidedSaid row (responding asked ready level version)
unfolding responding said_place
responds_fine row asked ready level version =
    choice (DecidedSaid row) (ready || eqb asked 0) (λ e. (none_small WrongTime, inl (λ k. refl)))
    (λ e. (ready_small _ (omega arith), inl (λ k. refl)))

settles_fine : (row : Record) (ready : Bool) (level n : ℕ) → n < NUMBERS → (status : ℤ) → DecidedSaid row (settling ready level n row status)
unfolding settling said_place
settles_fine row ready level n h status =
    choice (DecidedSaid row) ready
    (λ e. choice (DecidedSaid row) (row.taken && row.awaited)
    (λ f. choice (DecidedSaid row) (is_below_zero status) (λ g. (declined_small n h, inl (λ k. refl))) (λ g. (opens_small n h, inl (λ k. refl))))
    (λ f. (unawaited_small n h, inl (λ k. refl))))
    (λ e. (none_small WrongTime, inl (λ k. refl)))

shore_fine :
    (asked : ℕ) (ready : Bool) (level n : ℕ) (room : Bool) (row : Record) (m : Matter) (len : ℕ) → n < NUMBERS
    → good_stage row.stage ≡ true → len < 8192 → DecidedSaid row (decided_of asked ready level n room row m len)
unfolding decided_of
shore_fine asked ready level n room row (Unread why whole) len h g l =
    common_fine row _ _ (decided_fine level n room (seen_row row) h ready (matter.Unread why whole) len (seen_stage row g) l)
shore_fine asked ready level n room row (Caps version) len h g l = responds_fine row asked ready level version
shore_fine asked ready level n room row (Status status) len h g l = settles_fine row ready level n h status
shore_fine asked ready level n room row (Block offer) len h g l =
    common_fine row _ _ (decided_fine level n room (seen_row row) h ready (matter.Asks (ask.Block offer)) len (seen_stage row g) l)
shore_fine asked ready level n room row (End local) len h g l =
    common_fine row _ _ (decided_fine level n room (seen_row row) h ready (matter.Asks (ask.End local)) len (seen_stage row g) l)

-- ---- steps and calls

place_most : (s : Said) (k : ℕ) → said_place s k ≤ k
unfolding said_place
place_most (Asked version) k = omega arith
place_most (Ready level) k = omega arith
place_most (Awaited n) k = omega arith
place_most (Opened n) k = omega arith
place_most (Declined n) k = omega arith
place_most (Held n left) k = omega arith
place_most (Message n len) k = omega arith
place_most (Closed n) k = omega arith
place_most (Ignored n) k = omega arith
place_most (Refused why concern) k = omega arith

-- an answer, how many bytes are sent and the place fit their bits
pub record Fits (s : Said) (count k : ℕ) : Type 0 where
  pub small : SmallSaid s
  pub sent : count ≤ PDU_MAX
  pub place : said_place s k < 16

-- so they are got back
pub fits_back :
    (s : Said) (sent place : ℕ) → Fits s sent place
    → (said_in (packed_said s place sent) ≡ s) × (sent_in (packed_said s place sent) ≡ sent)
    × (place_in (packed_said s place sent) ≡ said_place s place)
unfolding PDU_MAX
fits_back s sent place f = (
  said_back s place sent f.small,
  said_sent s place sent f.small (omega (arith, f.sent)),
  said_place_law s place sent f.small f.place,
)

abbrev pub GivenFits : Given → Type 0
GivenFits g = Fits g.said g.sent g.place

refused_fits : (st : Standing) (why : Refusal) → GivenFits (result_of (refused st why))
unfolding said_place PDU_MAX
refused_fits st why = record { small = none_small why; sent = lit≤ tt; place = lit< tt }

module _ (s : Shore) (store : List ℕ) (long : length s.table.records ≡ PARTS) where
  pub step_fits :
      (n : ℕ) (m : Matter) (block : List ℕ) → length store ≡ STORE → sound_table s.table ≡ true → n < NUMBERS → length block < 8192
      → GivenFits (result_of (stepped (standing s store) (told n m block)))
  unfolding PDU_MAX PARTS REPLY_MIN
  step_fits n m block size sound h l =
      let t = s.table in
      let row = record_at t (number_place n t) in
      let home = home_place n t in
      let d = decided_of s.asked t.ready t.level n (ltb home PARTS) row m (length block) in
      let step = decided_step n t s.asked store long size sound m block in
      let fine = shore_fine s.asked t.ready t.level n (ltb home PARTS) row m (length block) h ((sound_says t sound).stage (number_place n t)) l in
      let shown = shore_place s.asked t.ready t.level n (ltb home PARTS) row m (length block) home in
      rw (step.0, ← step.1) (record {
        small = fine.0;
        sent = omega (arith, reply_short n d.reply);
        place = rw (← shown) (⊎_elim (λ e. rw (e home) (lit< tt)) (λ e. omega (arith, at_home n t long e, place_most d.said home)) fine.1);
      })

  call_fits :
      (a : Call Matter) (pdu : List ℕ) (event : Event) (reply : List ℕ) → event_asked a pdu ≡ event → a.number < NUMBERS
      → length (bytes_at pdu a.block) < 8192 → GivenFits (called s store event reply).result
  unfolding whole_of event_asked
  call_fits a pdu event reply e h l = go (bad_call s.table (length store) (length reply)) refl
    where
      go : (b : Bool) → bad_call s.table (length store) (length reply) ≡ b → GivenFits (called s store event reply).result
      go true b = rw (refuses s store reply (stepped (standing s store) event) b) (refused_fits (standing s store) BadCall)
      go false b =
          let p = proper s.table (length store) (length reply) b in
          rw (passes s store reply (stepped (standing s store) event) b, ← e)
          (step_fits a.number a.matter (bytes_at pdu a.block) p.store_size p.sound h l)

-- ---- what a PDU asks

abbrev HeardSmall : List ℕ → Call Matter → Type 0
HeardSmall pdu a = (a.number < NUMBERS) × (length (bytes_at pdu a.block) < 8192)

unread_small : (pdu : List ℕ) (why : Refusal) (carried : Option ℕ) → CarriesSmall carried → HeardSmall pdu (unread_heard why carried)
unfolding unread_heard bytes_at
unread_small pdu why None h = (lit< tt, lit< tt)
unread_small pdu why (Some n) h = (h, lit< tt)

heard_small : (pdu : List ℕ) → Bytes pdu → (p : Pdu) → Brings pdu p → HeardSmall pdu (heard_in pdu p)
unfolding heard_in bytes_at PDU_MAX
heard_small pdu b (CreateRequest n class name) h = (lit< tt, lit< tt)
heard_small pdu b (CreateResponse n status) h = (h, lit< tt)
heard_small pdu b (DataFirst n len block) h = (h.0, omega (arith, block_length pdu block, h.1))
heard_small pdu b (Data n block) h = (h.0, omega (arith, block_length pdu block, h.1))
heard_small pdu b (Close n) h = (h, lit< tt)
heard_small pdu b (CapsRequest version charges) h = (lit< tt, lit< tt)
heard_small pdu b (CapsResponse version) h = (lit< tt, lit< tt)
heard_small pdu b (NotRead why) h = unread_small pdu why (carries pdu) (carried_small pdu b)

-- ---- the calls that are lent the store, on any table of sixteen records: refusal 1 meets an unsound one

module _ (s : Shore) (store : List ℕ) (long : length s.table.records ≡ PARTS) where
  pub received_fits : (pdu reply : List ℕ) → Bytes pdu → GivenFits (received s store pdu reply).result
  unfolding received
  received_fits pdu reply b =
      let p = read_pdu false pdu in
      let a = heard_small pdu b p (read_brings pdu b false) in
      call_fits s store long (heard_in pdu p) pdu (event_of pdu p) reply (event_heard pdu p) a.0 a.1

  pub closed_fits : (n : ℕ) (reply : List ℕ) → n < NUMBERS → GivenFits (locally_closed s store n reply).result
  unfolding locally_closed closing_of bytes_at
  closed_fits n reply h = call_fits s store long (closing_of n) [] (Of n (Acts LocalClose)) reply (event_closing n []) h (lit< tt)

  pub received_small : (pdu reply : List ℕ) → Bytes pdu → SmallSaid (received s store pdu reply).result.said
  received_small pdu reply b = (received_fits pdu reply b).small

  pub closed_small : (n : ℕ) (reply : List ℕ) → n < NUMBERS → SmallSaid (locally_closed s store n reply).result.said
  closed_small n reply h = (closed_fits n reply h).small

-- ---- the request and a local open: no place is shown

abbrev StepFits : Stepped → Type 0
StepFits s = Fits s.said (length s.sent) 0

abbrev pub SendingFits : Sending → Type 0
SendingFits r = Fits r.said r.sent 0

unsent_fits : (st : Standing) (why : Refusal) → StepFits (refused st why)
unfolding said_place PDU_MAX
unsent_fits st why = record { small = none_small why; sent = lit≤ tt; place = lit< tt }

sending_fits : (s : Shore) (out : List ℕ) (step : Stepped) → StepFits step → SendingFits (sending s out step).result
unfolding sends_of
sending_fits s out step f = go (bad_out s.table (length out)) refl
  where
    go : (b : Bool) → bad_out s.table (length out) ≡ b → SendingFits (sending s out step).result
    go true b = rw (out_refuses s out step b) (unsent_fits (storeless s) BadCall)
    go false b = rw (out_passes s out step b) f

-- a version that may be asked is 1 to 3
fair_version : (version : ℕ) (charges : Charges) → bad_capabilities version charges ≡ false → version ≤ 3
unfolding bad_capabilities
fair_version version charges e = go (eqb version 1) refl e
  where
    go : (b : Bool) → eqb version 1 ≡ b → cond b (not (all_zero charges)) (bad_version version) ≡ false → version ≤ 3
    go true f g = omega (arith, eqb-true version 1 f)
    go false f g = (good_version version g).1

request_short : (version : ℕ) → cond (eqb version 1) 4 12 ≤ PDU_MAX
unfolding PDU_MAX
request_short version = choice (λ (k : ℕ). k ≤ PDU_MAX) (eqb version 1) (λ e. lit≤ tt) (λ e. lit≤ tt)

asking_fits : (st : Standing) (version : ℕ) (charges : Charges) → StepFits (asking st version charges)
unfolding asking said_place
asking_fits st version charges =
    choice StepFits (not (eqb st.shore.asked 0)) (λ e. unsent_fits st WrongTime)
    (λ e. choice StepFits (bad_capabilities version charges) (λ f. unsent_fits st BadField)
    (λ f. record {
      small = asked_small version (omega (arith, fair_version version charges f));
      sent = rw (length_caps_request version charges) (request_short version);
      place = lit< tt;
    }))

-- a number that the shore opens is 17 at most
least_most : (left k : ℕ) (t : Table) → least_from left k t ≤ k + left
unfolding least_from
least_most zero k t = omega arith
least_most (suc left) k t =
    choice (λ (n : ℕ). n ≤ k + suc left) (ltb (number_place k t) PARTS) (λ e. omega (arith, least_most left (k + 1) t)) (λ e. omega arith)

pub next_small : (t : Table) → least_number t ≤ 17
unfolding least_number PARTS
next_small t = least_most 16 1 t

opening_fits : (st : Standing) (name : List ℕ) (class : ℕ) → StepFits (opening st name class)
unfolding opening said_place
opening_fits st name class =
    let n = number_next st in
    let pdu = create_request_bytes n (class_in st class) name in
    choice StepFits (not st.shore.table.ready) (λ e. unsent_fits st WrongTime)
    (λ e. choice StepFits (all_taken st.shore.table) (λ f. unsent_fits st AllTaken)
    (λ f. choice StepFits (bad_request (class_in st class) name) (λ g. unsent_fits st BadField)
    (λ g. choice StepFits (ltb PDU_MAX (length pdu)) (λ i. unsent_fits st OverLimit)
    (λ i. record {
      small = awaited_small n (omega (arith, next_small st.shore.table));
      sent = ltb-false PDU_MAX (length pdu) i;
      place = lit< tt;
    }))))

module _ (s : Shore) where
  pub requested_fits : (version : ℕ) (charges : Charges) (out : List ℕ) → SendingFits (requested s version charges out).result
  unfolding requested
  requested_fits version charges out = sending_fits s out (asking (storeless s) version charges) (asking_fits (storeless s) version charges)

  pub opened_fits : (name : List ℕ) (class : ℕ) (out : List ℕ) → SendingFits (locally_opened s name class out).result
  unfolding locally_opened
  opened_fits name class out = sending_fits s out (opening (storeless s) name class) (opening_fits (storeless s) name class)

  pub requested_small : (version : ℕ) (charges : Charges) (out : List ℕ) → SmallSaid (requested s version charges out).result.said
  requested_small version charges out = (requested_fits version charges out).small

  pub opened_small : (name : List ℕ) (class : ℕ) (out : List ℕ) → SmallSaid (locally_opened s name class out).result.said
  opened_small name class out = (opened_fits name class out).small
