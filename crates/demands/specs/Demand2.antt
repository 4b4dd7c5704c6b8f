-- Demand 2, sentence by sentence.
use Rattle.std.specs.Prelude.{ℕ, ◌^◌, ◌≤◌, ◌<◌, ◌≡◌, ◌≢◌, Bool, true, false, List, ℤ, length}
use Rattle.std.specs.Int.{w32}
use Rattle.std.proofs.Common.{SFits}
use Rattle.paper.specs.Sizes.{PART, STORE, PDU_MAX, MESSAGE_MAX}
use Rattle.lists.specs.Bytes.{zeros}
use Rattle.numbers.specs.Numbers.{Bytes, NUMBERS, width_of, code_for, narrowest}
use Rattle.reading.specs.declared.Charges.{Charges}
use Rattle.reading.specs.Reading.{bad_version, read_pdu}
use Rattle.reading.specs.Grammar.{Value, create_request_law, create_response_law, data_first_law, data_block, close}
use Rattle.reading.specs.Grammar.{capabilities_request, capabilities_response, SmallCharges, NoZero, Encodes, Exactly}
use Rattle.laying.specs.Laying.{create_request_bytes, create_response_bytes, data_first_bytes, data_bytes, close_bytes}
use Rattle.laying.specs.Laying.{caps_request_bytes, caps_response_bytes}
use Rattle.writing.specs.Writing.{bad_request, bad_capabilities}
use Rattle.writing.specs.ReadBack.{ReadsBack}
use Rattle.channel.specs.declared.Record.{Record}
use Rattle.channel.specs.declared.Stage.TheVariants.{Idle}
use Rattle.channel.specs.Channel.{Act, Create, Shut, Open, blank, opened_record}
use Rattle.table.specs.declared.Table.{Table}
use Rattle.table.specs.Table.{empty_table, number_place, record_at}
use Rattle.store.specs.Parts.{part}
use Rattle.connection.specs.States.{State, view, Steady, FineAct}
use Rattle.client.specs.Events.{Event, Of, close_act, event_of, is_of}
use Rattle.client.specs.Client.{stepped, received, started, store_started}
use Rattle.steps.specs.States.{FineEvent, ruled}
use Rattle.demands.specs.Runs.{Call, after, event_in, own_events, event_meets_full, Running}
use Rattle.demands.specs.Cut.{Cut, CutByUs, CutFromC, NoneRefused, cut_events, HandedUpOnce}
use Rattle.demands.specs.Managers.{ours, Demand2Of}

-- "PDUs are read [..] as [MS-RDPEDYC] version 17.0 and the build paper define."
pub record PdusAreReadSo : Type 0 where
  -- reading answers values exactly if the bytes are an encoding of them, of at most 1,600 bytes
  pub exactly : (fromServer : Bool) (v : Value) (bytes : List ℕ) → Bytes bytes → Exactly fromServer v bytes
  -- no bytes say two things
  pub unambiguous :
      (fromServer : Bool) (v w : Value) (bytes : List ℕ) → Encodes fromServer v bytes → Encodes fromServer w bytes
      → length bytes ≤ PDU_MAX → v ≡ w
  -- "A channel number is its value: 5 in one byte and 5 in four bytes name one channel"; Sp is ignored: two PDUs of
  -- the same values are the same call, in the answer, the table and every byte
  pub by_value :
      (v : Value) (one two : List ℕ) → Encodes true v one → Encodes true v two
      → length one ≤ PDU_MAX → length two ≤ PDU_MAX
      → (t : Table) (store list reply : List ℕ) → received t store list one reply ≡ received t store list two reply

-- "PDUs are [..] written": what is laid for each kind is an encoding of its values, with Sp 0 and "in the narrowest
-- width"
pub record PdusAreWrittenSo : Type 0 where
  pub narrowest :
      (v code : ℕ) → code ≤ 2 → v < 256 ^ width_of code → (code_for v ≤ code) × (narrowest v ≤ width_of code)
  pub create_request_law :
      (n : ℕ) → n < NUMBERS → (class : ℕ) (name : List ℕ) → class ≤ 3 → NoZero name
      → Encodes true (create_request_law n class name) (create_request_bytes n class name)
  pub create_response_law :
      (n : ℕ) → n < NUMBERS → (status : ℤ) → SFits w32 status
      → Encodes false (create_response_law n status) (create_response_bytes n status)
  pub data_first_law :
      (n : ℕ) → n < NUMBERS → (fromServer : Bool) (len : ℕ) (block : List ℕ) → len < NUMBERS
      → Encodes fromServer (data_first_law n len block) (data_first_bytes n len block)
  pub data_block :
      (n : ℕ) → n < NUMBERS → (fromServer : Bool) (block : List ℕ)
      → Encodes fromServer (data_block n block) (data_bytes n block)
  pub close : (n : ℕ) → n < NUMBERS → (fromServer : Bool) → Encodes fromServer (close n) (close_bytes n)
  pub capabilities_request :
      (version : ℕ) (charges : Charges) → SmallCharges charges → bad_capabilities version charges ≡ false
      → Encodes true (capabilities_request version charges) (caps_request_bytes version charges)
  pub capabilities_response :
      (version : ℕ) → 1 ≤ version → version ≤ 3
      → Encodes false (capabilities_response version) (caps_response_bytes version)

-- "channels opened and closed, and messages [..] joined": the steps
pub record StepsAreSo : Type 0 where
  -- from every Start on, on any store of its size, every call of every run is told what the events say it should be
  pub every_call : (store : List ℕ) → length store ≡ STORE → Demand2Of (ours store)
  -- on any sound, ready table with any store of its size, a channel's event does what the rules of one channel say
  pub own :
      (st : State) → Steady st → (n : ℕ) (a : Act) → FineAct a
      → view n (stepped st (Of n a)).state ≡ (ruled n st a).view
  pub answer : (st : State) → Steady st → (n : ℕ) (a : Act) → (stepped st (Of n a)).answer ≡ (ruled n st a).answer
  pub reply : (st : State) → Steady st → (n : ℕ) (a : Act) → (stepped st (Of n a)).reply ≡ (ruled n st a).reply
  -- and leaves every other channel, and every byte outside its part
  pub others :
      (n : ℕ) (st : State) → Steady st → (e : Event) → FineEvent e → is_of n e ≡ false
      → view n (stepped st e).state ≡ view n st
  pub no_byte_outside :
      (n : ℕ) (st : State) → Steady st → (a : Act) → FineAct a → (j : ℕ) → j ≢ number_place n st.table
      → part (stepped st (Of n a)).state.store j ≡ part st.store j
  -- "the record is free again, every byte of its part becomes zero"
  pub close_frees :
      (n : ℕ) (st : State) → Steady st → (r : Record) (b : List ℕ) (local : Bool) → view n st ≡ Open r b
      → (record_at (stepped st (Of n (close_act local))).state.table (number_place n st.table) ≡ blank)
      × (part (stepped st (Of n (close_act local))).state.store (number_place n st.table) ≡ zeros PART)
  -- an opening finds the channel as one never used, its count 0, with the class by the level
  pub opening_is_new :
      (l : ℕ) (st : State) → Running l st → (c : Call) (n pri : ℕ) → FineAct (Create true pri)
      → event_in c.asked ≡ Of n (Create true pri) → view n st ≡ Shut
      → event_meets_full st (Of n (Create true pri)) ≡ false
      → view n (after st c) ≡ Open (opened_record l n pri) (zeros PART)
  -- the listener list "may differ from call to call, and that never touches an open channel"
  pub whatever_list :
      (st : State) → Steady st → (one two pdu : List ℕ) (n : ℕ) (r : Record) (b : List ℕ) → view n st ≡ Open r b
      → view n (stepped st (event_of one pdu (read_pdu true pdu))).state
      ≡ view n (stepped st (event_of two pdu (read_pdu true pdu))).state
  -- "Start writes zero to the whole store and gives an empty table"
  pub start :
      (store : List ℕ) → length store ≡ STORE → ((started store).table ≡ empty_table) × (store_started store ≡ zeros STORE)

-- for each kind, the bytes that its writer puts into any buffer are read back
pub record WrittenIsRead (Back : Bool → Bool → List ℕ → Value → Type 0) : Type 0 where
  pub create_request_law :
      (n class : ℕ) (name : List ℕ) → n < NUMBERS
      → Back true (bad_request class name) (create_request_bytes n class name) (create_request_law n class name)
  pub create_response_law :
      (n : ℕ) (status : ℤ) → n < NUMBERS → SFits w32 status
      → Back false false (create_response_bytes n status) (create_response_law n status)
  pub data_first_law :
      (fromServer : Bool) (n len : ℕ) (block : List ℕ) → n < NUMBERS → len < NUMBERS
      → Back fromServer false (data_first_bytes n len block) (data_first_law n len block)
  pub data_block :
      (fromServer : Bool) (n : ℕ) (block : List ℕ) → n < NUMBERS
      → Back fromServer false (data_bytes n block) (data_block n block)
  pub close : (fromServer : Bool) (n : ℕ) → n < NUMBERS → Back fromServer false (close_bytes n) (close n)
  pub capabilities_request :
      (version : ℕ) (charges : Charges) → SmallCharges charges
      → Back true (bad_capabilities version charges) (caps_request_bytes version charges)
      (capabilities_request version charges)
  pub capabilities_response :
      (version : ℕ) → Back false (bad_version version) (caps_response_bytes version) (capabilities_response version)

-- "What we write we read back as the same values"
abbrev pub WhatWeWriteWeReadBack : Type 0
WhatWeWriteWeReadBack = WrittenIsRead ReadsBack

-- "A message of up to 4,096 bytes, cut by us and received on an open, idle channel, is handed up once, with the
-- same bytes." Other channels' events may stand between, may be refused and may meet a full table; lists and reply
-- buffers may differ.
pub record CutByUsIsHandedUpOnce : Type 0 where
  -- cut by calls of `cut`, on any buffers of 1,600 bytes and more, none is refused and the length is reached
  pub none_refused :
      (n : ℕ) (m : List ℕ) → length m ≤ MESSAGE_MAX → (lent : ℕ → List ℕ) → ((at : ℕ) → PDU_MAX ≤ length (lent at))
      → NoneRefused (CutByUs n m lent)
  pub handed_up_once :
      (n : ℕ) (m : List ℕ) (lent : ℕ → List ℕ) (cs : List Cut) → n < NUMBERS → CutByUs n m lent cs
      → (st : State) → Steady st
      → (r : Record) (bytes : List ℕ) → view n st ≡ Open r bytes → r.stage ≡ Idle
      → (xs : List Call) → own_events n xs ≡ cut_events cs
      → HandedUpOnce n m cs r st xs
  -- the same of `dvc_cut`: what a host in C cuts is what we cut
  pub none_refused_from_c :
      (n : ℕ) (m : List ℕ) → length m ≤ MESSAGE_MAX → (lent : ℕ → List ℕ) → ((at : ℕ) → PDU_MAX ≤ length (lent at))
      → NoneRefused (CutFromC n m lent)
  pub from_c :
      (n : ℕ) (m : List ℕ) (lent : ℕ → List ℕ) (cs : List Cut) → CutFromC n m lent cs → CutByUs n m lent cs
