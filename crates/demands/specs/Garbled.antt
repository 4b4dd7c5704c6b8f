-- Garbled blocks: which PDUs they are, whose events, what they do; and the fault that they are about: "A cut-off Data First
-- came in, was refused with 2, and the Data behind it went up as a command."
use Rattle.std.specs.Prelude.{ℕ, ◌≤◌, ◌<◌, ◌≡◌, Bool, true, false, List, [], ◌∷◌, length, None, Some}
use Rattle.paper.specs.Commands.{DATA_FIRST}
use Rattle.paper.specs.declared.Refusal.{Refusal}
use Rattle.paper.specs.declared.Refusal.TheVariants.{CutShort}
use Rattle.numbers.specs.Numbers.{Bytes, width_of}
use Rattle.reading.specs.Reading.{read_pdu}
use Rattle.reading.specs.Grammar.{InWidth, carrying}
use Rattle.reading.specs.Garbled.{carries, CarriesExactly}
use Rattle.reading.specs.declared.Pdu.TheVariants.{Refused as NotRead}
use Rattle.channel.specs.declared.Stage.TheVariants.{Spoiled}
use Rattle.channel.specs.declared.Record.{Record}
use Rattle.channel.specs.declared.Answer.{Answer}
use Rattle.channel.specs.declared.Answer.TheVariants.{Ready, Opened, Declined, Held, Message, Closed, Ignored, Refused}
use Rattle.channel.specs.Channel.{Act, BadCreate, Create, Bring, Garbled, Closing, LocalClose, Shut, Open, restaged}
use Rattle.connection.specs.States.{State, view, Steady}
use Rattle.client.specs.Events.{Event, Unreadable, Capabilities, Of, event_of, is_of}
use Rattle.client.specs.Client.{refused, stepped}
use Rattle.demands.specs.Runs.{receives, Call, after, Told, told, told_to, ends, own_events, JustReady}
use Rattle.demands.specs.Telling.{tells_none}

-- "a PDU of command 2, 3, 6 or 7 is refused while being read, yet its channel number stands in it whole"
pub record IsGarbled (n : ℕ) (pdu : List ℕ) (why : Refusal) : Type 0 where
  pub refused : read_pdu true pdu ≡ NotRead why
  pub whole : carries pdu ≡ Some n

pub record WhichAreGarbled : Type 0 where
  -- where a number stands whole, by the bytes alone
  pub whole_numbers : (n : ℕ) (pdu : List ℕ) → Bytes pdu → CarriesExactly n pdu
  -- these PDUs, and no others, are garbled blocks of the channel with the number
  pub only_these :
      (list pdu : List ℕ) (n : ℕ) (why : Refusal) → event_of list pdu (read_pdu true pdu) ≡ Of n (Garbled why)
      → IsGarbled n pdu why
  pub all_these :
      (list pdu : List ℕ) (n : ℕ) (why : Refusal) → IsGarbled n pdu why
      → event_of list pdu (read_pdu true pdu) ≡ Of n (Garbled why)
  -- "any PDU of these commands with its number whole is an event of that channel", readable or not
  pub own_events_law :
      (list pdu : List ℕ) (n : ℕ) → carries pdu ≡ Some n → is_of n (event_of list pdu (read_pdu true pdu)) ≡ true
  -- a Data First that ends before its Length does is one
  pub a_data_first_cut_off :
      (n code lengthCode : ℕ) (rest : List ℕ) → InWidth code n → lengthCode ≤ 2 → length rest < width_of lengthCode
      → IsGarbled n (carrying code DATA_FIRST lengthCode n rest) CutShort

-- "When we are ready [..] and that channel is open, the channel is spoiled." Else nothing changes, and the answer is the
-- refusal of reading all the same
pub record AGarbledBlockSpoils : Type 0 where
  pub spoils :
      (n : ℕ) (why : Refusal) (st : State) → Steady st → (r : Record) (b : List ℕ) → view n st ≡ Open r b
      → view n (stepped st (Of n (Garbled why))).state ≡ Open (restaged r Spoiled) b
  pub answers :
      (n : ℕ) (why : Refusal) (st : State) → Steady st → (stepped st (Of n (Garbled why))).answer ≡ Refused why None
  pub spoiled_already :
      (n : ℕ) (why : Refusal) (st : State) → Steady st → (r : Record) (b : List ℕ) → view n st ≡ Open r b
      → r.stage ≡ Spoiled → (stepped st (Of n (Garbled why))).state ≡ st
  pub not_open :
      (n : ℕ) (why : Refusal) (st : State) → Steady st → view n st ≡ Shut
      → stepped st (Of n (Garbled why)) ≡ refused st why
  pub not_ready :
      (n : ℕ) (why : Refusal) (st : State) → st.table.ready ≡ false → stepped st (Of n (Garbled why)) ≡ refused st why

-- ---- no half message

-- all that is told is so
abbrev pub AllTold : (Told → Type 0) → List Told → Type 0
AllTold P [] = Unit {0}
AllTold P (t ∷ ts) = P t × AllTold P ts

abbrev pub NothingUp : Told → Type 0
NothingUp t = t.message ≡ []

abbrev pub is_opened : Answer → Bool
is_opened (Ready level) = false
is_opened (Opened n) = true
is_opened (Declined n why) = false
is_opened (Held n left) = false
is_opened (Message n len) = false
is_opened (Closed n) = false
is_opened (Ignored n) = false
is_opened (Refused why concern) = false

abbrev pub NotOpened : Told → Type 0
NotOpened t = is_opened t.answer ≡ false

-- a close, by the server or by the host
abbrev pub asks_close : Act → Bool
asks_close BadCreate = false
asks_close (Create listed pri) = false
asks_close (Bring offer bytes) = false
asks_close (Garbled why) = false
asks_close Closing = true
asks_close LocalClose = true

abbrev pub is_close : Event → Bool
is_close (Unreadable why) = false
is_close (Capabilities version) = false
is_close (Of n a) = asks_close a

abbrev pub NeverClosed : List Event → Type 0
NeverClosed [] = Unit {0}
NeverClosed (e ∷ es) = (is_close e ≡ false) × NeverClosed es

-- a garbled block on an open channel, and then a run: "hands up nothing until it has been closed and opened again"
pub record NoHalfMessage (n : ℕ) (st : State) (c : Call) (why : Refusal) (xs : List Call) : Type 0 where
  -- the block itself: the refusal of reading, and nothing else
  pub refused_as_read : told st c ≡ tells_none (Refused why None)
  -- until it is opened again nothing goes up on that channel, whatever follows on it and on others
  pub nothing_up : AllTold NotOpened (told_to n (after st c) xs) → AllTold NothingUp (told_to n (after st c) xs)
  -- and it isn't opened again before it is closed
  pub closed_first : NeverClosed (own_events n xs) → AllTold NotOpened (told_to n (after st c) xs)

abbrev pub NoHalfMessageIsHandedUp : Type 0
NoHalfMessageIsHandedUp =
    (st : State) → JustReady st → (before : List Call) (c : Call) (list pdu : List ℕ) → c.asked ≡ receives list pdu
    → (n : ℕ) (why : Refusal) → IsGarbled n pdu why
    → (r : Record) (b : List ℕ) → view n (ends st before) ≡ Open r b
    → (xs : List Call) → NoHalfMessage n (ends st before) c why xs
