-- PDUs received one by one on a channel that is open and idle, as the contract of `receive` says: what the host is told, and
-- which of the five reasons hold at a PDU.
use Rattle.std.specs.Prelude.{ℕ, suc, ◌≡◌, Bool, true, false, not, ◌&&◌, List, [], ◌∷◌, eqb, length}
use Rattle.reading.specs.Reading.{read_pdu}
use Rattle.reading.specs.declared.Pdu.{Pdu}
use Rattle.reading.specs.declared.Pdu.TheVariants.{CreateRequest, CreateResponse, DataFirst, Data, Close}
use Rattle.reading.specs.declared.Pdu.TheVariants.{CapsRequest, CapsResponse, Refused as Unread}
use Rattle.channel.specs.declared.Stage.TheVariants.{Idle}
use Rattle.channel.specs.declared.Record.{Record}
use Rattle.channel.specs.declared.Answer.{Answer}
use Rattle.channel.specs.declared.Answer.TheVariants.{Ready, Opened, Declined, Held, Message, Closed, Ignored, Refused}
use Rattle.channel.specs.Channel.{Open}
use Rattle.connection.specs.States.{State, view, Steady}
use Rattle.demands.specs.Runs.{Call, receives, after, told}
use Rattle.judge.specs.declared.Reason.{Reason}
use Rattle.judge.specs.declared.Reason.TheVariants.{Reading, Kind, OtherChannel, Steps, Before}

-- a sound and ready state of the client, with a store of its size, in which the channel is open and idle
pub record OpenAndIdle (n : ℕ) (st : State) : Type 0 where
  pub steady : Steady st
  pub row : Record
  pub part : List ℕ
  pub is_open_law : view n st ≡ Open row part
  pub is_idle : row.stage ≡ Idle

-- the calls are `receive` on the PDUs, one by one, each with a listener list and a proper reply buffer of its own
pub data Receives : List Call → List (List ℕ) → Type 0 where
  no_call : Receives [] []
  one_call :
      (c : Call) (list pdu : List ℕ) (cs : List Call) (pdus : List (List ℕ)) → c.asked ≡ receives list pdu → Receives cs pdus
      → Receives (c ∷ cs) (pdu ∷ pdus)

-- ---- what the host is told

-- held for that number at each PDU before the last, and at the last a message of that number with just those bytes
pub data HandsUp (n : ℕ) (m : List ℕ) : State → List Call → Type 0 where
  at_last :
      (st : State) (c : Call) → (told st c).answer ≡ Message n (length m) → (told st c).message ≡ m ∷ []
      → HandsUp n m st (c ∷ [])
  held_first :
      (st : State) (c : Call) (cs : List Call) (left : ℕ) → (told st c).answer ≡ Held n left → HandsUp n m (after st c) cs
      → HandsUp n m st (c ∷ cs)

-- held for that number at each PDU, if there is any
pub data AllHeld (n : ℕ) : State → List Call → Type 0 where
  no_more : (st : State) → AllHeld n st []
  held_too :
      (st : State) (c : Call) (cs : List Call) (left : ℕ) → (told st c).answer ≡ Held n left → AllHeld n (after st c) cs
      → AllHeld n st (c ∷ cs)

-- ---- the five reasons

-- "is refused in reading"
unfoldable pub is_unread : Pdu → Bool
is_unread (CreateRequest m class name) = false
is_unread (CreateResponse m status) = false
is_unread (DataFirst m len block) = false
is_unread (Data m block) = false
is_unread (Close m) = false
is_unread (CapsRequest version charges) = false
is_unread (CapsResponse version) = false
is_unread (Unread why) = true

-- "isn't data"
unfoldable pub is_data : Pdu → Bool
is_data (CreateRequest m class name) = false
is_data (CreateResponse m status) = false
is_data (DataFirst m len block) = true
is_data (Data m block) = true
is_data (Close m) = false
is_data (CapsRequest version charges) = false
is_data (CapsResponse version) = false
is_data (Unread why) = false

-- "is for another channel"
unfoldable pub is_anothers : ℕ → Pdu → Bool
is_anothers n (CreateRequest m class name) = not (eqb m n)
is_anothers n (CreateResponse m status) = not (eqb m n)
is_anothers n (DataFirst m len block) = not (eqb m n)
is_anothers n (Data m block) = not (eqb m n)
is_anothers n (Close m) = not (eqb m n)
is_anothers n (CapsRequest version charges) = false
is_anothers n (CapsResponse version) = false
is_anothers n (Unread why) = false

-- "is refused by the steps"
unfoldable pub is_refused : Answer → Bool
is_refused (Ready level) = false
is_refused (Opened m) = false
is_refused (Declined m why) = false
is_refused (Held m left) = false
is_refused (Message m len) = false
is_refused (Closed m) = false
is_refused (Ignored m) = false
is_refused (Refused why concern) = true

-- "hands up"
unfoldable pub is_message : Answer → Bool
is_message (Ready level) = false
is_message (Opened m) = false
is_message (Declined m why) = false
is_message (Held m left) = false
is_message (Message m len) = true
is_message (Closed m) = false
is_message (Ignored m) = false
is_message (Refused why concern) = false

abbrev pub follows : List (List ℕ) → Bool
follows [] = false
follows (pdu ∷ pdus) = true

-- whether a reason holds at a PDU, by what reading and `receive` answer, and by what follows
unfoldable pub holds : ℕ → List ℕ → List (List ℕ) → Answer → Reason → Bool
holds n pdu pdus answer Reading = is_unread (read_pdu true pdu)
holds n pdu pdus answer Kind = not (is_data (read_pdu true pdu))
holds n pdu pdus answer OtherChannel = is_anothers n (read_pdu true pdu)
holds n pdu pdus answer Steps = is_refused answer
holds n pdu pdus answer Before = is_message answer && follows pdus

-- "judged in that order": the five, and those before one of them
abbrev pub FIVE : List Reason
FIVE = Reading ∷ Kind ∷ OtherChannel ∷ Steps ∷ Before ∷ []

abbrev pub earlier : Reason → List Reason
earlier Reading = []
earlier Kind = Reading ∷ []
earlier OtherChannel = Reading ∷ Kind ∷ []
earlier Steps = Reading ∷ Kind ∷ OtherChannel ∷ []
earlier Before = Reading ∷ Kind ∷ OtherChannel ∷ Steps ∷ []

-- none of them holds
abbrev pub NoneOf : (Reason → Bool) → List Reason → Type 0
NoneOf h [] = Unit {0}
NoneOf h (why ∷ whys) = (h why ≡ false) × NoneOf h whys

-- the first PDU at which any of the five holds, counted from 0, and the first of the five that holds there
pub data FirstFault (n : ℕ) : State → List Call → List (List ℕ) → ℕ → Reason → Type 0 where
  here :
      (st : State) (c : Call) (cs : List Call) (pdu : List ℕ) (pdus : List (List ℕ)) (why : Reason)
      → holds n pdu pdus (told st c).answer why ≡ true → NoneOf (holds n pdu pdus (told st c).answer) (earlier why)
      → FirstFault n st (c ∷ cs) (pdu ∷ pdus) 0 why
  later :
      (st : State) (c : Call) (cs : List Call) (pdu : List ℕ) (pdus : List (List ℕ)) (k : ℕ) (why : Reason)
      → NoneOf (holds n pdu pdus (told st c).answer) FIVE → FirstFault n (after st c) cs pdus k why
      → FirstFault n st (c ∷ cs) (pdu ∷ pdus) (suc k) why
