-- "With a panel end joined to it in order and without loss, and proper buffers and lists at both, both have the same open
-- numbers once every sent PDU has been received."
use Rattle.std.specs.Prelude.{ℕ, ◌≤◌, ◌<◌, ◌≡◌, ◌≢◌, true, false, List, [], ◌∷◌, length, take, Option, Ok}
use Rattle.paper.specs.Sizes.{STORE, REPLY_MIN}
use Rattle.paper.specs.declared.Refusal.{Refusal}
use Rattle.paper.specs.declared.Refusal.TheVariants.{AlreadyOpen, NotAwaited}
use Rattle.numbers.specs.Numbers.{NUMBERS}
use Rattle.reading.specs.Reading.{read_pdu}
use Rattle.reading.specs.declared.Pdu.TheVariants as read
use Rattle.laying.specs.Laying.{buffer_after, data_first_bytes, data_bytes}
use Rattle.writing.specs.Writing.{written, outcome}
use Rattle.listeners.specs.Listeners.{good_list}
use Rattle.channel.specs.declared.Record.{Record}
use Rattle.channel.specs.declared.Answer.TheVariants as answer
use Rattle.channel.specs.Channel.{Open}
use Rattle.connection.specs.States.{view}
use Rattle.demands.specs.Runs as panel
use Rattle.demands.specs.Cut.{Cut, CutByUs}
use Rattle.shore.specs.declared.Said.TheVariants as said
use Rattle.shore.specs.Shore.{state_in}
use Rattle.shore_demands.specs.Runs as shore
use Rattle.joined.specs.Ends.{Move, AllProper, HostData, reached, open_at_shore, open_at_panel}

-- a PDU stands in a queue
pub data OnItsWay (pdu : List ℕ) : List (List ℕ) → Type 0 where
  first : {rest : List (List ℕ)} → OnItsWay pdu (pdu ∷ rest)
  later : {other : List ℕ} {rest : List (List ℕ)} → OnItsWay pdu rest → OnItsWay pdu (other ∷ rest)

-- what is cut, one of the PDUs
pub data OneOf (c : Cut) : List Cut → Type 0 where
  here : {cs : List Cut} → OneOf c (c ∷ cs)
  there : {d : Cut} {cs : List Cut} → OneOf c cs → OneOf c (d ∷ cs)

-- whatever came about from Start at both ends
module _ (one two : List ℕ) (ms : List Move) where
  pub record AtAnyTime : Type 0 where
    -- "refusals 9 (panel) and 16 (shore) never come up"
    pub never_9 :
        (pdu : List ℕ) (rest : List (List ℕ)) → (reached one two ms).down ≡ (pdu ∷ rest)
        → (list buffer : List ℕ) → good_list list ≡ true → REPLY_MIN ≤ length buffer → (concern : Option ℕ)
        → (panel.gives (reached one two ms).panel (panel.receives list pdu) buffer).result.answer
        ≢ answer.Refused AlreadyOpen concern
    pub never_16 :
        (pdu : List ℕ) (rest : List (List ℕ)) → (reached one two ms).up ≡ (pdu ∷ rest)
        → (buffer : List ℕ) → REPLY_MIN ≤ length buffer → (concern : Option ℕ)
        → (shore.gives (reached one two ms).shore (shore.receives pdu) buffer).said ≢ said.Refused NotAwaited concern
    -- no PDU is refused in reading by the other end
    pub panel_reads :
        (pdu : List ℕ) → OnItsWay pdu (reached one two ms).down → (why : Refusal) → read_pdu true pdu ≢ read.Refused why
    pub shore_reads :
        (pdu : List ℕ) → OnItsWay pdu (reached one two ms).up → (why : Refusal) → read_pdu false pdu ≢ read.Refused why

pub record JoinedEnds : Type 0 where
  pub same_open_numbers :
      (one two : List ℕ) → length one ≡ STORE → length two ≡ STORE → (ms : List Move) → AllProper ms
      → (reached one two ms).down ≡ [] → (reached one two ms).up ≡ []
      → (n : ℕ) → open_at_shore n (reached one two ms) ≡ open_at_panel n (reached one two ms)
  -- and no number is awaited then
  pub none_awaited :
      (one two : List ℕ) → length one ≡ STORE → length two ≡ STORE → (ms : List Move) → AllProper ms
      → (reached one two ms).down ≡ [] → (reached one two ms).up ≡ []
      → (n : ℕ) (r : Record) (bytes : List ℕ) → view n (state_in (reached one two ms).shore) ≡ Open r bytes
      → r.awaited ≡ false
  pub at_any_time :
      (one two : List ℕ) → length one ≡ STORE → length two ≡ STORE → (ms : List Move) → AllProper ms
      → AtAnyTime one two ms
  -- what our writers write is such data, and what we cut
  pub written_first :
      (n len : ℕ) (block out : List ℕ) (k : ℕ) → n < NUMBERS → len < NUMBERS
      → written false (data_first_bytes n len block) out ≡ Ok k
      → HostData (take k (buffer_after (outcome (written false (data_first_bytes n len block) out)) (data_first_bytes n len block) out))
  pub written_data :
      (n : ℕ) (block out : List ℕ) (k : ℕ) → n < NUMBERS → written false (data_bytes n block) out ≡ Ok k
      → HostData (take k (buffer_after (outcome (written false (data_bytes n block) out)) (data_bytes n block) out))
  pub cut_by_us :
      (n : ℕ) (m : List ℕ) (lent : ℕ → List ℕ) (cs : List Cut) → n < NUMBERS → CutByUs n m lent cs
      → (c : Cut) → OneOf c cs → HostData c.pdu
