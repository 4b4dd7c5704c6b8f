-- What a refusal leaves of what a C host lends: every byte of the store and the reply; and every byte of the state, but that the
-- listed refusals spoil the one record concerned.
use Rattle.std.specs.Prelude.{ℕ, ◌-◌, ◌*◌, ◌<◌, ◌≡◌, true, false, cond, ◌&&◌, List, Option, None}
use Rattle.paper.specs.Sizes.{PARTS}
use Rattle.paper.specs.declared.Refusal.{Refusal}
use Rattle.lists.specs.Bytes.{laid}
use Rattle.numbers.specs.Numbers.{Bytes, NUMBERS, bytes_of}
use Rattle.reading.specs.Reading.{read_pdu}
use Rattle.reading.specs.declared.Charges.{Charges}
use Rattle.channel.specs.declared.Stage.TheVariants.{Spoiled}
use Rattle.channel.specs.declared.Record.{Record}
use Rattle.channel.specs.declared.Answer.TheVariants.{Refused}
use Rattle.channel.specs.Channel.{LocalClose, restaged}
use Rattle.table.specs.Totals.{awaits, moved}
use Rattle.table.specs.Table.{number_place, record_at}
use Rattle.client.specs.Events.{Event, Unreadable, Capabilities, Of, event_of}
use Rattle.shore.specs.declared.Said.TheVariants as said
use Rattle.shore.specs.Rules.{Answered, Acts}
use Rattle.shore.specs.Events as shore
use Rattle.saved.specs.Saved.{AWAITED, ROW, CLIENT, SHORE, rest_of, word_at, table_in, is_state, is_good}
use Rattle.packing.specs.Unpacking.{sent_in, answer_in, said_in}
use Rattle.client_face.specs.Face.{Faced, no_state, dvc_received, dvc_closed}
use Rattle.shore_face.specs.Face.{Wrote, dvc_shore_received, dvc_shore_closed, dvc_shore_requested, dvc_shore_opened}
use Rattle.steps.specs.Rows.{is_open}
use Rattle.steps.specs.Refused.{spoils, concerned}
use Rattle.shore_demands.specs.Rows.{is_open_at}
use Rattle.shore_demands.specs.Refused as shores

-- ---- the one record spoiled

-- the record at place k as the bytes tell it, and the same spoiled: its number, class and count stay
abbrev pub row_at : List ℕ → ℕ → Record
row_at state k = record_at (table_in state) k

abbrev pub spoiled_row : List ℕ → ℕ → Record
spoiled_row state k = restaged (row_at state k) Spoiled

-- its first word, which has the stage
unfoldable pub stage_put : List ℕ → ℕ → List ℕ
stage_put state k = laid state (ROW * k) (bytes_of 4 (rest_of (spoiled_row state k)))

-- and the total of bytes awaited, without what was still to come of it
unfoldable pub spoiled_at : List ℕ → ℕ → List ℕ
spoiled_at state k = laid (stage_put state k) AWAITED (bytes_of 4 (moved (word_at state AWAITED) (awaits (row_at state k)) 0))

-- ---- the client

-- the state: as it was or, where the channel is open and the refusal spoils, with the one record spoiled
unfoldable pub left_in : Refusal → Event → List ℕ → List ℕ
left_in why (Unreadable w) state = state
left_in why (Capabilities version) state = state
left_in why (Of n a) state =
    cond (spoils why a && is_open (table_in state) n) (spoiled_at state (number_place n (table_in state))) state

-- a call with an event that was refused
pub record RefusedFace
    (state store reply : List ℕ) (e : Event) (f : Faced) (why : Refusal) (concern : Option ℕ) : Type 0 where
  pub stored : f.store ≡ store
  pub replied : f.reply ≡ reply
  pub none_sent : sent_in f.answer ≡ 0
  pub concerns : concern ≡ concerned why e
  pub left : f.state ≡ left_in why e state

pub record ARefusalLeavesTheState : Type 0 where
  pub receive :
      (state store list pdu reply : List ℕ) (why : Refusal) (concern : Option ℕ) → Bytes state → Bytes pdu
      → is_state CLIENT false state ≡ true → answer_in (dvc_received state store list pdu reply).answer ≡ Refused why concern
      → RefusedFace state store reply (event_of list pdu (read_pdu true pdu)) (dvc_received state store list pdu reply) why concern
  pub local_close :
      (state store : List ℕ) (n : ℕ) (reply : List ℕ) (why : Refusal) (concern : Option ℕ) → Bytes state → n < NUMBERS
      → is_state CLIENT false state ≡ true → answer_in (dvc_closed state store n reply).answer ≡ Refused why concern
      → RefusedFace state store reply (Of n LocalClose) (dvc_closed state store n reply) why concern
  -- bytes that are no state: refusal 1, and every byte stays
  pub receive_no_state :
      (state store list pdu reply : List ℕ) → is_state CLIENT false state ≡ false
      → dvc_received state store list pdu reply ≡ record { answer = no_state; state = state; store = store; reply = reply }
  pub local_close_no_state :
      (state store : List ℕ) (n : ℕ) (reply : List ℕ) → is_state CLIENT false state ≡ false
      → dvc_closed state store n reply ≡ record { answer = no_state; state = state; store = store; reply = reply }
  -- of a sound table the total is as many fewer as were still to come, and where it was not joining it stays
  pub fewer :
      (state : List ℕ) (k : ℕ) → Bytes state → is_good CLIENT false state ≡ true → k < PARTS
      → moved (word_at state AWAITED) (awaits (row_at state k)) 0 ≡ word_at state AWAITED - awaits (row_at state k)
  pub not_joining :
      (state : List ℕ) (k : ℕ) → Bytes state → is_state CLIENT false state ≡ true → k < PARTS → awaits (row_at state k) ≡ 0
      → spoiled_at state k ≡ stage_put state k

-- ---- the shore

unfoldable pub left_ashore : Refusal → shore.Event → List ℕ → List ℕ
left_ashore why (shore.Unreadable w) state = state
left_ashore why (shore.Asking version charges) state = state
left_ashore why (shore.Response version) state = state
left_ashore why (shore.Opening name class) state = state
left_ashore why (shore.Of n (Answered status)) state = state
left_ashore why (shore.Of n (Acts a)) state =
    cond (spoils why a && is_open_at (table_in state) n) (spoiled_at state (number_place n (table_in state))) state

pub record RefusedShoreFace
    (state store reply : List ℕ) (e : shore.Event) (f : Faced) (why : Refusal) (concern : Option ℕ) : Type 0 where
  pub stored : f.store ≡ store
  pub replied : f.reply ≡ reply
  pub none_sent : sent_in f.answer ≡ 0
  pub concerns : concern ≡ shores.concerned why e
  pub left : f.state ≡ left_ashore why e state

-- the request or a local open that was refused
pub record RefusedWriting (state out : List ℕ) (w : Wrote) (concern : Option ℕ) : Type 0 where
  pub kept : w.state ≡ state
  pub unwritten : w.out ≡ out
  pub none_sent : sent_in w.answer ≡ 0
  pub concerns : concern ≡ None

pub record ARefusalLeavesTheStateAshore : Type 0 where
  pub receive :
      (state store pdu reply : List ℕ) (why : Refusal) (concern : Option ℕ) → Bytes state → Bytes pdu
      → is_state SHORE true state ≡ true → said_in (dvc_shore_received state store pdu reply).answer ≡ said.Refused why concern
      → RefusedShoreFace state store reply (shore.event_of pdu (read_pdu false pdu)) (dvc_shore_received state store pdu reply) why concern
  pub local_close :
      (state store : List ℕ) (n : ℕ) (reply : List ℕ) (why : Refusal) (concern : Option ℕ) → Bytes state → n < NUMBERS
      → is_state SHORE true state ≡ true → said_in (dvc_shore_closed state store n reply).answer ≡ said.Refused why concern
      → RefusedShoreFace state store reply (shore.Of n (Acts LocalClose)) (dvc_shore_closed state store n reply) why concern
  pub request :
      (state : List ℕ) (version : ℕ) (charges : Charges) (out : List ℕ) (why : Refusal) (concern : Option ℕ) → Bytes state
      → is_state SHORE true state ≡ true
      → said_in (dvc_shore_requested state version charges out).answer ≡ said.Refused why concern
      → RefusedWriting state out (dvc_shore_requested state version charges out) concern
  pub local_open :
      (state name : List ℕ) (class : ℕ) (out : List ℕ) (why : Refusal) (concern : Option ℕ) → Bytes state
      → is_state SHORE true state ≡ true → said_in (dvc_shore_opened state name class out).answer ≡ said.Refused why concern
      → RefusedWriting state out (dvc_shore_opened state name class out) concern
  -- bytes that are no state: refusal 1, and every byte stays
  pub receive_no_state :
      (state store pdu reply : List ℕ) → is_state SHORE true state ≡ false
      → dvc_shore_received state store pdu reply ≡ record { answer = no_state; state = state; store = store; reply = reply }
  pub local_close_no_state :
      (state store : List ℕ) (n : ℕ) (reply : List ℕ) → is_state SHORE true state ≡ false
      → dvc_shore_closed state store n reply ≡ record { answer = no_state; state = state; store = store; reply = reply }
  pub request_no_state :
      (state : List ℕ) (version : ℕ) (charges : Charges) (out : List ℕ) → is_state SHORE true state ≡ false
      → dvc_shore_requested state version charges out ≡ record { answer = no_state; state = state; out = out }
  pub local_open_no_state :
      (state name : List ℕ) (class : ℕ) (out : List ℕ) → is_state SHORE true state ≡ false
      → dvc_shore_opened state name class out ≡ record { answer = no_state; state = state; out = out }
  pub fewer :
      (state : List ℕ) (k : ℕ) → Bytes state → is_good SHORE true state ≡ true → k < PARTS
      → moved (word_at state AWAITED) (awaits (row_at state k)) 0 ≡ word_at state AWAITED - awaits (row_at state k)
  pub not_joining :
      (state : List ℕ) (k : ℕ) → Bytes state → is_state SHORE true state ≡ true → k < PARTS → awaits (row_at state k) ≡ 0
      → spoiled_at state k ≡ stage_put state k
