-- The shore end as a host in C calls it: what the host keeps in bytes that it lends, the answer in one number.
use Rattle.std.specs.Prelude.{ℕ, Bool, true, false, cond, not, ◌||◌, List, Option, None, Some, eqb, ltb, length}
use Rattle.paper.specs.Sizes.{PARTS, STORE, REPLY_MIN, PDU_MAX}
use Rattle.lists.specs.Bytes.{laid}
use Rattle.reading.specs.Reading.{read_pdu}
use Rattle.reading.specs.declared.Charges.{Charges}
use Rattle.shore.specs.declared.Shore.{Shore}
use Rattle.shore.specs.Saying.{concern_said}
use Rattle.shore.specs.declared.Matter.{Matter}
use Rattle.shore.specs.Events.{Event}
use Rattle.shore.specs.Asking.{heard_in, closing_of}
use Rattle.shore.specs.Shore.{Stepped, Whole, Sends, called, received, locally_closed, requested, locally_opened, started}
use Rattle.client.specs.declared.Asked.{Asked}
use Rattle.client.specs.Client.{place_for}
use Rattle.saved.specs.Saved.{SHORE, saved, table_in, asked_in, is_state, is_good}
use Rattle.packing.specs.Packing.{packed_said}
use Rattle.client_face.specs.Face.{Faced, Begins, begins, no_state}

-- what the bytes tell
unfoldable pub shore_in : List ℕ → Shore
shore_in state = record { table = table_in state; asked = asked_in state }

-- and its bytes
unfoldable pub saved_shore : Shore → List ℕ
saved_shore s = saved SHORE s.asked s.table

-- a call that is lent the store and the reply, on what a state tells. Bytes that are no state of the shore: refusal 1, and every byte
-- stays.
unfoldable pub faced : List ℕ → List ℕ → List ℕ → Whole → Faced
faced state store reply w =
    cond (is_state SHORE true state)
    (record {
      answer = packed_said w.result.said w.result.place w.result.sent;
      state = saved_shore w.result.shore;
      store = w.store;
      reply = w.reply;
    })
    (record { answer = no_state; state = state; store = store; reply = reply })

unfoldable pub dvc_shore_received : List ℕ → List ℕ → List ℕ → List ℕ → Faced
dvc_shore_received state store pdu reply = faced state store reply (received (shore_in state) store pdu reply)

unfoldable pub dvc_shore_closed : List ℕ → List ℕ → ℕ → List ℕ → Faced
dvc_shore_closed state store n reply = faced state store reply (locally_closed (shore_in state) store n reply)

-- ---- a call that is lent the buffer of a written PDU

pub record Wrote : Type 0 where
  pub answer : ℕ
  pub state : List ℕ
  pub out : List ℕ

unfoldable pub wrote : List ℕ → List ℕ → Sends → Wrote
wrote state out s =
    cond (is_state SHORE true state)
    (record {
      answer = packed_said s.result.said PARTS s.result.sent;
      state = saved_shore s.result.shore;
      out = s.out;
    })
    (record { answer = no_state; state = state; out = out })

unfoldable pub dvc_shore_requested : List ℕ → ℕ → Charges → List ℕ → Wrote
dvc_shore_requested state version charges out = wrote state out (requested (shore_in state) version charges out)

unfoldable pub dvc_shore_opened : List ℕ → List ℕ → ℕ → List ℕ → Wrote
dvc_shore_opened state name class out = wrote state out (locally_opened (shore_in state) name class out)

unfoldable pub dvc_shore_started : List ℕ → List ℕ → Begins
dvc_shore_started state store = begins SHORE (started store).shore.table state store

-- ---- the same, as the code has it. Nobody need believe what follows: proofs/Calls shows that it is so.

-- what the host asks: a close of the number, if one is given, and else what the PDU asks
unfoldable pub asked_by : Option ℕ → List ℕ → Asked Matter
asked_by None pdu = heard_in pdu (read_pdu false pdu)
asked_by (Some n) pdu = closing_of n

-- refusal 1 where a PDU is written: its buffer in place of store and reply
unfoldable pub bad_out_face : List ℕ → ℕ → Bool
bad_out_face state size = ltb size PDU_MAX || not (is_good SHORE true state)

-- a function gives a step: its answer, and every byte of the state, the store and the reply buffer
pub record Gives (s : Stepped) (reply : List ℕ) (r : ℕ) (stateAfter storeAfter replyAfter : List ℕ) : Type 0 where
  pub result : Path ℕ r (packed_said s.said (place_for s.state.shore.table (concern_said s.said)) (length s.sent))
  pub stated : Path (List ℕ) stateAfter (saved_shore s.state.shore)
  pub stored : Path (List ℕ) storeAfter s.state.store
  pub replied : Path (List ℕ) replyAfter (laid reply 0 s.sent)

-- a call in which the event happens
unfoldable pub faces : List ℕ → List ℕ → Event → List ℕ → Faced
faces state store event reply = faced state store reply (called (shore_in state) store event reply)
