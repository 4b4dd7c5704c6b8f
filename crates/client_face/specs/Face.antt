-- The client end as a host in C calls it: the table in bytes that the host lends, the answer in one number.
use Rattle.std.specs.Prelude.{ℕ, Bool, true, false, cond, not, ◌&&◌, ◌||◌, List, Option, eqb, ltb, length, None, Some}
use Rattle.paper.specs.Sizes.{PARTS, STORE, REPLY_MIN}
use Rattle.paper.specs.declared.Refusal.TheVariants.{BadCall}
use Rattle.lists.specs.Bytes.{laid}
use Rattle.reading.specs.Reading.{read_pdu}
use Rattle.channel.specs.declared.Answer.TheVariants.{Refused}
use Rattle.channel.specs.Answers.{concern_of}
use Rattle.deciding.specs.declared.Matter.{Matter}
use Rattle.table.specs.declared.Table.{Table}
use Rattle.client.specs.declared.Asked.{Asked}
use Rattle.client.specs.Events.{Event}
use Rattle.client.specs.Asking.{heard_in, closing_of}
use Rattle.client.specs.Client.{Stepped, Whole, place_for, called, received, locally_closed, started, store_started}
use Rattle.saved.specs.Saved.{STATE, CLIENT, saved, table_in, is_state, is_good}
use Rattle.packing.specs.Packing.{packed_answer}

-- what a call answers, with every byte of each buffer
pub record Faced : Type 0 where
  pub answer : ℕ
  pub state : List ℕ
  pub store : List ℕ
  pub reply : List ℕ

-- refusal 1, packed
unfoldable pub no_state : ℕ
no_state = packed_answer (Refused BadCall None) PARTS 0

-- a call on the table that a state tells. Bytes that are no state of the client: refusal 1, and every byte stays.
unfoldable pub faced : List ℕ → List ℕ → List ℕ → Whole → Faced
faced state store reply w =
    cond (is_state CLIENT false state)
    (record {
      answer = packed_answer w.result.answer w.result.place w.result.sent;
      state = saved CLIENT 0 w.result.table;
      store = w.store;
      reply = w.reply;
    })
    (record { answer = no_state; state = state; store = store; reply = reply })

unfoldable pub dvc_received : List ℕ → List ℕ → List ℕ → List ℕ → List ℕ → Faced
dvc_received state store list pdu reply = faced state store reply (received (table_in state) store list pdu reply)

unfoldable pub dvc_closed : List ℕ → List ℕ → ℕ → List ℕ → Faced
dvc_closed state store n reply = faced state store reply (locally_closed (table_in state) store n reply)

-- ---- Start, of either end

pub record Begins : Type 0 where
  pub answer : ℕ
  pub state : List ℕ
  pub store : List ℕ

-- 0, or refusal 1 where state or store is not of its size, and then every byte stays
unfoldable pub begins : ℕ → Table → List ℕ → List ℕ → Begins
begins mark table state store =
    cond (eqb (length state) STATE && eqb (length store) STORE)
    (record { answer = 0; state = saved mark 0 table; store = store_started store })
    (record { answer = 1; state = state; store = store })

unfoldable pub dvc_started : List ℕ → List ℕ → Begins
dvc_started state store = begins CLIENT (started store).table state store

-- ---- the same, as the code has it. Nobody need believe what follows: proofs/Calls shows that it is so.

-- what the host asks: a close of the number, if one is given, and else what the PDU asks
unfoldable pub asked_by : Option ℕ → List ℕ → List ℕ → Asked Matter
asked_by None list pdu = heard_in list pdu (read_pdu true pdu)
asked_by (Some n) list pdu = closing_of n

-- refusal 1: store or reply is not of its size, the bytes are no state of the end with this mark, or the table is unsound
unfoldable pub bad_face : ℕ → Bool → List ℕ → ℕ → ℕ → Bool
bad_face mark asks state storeSize replySize =
    not (eqb storeSize STORE) || (ltb replySize REPLY_MIN || not (is_good mark asks state))

-- a function gives a step: its answer, and every byte of the state, the store and the reply buffer
pub record Gives (s : Stepped) (reply : List ℕ) (r : ℕ) (stateAfter storeAfter replyAfter : List ℕ) : Type 0 where
  pub result : Path ℕ r (packed_answer s.answer (place_for s.state.table (concern_of s.answer)) (length s.reply))
  pub stated : Path (List ℕ) stateAfter (saved CLIENT 0 s.state.table)
  pub stored : Path (List ℕ) storeAfter s.state.store
  pub replied : Path (List ℕ) replyAfter (laid reply 0 s.reply)

-- a call in which the event happens
unfoldable pub faces : List ℕ → List ℕ → Event → List ℕ → Faced
faces state store event reply = faced state store reply (called (table_in state) store event reply)
