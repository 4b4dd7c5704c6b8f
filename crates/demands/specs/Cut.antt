-- Demand 2's message: "cut by us and received on an open, idle channel". Cut by us is calls of `cut` as its
-- contract gives them, one after the other; no other iteration of cutting is meant anywhere.
use Rattle.std.specs.Prelude.{ℕ, ◌-◌, ◌≤◌, ◌<◌, ◌≡◌, true, cond, List, [], ◌∷◌, map, ltb, length, take, Ok, Result}
use Rattle.reading.specs.Reading.{read_pdu}
use Rattle.channel.specs.declared.Record.{Record}
use Rattle.channel.specs.declared.Stage.TheVariants.{Idle}
use Rattle.channel.specs.declared.Answer.TheVariants.{Held, Message}
use Rattle.channel.specs.Channel.{Open, rebuilt}
use Rattle.connection.specs.States.{State, view}
use Rattle.client.specs.Events.{Event, event_of}
use Rattle.paper.specs.declared.Refusal.{Refusal}
use Rattle.cutting.specs.Cutting.{cut_at, cut_buffer, packed, unpacked, piece_of}
use Rattle.cutting.specs.declared.Piece.{Piece}
use Rattle.demands.specs.Runs.{Call, Told, told_to, ends}

-- ---- cut by us

-- what one call gives: the PDU at the front of its buffer, and the next offset that it answered
pub record Cut : Type 0 where
  pub pdu : List ℕ
  pub next : ℕ

-- a PDU of so many bytes at the front of a buffer
abbrev pub cut_of : List ℕ → ℕ → ℕ → Cut
cut_of buffer len next = record { pdu = take len buffer; next = next }

-- Calls from an offset on, none refused, each at the offset that the one before answered, until the length is
-- reached: `answer` and `buffer` are what a call at an offset answers and leaves. The test for the end stands
-- behind the call, so that an empty message is one call.
pub data Cuts (answer : ℕ → Result Piece Refusal) (buffer : ℕ → List ℕ) (total : ℕ) : ℕ → List Cut → Type 0 where
  last_one :
      {at : ℕ} (len next : ℕ) → answer at ≡ Ok (piece_of len next) → total ≤ next
      → Cuts answer buffer total at (cut_of (buffer at) len next ∷ [])
  one_more :
      {at : ℕ} (len next : ℕ) (cs : List Cut) → answer at ≡ Ok (piece_of len next) → next < total
      → Cuts answer buffer total next cs
      → Cuts answer buffer total at (cut_of (buffer at) len next ∷ cs)

-- the calls of `cut` for a number and a message, on buffers that are lent for each offset
abbrev pub CutByUs : ℕ → List ℕ → (ℕ → List ℕ) → List Cut → Type 0
CutByUs n m lent cs = Cuts (λ at. cut_at n m at (lent at)) (λ at. cut_buffer n m at (lent at)) (length m) 0 cs

-- the same of `dvc_cut`, whose one number the host reads as the header says
abbrev pub CutFromC : ℕ → List ℕ → (ℕ → List ℕ) → List Cut → Type 0
CutFromC n m lent cs =
    Cuts (λ at. unpacked (packed (cut_at n m at (lent at)))) (λ at. cut_buffer n m at (lent at)) (length m) 0 cs

-- "the length is reached": there are such calls
pub record NoneRefused (by : List Cut → Type 0) : Type 0 where
  pub cuts : List Cut
  pub are_cut : by cuts

-- ---- and joined

-- a PDU's event. For data it doesn't depend on the list
unfoldable pub event_of_pdu : List ℕ → Event
event_of_pdu pdu = event_of [] pdu (read_pdu true pdu)

-- the events of what is cut, received in the order of its blocks
abbrev pub cut_events : List Cut → List Event
cut_events cs = map (λ (c : Cut). event_of_pdu c.pdu) cs

-- what is told for each: held with the count still to come, and at the last the message, once
unfoldable pub told_for : ℕ → List ℕ → Cut → Told
told_for n m c =
    cond (ltb c.next (length m)) (record { answer = Held n (length m - c.next); reply = []; message = [] })
    (record { answer = Message n (length m); reply = []; message = m ∷ [] })

-- the channel is told that and nothing else, and is idle again with one message more in its count
pub record HandedUpOnce (n : ℕ) (m : List ℕ) (cs : List Cut) (r : Record) (st : State) (xs : List Call) : Type 0 where
  pub is_told : told_to n st xs ≡ map (told_for n m) cs
  pub part : List ℕ
  pub idle_again : view n (ends st xs) ≡ Open (rebuilt r Idle true) part
