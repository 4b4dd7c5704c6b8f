-- Demand 1, sentence by sentence.
use Rattle.std.specs.Prelude.{ℕ, ◌≡◌, ◌≢◌, Bool, true, false, List, length, Option, Err}
use Rattle.paper.specs.Sizes.{PARTS, STORE}
use Rattle.paper.specs.Rows.{first_held, comes_to}
use Rattle.paper.specs.declared.Refusal.{Refusal}
use Rattle.reading.specs.Reading.{read_pdu}
use Rattle.reading.specs.Said.{verdict_on}
use Rattle.reading.specs.Layouts.{reading_rows}
use Rattle.reading.specs.Strict.{read_strict, strict_rows}
use Rattle.laying.specs.Laying.{buffer_after}
use Rattle.writing.specs.Writing as writing
use Rattle.cutting.specs.Cutting as cutting
use Rattle.channel.specs.declared.Answer.TheVariants.{Refused}
use Rattle.channel.specs.Channel.{LocalClose}
use Rattle.table.specs.declared.Table.{Table}
use Rattle.table.specs.Table.{empty_table}
use Rattle.table.specs.Sound.{sound_table}
use Rattle.client.specs.Events.{Of, event_of}
use Rattle.client.specs.Client.{bad_call, received, locally_closed, started, store_started}
use Rattle.steps.specs.States.{Calm}
use Rattle.steps.specs.Rows.{outcome_of, receive_rows, close_rows, start_rows, start_outcome}
use Rattle.steps.specs.Refused.{RefusedCall}
use Rattle.demands.specs.Runs.{Call, ends, started_on}

-- "Every entry open to callers takes any bytes, any lengths and any order of calls, and comes to an end." That it
-- takes anything and ends is checked of every function: no public one has a `requires`, and each is proved to
-- return. What it gives is one thing for each input (proofs/OneOutcome). Here stands what any order of calls comes
-- to.
pub record AnyOrderOfCalls : Type 0 where
  -- whatever is received or closed, a sound table stays sound
  pub receive :
      (t : Table) (store list pdu reply : List ℕ) → length t.records ≡ PARTS → sound_table t ≡ true
      → sound_table (received t store list pdu reply).result.table ≡ true
  pub local_close :
      (t : Table) (store : List ℕ) (n : ℕ) (reply : List ℕ) → length t.records ≡ PARTS → sound_table t ≡ true
      → sound_table (locally_closed t store n reply).result.table ≡ true
  -- from Start, after any calls, ready or not: sixteen records, a sound table, and what is free as Start made it
  pub from_start : (store : List ℕ) → length store ≡ STORE → (xs : List Call) → Calm (ends (started_on store) xs)
  -- so that no call with a proper reply buffer meets refusal 1
  pub no_refusal_1 :
      (store : List ℕ) → length store ≡ STORE → (xs : List Call) (c : Call)
      → bad_call (ends (started_on store) xs).table (length (ends (started_on store) xs).store) (length c.reply)
      ≡ false

-- "Bad input gets the refusal number that the build paper lists for it." For each entry, whatever it is given: the
-- refusal is the first row of the paper's table, in the paper's order, that holds, and there is none exactly if
-- none holds. The rows of reading come from the paper's table of kinds.
pub record BadInputGetsItsNumber : Type 0 where
  pub start : (store : List ℕ) → start_outcome (started store).begun ≡ comes_to tt (first_held (start_rows store))
  pub receive :
      (t : Table) (store reply list pdu : List ℕ)
      → outcome_of (received t store list pdu reply).result.answer
      ≡ comes_to (received t store list pdu reply).result.answer (first_held (receive_rows t store list pdu reply))
  pub local_close :
      (t : Table) (store reply : List ℕ) (n : ℕ)
      → outcome_of (locally_closed t store n reply).result.answer
      ≡ comes_to (locally_closed t store n reply).result.answer (first_held (close_rows t store n reply))
  pub reading :
      (fromServer : Bool) (pdu : List ℕ) → verdict_on (read_pdu fromServer pdu) ≡ first_held (reading_rows fromServer pdu)
  -- strict reading: 18 behind the rows of reading
  pub strict_reading :
      (fromServer : Bool) (pdu : List ℕ) → verdict_on (read_strict fromServer pdu) ≡ first_held (strict_rows fromServer pdu)
  pub writing :
      (bad : Bool) (pdu out : List ℕ)
      → writing.outcome (writing.written bad pdu out)
      ≡ comes_to (length pdu) (first_held (writing.writing_rows bad pdu out))
  pub cutting :
      (number : ℕ) (message : List ℕ) (offset : ℕ) (out : List ℕ)
      → cutting.outcome (cutting.cut_at number message offset out)
      ≡ comes_to (cutting.lengths_at number message offset) (first_held (cutting.cutting_rows number message offset out))

-- "A refusal writes nothing to the reply or to the message store and changes no channel, except that three listed
-- refusals mark the one channel concerned as spoiled." With garbled blocks "Demand 1's exceptions grow by refusals 2, 3,
-- 4 and 5 for such PDUs": `spoils` says which, `left_by` what they leave; Garbled says which PDUs those are
pub record ARefusalLeavesAll : Type 0 where
  -- but for the one channel, which is the one with the number that the PDU carries
  pub receive :
      (t : Table) (store list pdu reply : List ℕ) (why : Refusal) (concern : Option ℕ) → length t.records ≡ PARTS
      → (received t store list pdu reply).result.answer ≡ Refused why concern
      → RefusedCall t store reply (event_of list pdu (read_pdu true pdu)) (received t store list pdu reply) why concern
  pub local_close :
      (t : Table) (store : List ℕ) (n : ℕ) (reply : List ℕ) (why : Refusal) (concern : Option ℕ)
      → length t.records ≡ PARTS
      → (locally_closed t store n reply).result.answer ≡ Refused why concern
      → RefusedCall t store reply (Of n LocalClose) (locally_closed t store n reply) why concern
  -- Start: the store is left, and the table is the empty one, refused or not
  pub start :
      (store : List ℕ) → length store ≢ STORE → ((started store).table ≡ empty_table) × (store_started store ≡ store)
  pub writing :
      (bad : Bool) (pdu out : List ℕ) (why : Refusal) → writing.written bad pdu out ≡ Err why
      → buffer_after (writing.outcome (writing.written bad pdu out)) pdu out ≡ out
  pub cutting :
      (number : ℕ) (message : List ℕ) (offset : ℕ) (out : List ℕ) (why : Refusal)
      → cutting.cut_at number message offset out ≡ Err why → cutting.cut_buffer number message offset out ≡ out
