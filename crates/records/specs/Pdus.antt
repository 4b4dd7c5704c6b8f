-- A walk over the walker's records that writes nothing on its way: what it keeps, PDU by PDU, and over an input in pieces.
use Rattle.std.specs.Prelude.{ℕ, List}
use Rattle.records.specs.Records.{whole_of, pdu_in}
use Rattle.records.specs.Items.{items_in, Stood, stood_by, read_by}

-- the whole records' PDUs
abbrev pub pdus_in : List ℕ → List (List ℕ)
pdus_in input = items_in whole_of pdu_in input

-- the bytes that are there: the whole records are taken, and the rest is left
abbrev pub stood_after : {S : Type 0} → (S → List ℕ → S) → S → List ℕ → Stood S
stood_after step s input = stood_by whole_of pdu_in step s input

-- read by read
abbrev pub after_reads : {S : Type 0} → (S → List ℕ → S) → Stood S → List (List ℕ) → Stood S
after_reads step at pieces = read_by whole_of pdu_in step at pieces
