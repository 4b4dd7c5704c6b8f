-- Open channels and bytes awaited, at once: "The connection should keep two totals, open channels and bytes still to come over
-- all joining channels, and give them without going through the records." `client::totals` gives a table's `totals`.
use Rattle.std.specs.Prelude.{ℕ, ◌≤◌, ◌≡◌, ◌≢◌, Bool, true, false, List, [], ◌∷◌, length}
use Rattle.paper.specs.Sizes.{PARTS}
use Rattle.channel.specs.declared.Stage.{Stage}
use Rattle.channel.specs.declared.Stage.TheVariants.{Idle, Joining, Spoiled}
use Rattle.channel.specs.declared.Record.{Record}
use Rattle.table.specs.declared.Table.{Table}
use Rattle.table.specs.Totals.{recount}
use Rattle.table.specs.Sound.{sound_table}
use Rattle.client.specs.Client.{bad_call, received, locally_closed, started}

-- a record, taken or not, in a stage
abbrev pub row_of : Bool → Stage → Record
row_of taken stage = record { taken = taken; number = 5; class = 0; stage = stage; count = 0; awaited = false }

-- the record of an awaited number
abbrev pub awaited_row : Stage → Record
awaited_row stage = record { taken = true; number = 6; class = 0; stage = stage; count = 0; awaited = true }

pub record TotalsAreTheRecount : Type 0 where
  -- what the recount is, by an example: a channel of whose ten bytes four are held, an idle one and a spoiled one; a free record
  -- adds nothing, and an awaited one neither, whatever their stage
  pub for_example :
      recount (row_of true (Joining 10 4) ∷ row_of true Idle ∷ row_of true Spoiled ∷ row_of false (Joining 10 4) ∷ awaited_row (Joining 10 4) ∷ [])
      ≡ record { channels = 3; awaited = 6 }
  -- "After every call on a sound table, refusals included, they equal the full recount"
  pub receive :
      (t : Table) (store list pdu reply : List ℕ) → length t.records ≡ PARTS → sound_table t ≡ true
      → (received t store list pdu reply).result.table.totals
      ≡ recount (received t store list pdu reply).result.table.records
  pub local_close :
      (t : Table) (store : List ℕ) (n : ℕ) (reply : List ℕ) → length t.records ≡ PARTS → sound_table t ≡ true
      → (locally_closed t store n reply).result.table.totals
      ≡ recount (locally_closed t store n reply).result.table.records
  -- Start's too, refused or not
  pub start : (store : List ℕ) → (started store).table.totals ≡ recount (started store).table.records
  -- "and a table whose totals differ from it is unsound": refusal 1, whatever the call
  pub else_unsound : (t : Table) → t.totals ≢ recount t.records → sound_table t ≡ false
  pub else_refused :
      (t : Table) → t.totals ≢ recount t.records → (storeSize replySize : ℕ) → bad_call t storeSize replySize ≡ true
  -- how much they can be
  pub at_most :
      (t : Table) → length t.records ≡ PARTS → sound_table t ≡ true
      → (t.totals.channels ≤ 16) × (t.totals.awaited ≤ 65536)
