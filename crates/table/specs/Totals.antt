-- The totals that a table keeps: "open channels and bytes still to come over all joining channels". Awaited and free records
-- add nothing to either total.
use Rattle.std.specs.Prelude.{ℕ, ◌+◌, ◌-◌, ◌%◌, Bool, not, cond, ◌&&◌, List, [], ◌∷◌, eqb}
use Rattle.channel.specs.declared.Stage.{Stage}
use Rattle.channel.specs.declared.Stage.TheVariants.{Idle, Joining, Spoiled}
use Rattle.channel.specs.declared.Record.{Record}
use Rattle.table.specs.declared.Totals.{Totals}

-- ---- the recount

-- the record holds a number that is open: "An awaited number isn't open, though it has its record"
unfoldable pub is_open : Record → Bool
is_open r = r.taken && not r.awaited

-- the record has the shore's mark
abbrev pub is_awaited : Record → Bool
is_awaited r = r.awaited

-- what a record adds to the open channels
unfoldable pub opens : Record → ℕ
opens r = cond (is_open r) 1 0

-- of a message being joined, what is still to come
unfoldable pub to_come : Stage → ℕ
to_come Idle = 0
to_come (Joining wanted held) = wanted - held
to_come Spoiled = 0

-- what a record adds to the bytes awaited
unfoldable pub awaits : Record → ℕ
awaits r = cond (is_open r) (to_come r.stage) 0

-- what all records add
unfoldable pub total : (Record → ℕ) → List Record → ℕ
total of [] = 0
total of (r ∷ rs) = of r + total of rs

unfoldable pub recount : List Record → Totals
recount rs = record { channels = total opens rs; awaited = total awaits rs }

-- ---- one record's change

-- a total, after a record that added `old` to it adds `new`: as many more or fewer, by the remainder that a u32 has room for
unfoldable pub moved : ℕ → ℕ → ℕ → ℕ
moved sum old new = cond (eqb new old) sum ((sum + new + 4294967296 - old) % 4294967296)

-- the totals, after one record takes the place of another
unfoldable pub changed : Totals → Record → Record → Totals
changed totals old new =
    record {
      channels = moved totals.channels (opens old) (opens new);
      awaited = moved totals.awaited (awaits old) (awaits new);
    }
