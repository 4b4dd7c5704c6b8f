-- The table: "sixteen channel records".
use Rattle.std.specs.Prelude.{ℕ, ◌^◌, Bool, false, not, cond, ◌&&◌, eqb, ltb, get_or, set, replicate}
use Rattle.paper.specs.Sizes.{PARTS}
use Rattle.lists.specs.Places.{place}
use Rattle.channel.specs.declared.Record.{Record}
use Rattle.channel.specs.declared.Change.{Change}
use Rattle.channel.specs.declared.Change.TheVariants.{Stays, Becomes, Frees}
use Rattle.channel.specs.Channel.{blank}
use Rattle.table.specs.declared.Totals.{Totals}
use Rattle.table.specs.declared.Table.{Table}
use Rattle.table.specs.declared.Found.{Found}
use Rattle.table.specs.Totals.{is_open, changed}

-- "an empty table, not ready, all its numbers 0 and its stages idle"
unfoldable pub empty_table : Table
unfolding PARTS
empty_table = record { totals = record { channels = 0; awaited = 0 }; ready = false; level = 0; records = replicate PARTS blank }

-- "A number is open while a record holds it, spoiled or not." At the shore its record holds an awaited number too.
unfoldable pub holds : ℕ → Record → Bool
holds n r = r.taken && eqb r.number n

unfoldable pub is_free : Record → Bool
is_free r = not r.taken

-- the place of the record that holds the number, or the number of records where none does
unfoldable pub number_place : ℕ → Table → ℕ
number_place n t = place (holds n) t.records

-- the place of "the lowest-numbered free record", or the number of records where none is free
unfoldable pub free_place : Table → ℕ
free_place t = place is_free t.records

-- the place of the lowest-numbered open record, or the number of records where none is open
unfoldable pub open_place : Table → ℕ
open_place t = place is_open t.records

unfoldable pub record_at : Table → ℕ → Record
record_at t k = get_or t.records k blank

-- where a number stands, and the record there
unfoldable pub found_in : ℕ → Table → Found
found_in n t = record { place = number_place n t; row = record_at t (number_place n t) }

unfoldable pub open_in : Table → Found
open_in t = record { place = open_place t; row = record_at t (open_place t) }

-- the table with a record at a place, and its totals as they were; a place that it doesn't have leaves it as it is
unfoldable pub placed : Table → ℕ → Record → Table
placed t k r = record { totals = t.totals; ready = t.ready; level = t.level; records = set t.records k r }

-- the same, and its totals by what then stands at the place
unfoldable pub with_record : Table → ℕ → Record → Table
with_record t k r =
    record {
      totals = changed t.totals (record_at t k) (record_at (placed t k r) k);
      ready = t.ready;
      level = t.level;
      records = set t.records k r;
    }

-- where what becomes of the channel with a number is put: its record's place, or the lowest free one's
unfoldable pub home_place : ℕ → Table → ℕ
home_place n t = cond (ltb (number_place n t) PARTS) (number_place n t) (free_place t)

unfoldable pub home_in : ℕ → Table → Found
home_in n t = record { place = home_place n t; row = record_at t (number_place n t) }

unfoldable pub bit_of : ℕ → ℕ
bit_of k = cond (ltb k PARTS) (2 ^ k) 0

-- a change, put at place k
unfoldable pub site_of : ℕ → Change → ℕ
site_of k Stays = PARTS
site_of k (Becomes r) = k
site_of k Frees = k

unfoldable pub next_of : Change → Record
next_of Stays = blank
next_of (Becomes r) = r
next_of Frees = blank

-- the totals, by what becomes of a record
unfoldable pub totals_after : Totals → Record → Change → Totals
totals_after totals row Stays = totals
totals_after totals row (Becomes r) = changed totals row r
totals_after totals row Frees = changed totals row blank

-- the record there before being `row`
unfoldable pub put_back : Table → Bool → ℕ → ℕ → Record → Change → Table
put_back t ready level k row change =
    record {
      totals = totals_after t.totals row change;
      ready = ready;
      level = level;
      records = (placed t (site_of k change) (next_of change)).records;
    }
