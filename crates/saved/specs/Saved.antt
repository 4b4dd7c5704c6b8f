-- A table in bytes that a host lends: 204 of them, words of four, little-endian. Each of the sixteen records has three words: its
-- marks, class and stage in one, its number, its count. Behind the records stand the end with its request and its level, and the two
-- totals.
use Rattle.std.specs.Prelude.{ℕ, zero, suc, ◌+◌, ◌*◌, ◌/◌, ◌%◌, Bool, true, false, cond, not, ◌&&◌, ◌||◌, List, [], ◌∷◌, ◌++◌, eqb, ltb, leb, length, drop}
use Rattle.paper.specs.Sizes.{PARTS, STORE}
use Rattle.lists.specs.Bytes.{laid}
use Rattle.numbers.specs.Numbers.{bytes_of, value_at}
use Rattle.channel.specs.declared.Stage.{Stage}
use Rattle.channel.specs.declared.Stage.TheVariants.{Idle, Joining, Spoiled}
use Rattle.channel.specs.declared.Record.{Record}
use Rattle.channel.specs.declared.Change.{Change}
use Rattle.channel.specs.declared.Change.TheVariants.{Stays, Becomes, Frees}
use Rattle.channel.specs.Channel.{blank}
use Rattle.table.specs.declared.Totals.{Totals}
use Rattle.table.specs.declared.Table.{Table}
use Rattle.table.specs.declared.Found.{Found}
use Rattle.table.specs.Totals.{is_awaited}
use Rattle.table.specs.Table.{empty_table, home_in, totals_after}
use Rattle.table.specs.Sound.{some, sound_table}
use Rattle.saved.specs.declared.Head.{Head}

-- the bytes of a state: three words for each record, and three behind them
unfoldable pub STATE : ℕ
STATE = 204

-- where the word of the end stands, and the totals
unfoldable pub HEAD : ℕ
HEAD = 192

unfoldable pub CHANNELS : ℕ
CHANNELS = 196

unfoldable pub AWAITED : ℕ
AWAITED = 200

-- the bytes of a record
unfoldable pub ROW : ℕ
ROW = 12

-- the marks of the ends, 'C' for the client and 'S' for the shore: a zeroed state is no table
abbrev pub CLIENT : ℕ
CLIENT = 67

abbrev pub SHORE : ℕ
SHORE = 83

-- ---- a table's words

abbrev pub bit : Bool → ℕ
bit b = cond b 1 0

-- 0 idle, 1 spoiled; a message being joined has more than 4,095, since wanted is at least 1
unfoldable pub stage_code : Stage → ℕ
stage_code Idle = 0
stage_code (Joining wanted held) = 4096 * wanted + held
stage_code Spoiled = 1

-- bit 0 taken, bits 1 and 2 the class, bits 3 to 30 the stage, bit 31 awaited. A free record's are all 0.
unfoldable pub rest_of : Record → ℕ
rest_of r = bit r.taken + (2 * (r.class % 4) + (8 * (stage_code r.stage % 268435456) + 2147483648 * bit r.awaited))

-- a level, or 0 while not ready
abbrev pub level_if : Bool → ℕ → ℕ
level_if ready level = cond ready level 0

-- bits 0 to 7 the level, or 0 while not ready; bits 8 to 23 the version that the shore asked for, or 0; bits 24 to 31 the end's mark
unfoldable pub head_of : ℕ → ℕ → Bool → ℕ → ℕ
head_of mark asked ready level = level_if ready level + (256 * asked + 16777216 * mark)

unfoldable pub record_bytes : Record → List ℕ
record_bytes r = bytes_of 4 (rest_of r) ++ (bytes_of 4 r.number ++ bytes_of 4 r.count)

unfoldable pub row_bytes : List Record → List ℕ
row_bytes [] = []
row_bytes (r ∷ rs) = record_bytes r ++ row_bytes rs

unfoldable pub head_bytes : ℕ → ℕ → Table → List ℕ
head_bytes mark asked t =
    bytes_of 4 (head_of mark asked t.ready t.level) ++ (bytes_of 4 t.totals.channels ++ bytes_of 4 t.totals.awaited)

-- the table of the end with this mark, with the version that it asked for
unfoldable pub saved : ℕ → ℕ → Table → List ℕ
saved mark asked t = row_bytes t.records ++ head_bytes mark asked t

-- ---- and back

unfoldable pub word_at : List ℕ → ℕ → ℕ
word_at bytes at = value_at bytes at 4

unfoldable pub stage_of : ℕ → Stage
stage_of code = cond (eqb code 0) Idle (cond (ltb code 4096) Spoiled (Joining (code / 4096 % 65536) (code % 4096)))

unfoldable pub record_of : ℕ → ℕ → ℕ → Record
record_of rest number count =
    record {
      number = number;
      stage = stage_of (rest / 8 % 268435456);
      awaited = eqb (rest / 2147483648) 1;
      taken = eqb (rest % 2) 1;
      class = rest / 2 % 4;
      count = count;
    }

-- the record that the first twelve bytes tell
unfoldable pub record_in : List ℕ → Record
record_in bytes = record_of (word_at bytes 0) (word_at bytes 4) (word_at bytes 8)

unfoldable pub records_in : ℕ → List ℕ → List Record
records_in zero bytes = []
records_in (suc n) bytes = record_in bytes ∷ records_in n (drop ROW bytes)

-- the level, and whether it is one
abbrev pub level_in : List ℕ → ℕ
level_in bytes = word_at bytes HEAD % 256

unfoldable pub ready_in : List ℕ → Bool
ready_in bytes = not (eqb (level_in bytes) 0)

unfoldable pub asked_in : List ℕ → ℕ
asked_in bytes = word_at bytes HEAD / 256 % 65536

abbrev pub totals_in : List ℕ → Totals
totals_in bytes = record { channels = word_at bytes CHANNELS; awaited = word_at bytes AWAITED }

unfoldable pub table_in : List ℕ → Table
table_in bytes =
    record { totals = totals_in bytes; ready = ready_in bytes; level = level_in bytes; records = records_in PARTS bytes }

-- ---- which bytes tell a table: those whose every word is that of what it tells

unfoldable pub good_row : List ℕ → Bool
good_row bytes = eqb (rest_of (record_in bytes)) (word_at bytes 0)

unfoldable pub good_rows : ℕ → List ℕ → Bool
good_rows zero bytes = true
good_rows (suc n) bytes = good_row bytes && good_rows n (drop ROW bytes)

unfoldable pub good_head : ℕ → List ℕ → Bool
good_head mark bytes = eqb (head_of mark (asked_in bytes) (ready_in bytes) (level_in bytes)) (word_at bytes HEAD)

unfoldable pub is_saved : ℕ → List ℕ → Bool
is_saved mark bytes = eqb (length bytes) STATE && (good_head mark bytes && good_rows PARTS bytes)

-- the client asks for nothing and awaits no number
unfoldable pub unasked : List ℕ → Bool
unasked bytes = eqb (asked_in bytes) 0 && not (some is_awaited (table_in bytes).records)

-- bytes that are a state of the end with this mark; the shore, and not the client, asks and awaits
unfoldable pub is_state : ℕ → Bool → List ℕ → Bool
is_state mark asks bytes = is_saved mark bytes && (asks || unasked bytes)

-- and whose table is sound
unfoldable pub is_good : ℕ → Bool → List ℕ → Bool
is_good mark asks bytes = is_state mark asks bytes && sound_table (table_in bytes)

-- ---- which have the words behind the records of a state, whatever the records

-- the word of an end: its mark, a level that may be, and a version only where the end asks
unfoldable pub good_word : ℕ → Bool → ℕ → Bool
good_word mark asks w = eqb (w / 16777216) mark && (leb (w % 256) 2 && (asks || eqb (w / 256 % 65536) 0))

-- it is that of one of the ends, and the totals are no more than a sound table has
unfoldable pub is_headed : List ℕ → Bool
is_headed bytes =
    eqb (length bytes) STATE
    && ((good_word CLIENT false (word_at bytes HEAD) || good_word SHORE true (word_at bytes HEAD))
    && (leb (word_at bytes CHANNELS) PARTS && leb (word_at bytes AWAITED) STORE))

-- ---- what is read of a state

-- ready or not, the level, the version asked for and the totals; of bytes of another length, those of a state that Start makes
unfoldable pub head_in : List ℕ → Head
head_in bytes =
    cond (eqb (length bytes) STATE)
    (record { ready = ready_in bytes; level = level_in bytes; asked = asked_in bytes; totals = totals_in bytes })
    (record { ready = empty_table.ready; level = empty_table.level; asked = 0; totals = empty_table.totals })

-- where a number stands, and the record there, as in the table; bytes of another length have no place
unfoldable pub home_over : ℕ → List ℕ → Found
home_over n bytes = cond (eqb (length bytes) STATE) (home_in n (table_in bytes)) (record { place = PARTS; row = blank })

-- ---- what is written into a state; bytes of another length stay

abbrev pub if_state : List ℕ → List ℕ → List ℕ
if_state bytes after = cond (eqb (length bytes) STATE) after bytes

-- a record at place k
unfoldable pub row_put : List ℕ → ℕ → Record → List ℕ
row_put bytes k r = cond (ltb k PARTS) (laid bytes (ROW * k) (record_bytes r)) bytes

unfoldable pub change_put : List ℕ → ℕ → Change → List ℕ
change_put bytes k Stays = bytes
change_put bytes k (Becomes r) = row_put bytes k r
change_put bytes k Frees = row_put bytes k blank

unfoldable pub totals_put : List ℕ → Totals → List ℕ
totals_put bytes totals = laid (laid bytes CHANNELS (bytes_of 4 totals.channels)) AWAITED (bytes_of 4 totals.awaited)

unfoldable pub level_put : List ℕ → ℕ → List ℕ
level_put bytes level = laid bytes HEAD (level ∷ [])

-- ready or not, at a level, with what becomes of the record at place k, which is `row`; and its totals
unfoldable pub put_over : List ℕ → Bool → ℕ → ℕ → Record → Change → List ℕ
put_over bytes ready level k row change =
    if_state bytes (change_put (totals_put (level_put bytes (level_if ready level)) (totals_after (totals_in bytes) row change)) k change)

-- the version that the shore asked for
unfoldable pub ask_over : List ℕ → ℕ → List ℕ
ask_over bytes version = if_state bytes (laid bytes (HEAD + 1) (bytes_of 2 version))

-- a state as Start makes it
unfoldable pub begin_over : List ℕ → ℕ → List ℕ
begin_over bytes mark = if_state bytes (saved mark 0 empty_table)
