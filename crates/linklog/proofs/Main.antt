-- The page of the link log: what is promised of the file on flash, of `linklog::append` and `linklog::close`, and of reading with `linklog::turn`.
-- Assumes nothing.
use mathlib.Core.Path.{◌≡◌, refl, ◌∙◌}
use mathlib.Core.Bool.{Bool, true, false}
use mathlib.Core.List.{List, [], ◌∷◌, ◌++◌, map}
use Prim.Native.Nat.{ℕ, ◌+◌, ◌-◌, ◌*◌, ◌/◌, ◌≤◌, ◌<◌}
use lib.ListN.{length, take, get_or, set}
use Rattle.lists.specs.Bytes.{zeros}
use Rattle.lists.specs.Places.{place}
use Rattle.numbers.specs.Numbers.{Bytes, little, bytes_of, value_of, value_at}
use Rattle.paper.specs.declared.Refusal.TheVariants.{LogFull}
use Rattle.records.specs.Records.{announced}
use Rattle.records.specs.Desk.{whole_by}
use Rattle.records.specs.Walks.{front_of, records_in, records_of, size_of, rest_of}
use Rattle.records.specs.Items.{all_of}
use Rattle.blocks.specs.Check.{WORD_MAX, carried, summed, cleared, check_of}
use Rattle.blocks.specs.Block.{BLOCK, PAYLOAD, head_of, body_of, block_of, number_in, used_in, place_in, check_in, payload_in, may_use, may_begin, all_zero, is_good}
use Rattle.blocks.proofs.Finds as finds
use Rattle.linklog.specs.declared.Log.{Log}
use Rattle.linklog.specs.declared.Reader.{Reader}
use Rattle.linklog.specs.Records.{Entry, Received, Closed, close_record, record_of, as_logged, needs_of, is_stray, logged_whole, entry_in}
use Rattle.linklog.specs.Written.{marked, marked_all, first_place, block_with, blocks_from, blocks_for, written}
use Rattle.linklog.specs.Reading.{BLOCKS_MAX, Course, Seeking, through, entered, taken, read_from, records_read, entries_read}
use Rattle.linklog.specs.Appending.{ROOM, answer_for, room_then, last_block, touched_in, appended_all, part_appended}
use Rattle.linklog.specs.TakenBack.{end_in, taken_back}
use Rattle.linklog.specs.Taking.{last_held}
use Rattle.linklog.specs.Turns.{is_reader, is_last_of, gave_to, reader_with, room_after, StandsAt, whole_in, Gives, turned_over, records_by_turn}
use Rattle.linklog.specs.Promises.{AreEntries, log_of, blocks_of, block_at, good_at, BadAreChanged, kept_from, fit, NoneLonger}
use Rattle.linklog.specs.Promises.{Holds, part_flashed, log_then, Puts, Called, Coming, AreComings, NoneFails, empty, ran, logged_in, asked}
use Rattle.linklog.proofs.Framing.{entry_record, entry_short}
use Rattle.linklog.proofs.Appends as appends
use Rattle.linklog.proofs.Front as reading
use Rattle.linklog.proofs.Damage as damaged
use Rattle.linklog.proofs.Longer as longer
use Rattle.linklog.proofs.Turning as turning
use Rattle.linklog.proofs.Flash as flash
use Rattle.linklog.proofs.Runs as runs
use Rattle.linklog.proofs.TakenBack as back
use Rattle.linklog.proofs.Resumed as resumed
use Rattle.linklog.proofs.append.Reads as append
use Rattle.linklog.proofs.take_up.Reads as take-up
use Rattle.linklog.proofs.take_back.Reads as take_back
use Rattle.linklog.proofs.close.Reads as close
use Rattle.linklog.proofs.begin.Reads as begin
use Rattle.linklog.proofs.turn.Reads as turn
use Rattle.std.specs.Prelude.{Err}

-- ---- what was written is read

-- A log of entries, in no more blocks than there may be, is read as they were logged: longer PDUs cut to 1,601 bytes.
pub read_what_was_written : (es : List Entry) → AreEntries es → blocks_of es ≤ BLOCKS_MAX → entries_read (log_of es) ≡ map as_logged es
read_what_was_written = reading.read_what_was_written

-- It is what appends make one after the other, each of which sees only the last block.
pub append_by_append : (es : List Entry) → appended_all [] (map record_of es) ≡ log_of es
append_by_append es = appends.append_run (map record_of es) (damaged.entries_records es)

-- ---- reading in turns

-- Whatever bytes a file has, and whatever room of its size reading has: no block's turn is refused,
pub turns_all : (room file : List ℕ) → ROOM ≤ length room → length (turned_over room file).gave ≡ length file / BLOCK
turns_all = turning.turns_all

-- the records that stand at the room's front after each turn are together the file's, and no other bytes stand there,
pub turns_read : (room file : List ℕ) → ROOM ≤ length room
    → (records_by_turn (turned_over room file).gave ≡ records_read file) × (all_of (turned_over room file).gave ≡ all_of (records_read file))
turns_read = turning.turns_read

-- and the reader has the end of the last one then.
pub turns_end : (room file : List ℕ) → ROOM ≤ length room → (turned_over room file).reader.end ≡ end_in file
turns_end = turning.turns_end

-- One turn of a reader that can be leaves the records at the room's front that the block gives.
pub turn_given : (reader : Reader) (blocks number : ℕ) (block room : List ℕ) → is_reader reader room ≡ true
    → let gave = gave_to reader blocks number block room in
    records_of logged_whole (whole_in (reader_with reader number block gave) (room_after reader blocks number block room)) ≡ gave.given
turn_given = turning.turn_given

-- The same on the functions' own contracts: of a turn the reader is the first parameter, behind it how many blocks there are, the number, the
-- block and the room. It is never refused where it follows `begin` or another turn.
pub begin_call : (κs : _) (a : _) (r : _) (s : _) → begin.Post κs a r s → (room : List ℕ) → ROOM ≤ length room → StandsAt r room Seeking
begin_call κs a r s p room fits = rw p (turning.first_stands room fits)

pub turn_call : (κs : _) (a : _) (r : _) (s : _) → turn.Post κs a r s
    → (course : Course) → StandsAt a.0 a.1.1.1.1.0.now course
    → Gives a.0 a.1.1.0 a.1.1.1.0.now (taken (is_last_of a.1.0 a.1.1.0) a.1.1.0 course a.1.1.1.0.now)
    r s.1.1.1.1.0.now
turn_call κs a r s p course at =
    rw (p.0, p.1) (turning.turn_gives a.0 a.1.0 a.1.1.0 a.1.1.1.0.now a.1.1.1.1.0.now course at)

-- ---- append and close

-- The writer can begin on an empty file with any room of its size, and on any other with the file's last block at the room's front.
pub begins : (room : List ℕ) → ROOM ≤ length room → Holds [] (record { blocks = 0; held = 0 }) room
begins = flash.holds_empty

pub taken_up_law : (file room : List ℕ) → ROOM ≤ length room → take BLOCK room ≡ last_block file
    → Holds file (record { blocks = length file / BLOCK; held = 1 }) room
taken_up_law file room fits last = flash.taken_up_law file room fits (λ _. last)

-- An entry that fits is put: the answer's blocks, in their places, make the log with one more entry, and the writer can go on.
pub put_to_flash : (es : List Entry) (e : Entry) (log : Log) (room : List ℕ) → Holds (log_of es) log room → blocks_of (es ++ (e ∷ [])) ≤ BLOCKS_MAX
    → Puts es e (answer_for log room (record_of e)) (room_then log room (record_of e))
put_to_flash = runs.puts

-- "21, the record doesn't fit in 65,536 blocks, nothing written"
pub log_full : (es : List Entry) (e : Entry) (log : Log) (room : List ℕ) → Holds (log_of es) log room → blocks_of es ≤ BLOCKS_MAX
    → BLOCKS_MAX < blocks_of (es ++ (e ∷ [])) → (answer_for log room (record_of e) ≡ Err LogFull) × (room_then log room (record_of e) ≡ room)
log_full = runs.full

-- The same on the functions' own contracts: the log is the first parameter, the room the second, and the PDU or the number the third.
pub append_call : (κs : _) (a : _) (r : _) (s : _) → append.Post κs a r s
    → (es : List Entry) → Holds (log_of es) a.0 a.1.0.now → blocks_of es ≤ BLOCKS_MAX
    → Called es (Received a.1.1.0.now) a.1.0.now r s.1.0.now
append_call κs a r s p es holds few =
    let e = Received a.1.1.0.now in
    rw (p.0, p.1) (put_to_flash es e a.0 a.1.0.now holds, log_full es e a.0 a.1.0.now holds few)

pub close_call : (κs : _) (a : _) (r : _) (s : _) → close.Post κs a r s
    → (es : List Entry) → Holds (log_of es) a.0 a.1.0.now → blocks_of es ≤ BLOCKS_MAX
    → Called es (Closed a.1.1.0) a.1.0.now r s.1.0.now
close_call κs a r s p es holds few =
    let e = Closed a.1.1.0 in
    rw (p.0, p.1) (put_to_flash es e a.0 a.1.0.now holds, log_full es e a.0 a.1.0.now holds few)

-- Whatever is appended from an empty file on, and whatever stops, starts and losses of power lie between: the file is the log of the entries
-- that are logged, and reading gives these. They are all that were asked for, where power is never lost and all fit.
pub run_on_flash : (room : List ℕ) → ROOM ≤ length room → (comings : List Coming) → AreComings comings
    → (ran (empty room) comings).file ≡ log_of (logged_in [] comings)
run_on_flash = runs.run_on_flash

pub run_read : (room : List ℕ) → ROOM ≤ length room → (comings : List Coming) → AreComings comings
    → entries_read (ran (empty room) comings).file ≡ map as_logged (logged_in [] comings)
run_read = runs.run_read

pub all_logged : (comings : List Coming) → NoneFails comings → blocks_of (asked comings) ≤ BLOCKS_MAX → logged_in [] comings ≡ asked comings
all_logged = runs.all_logged

-- ---- changed bytes

-- The check finds every changed byte of a block, and every changed word, but for one of all bits off that becomes all on, or the other way.
pub check_finds : (last : Bool) (number : ℕ) (block : List ℕ) → is_good last number block ≡ true → Bytes block
    → (i x : ℕ) → i < BLOCK → x < 256 → (x ≡ get_or block i 0 → ⊥) → is_good last number (set block i x) ≡ false
check_finds = finds.check_finds

pub word_finds : (last : Bool) (number : ℕ) (block : List ℕ) (k low high : ℕ) → is_good last number block ≡ true → Bytes block
    → k < 256 → low < 256 → high < 256
    → (low + 256 * high ≡ value_at block (k + k) 2 → ⊥)
    → (value_at block (k + k) 2 ≡ 0 → low + 256 * high ≡ WORD_MAX → ⊥)
    → (value_at block (k + k) 2 ≡ WORD_MAX → low + 256 * high ≡ 0 → ⊥)
    → is_good last number (finds.with_word block k low high) ≡ false
word_finds = finds.word_finds

-- "If bytes of a log we wrote are changed, none lost or added, and the blocks found bad are exactly the changed ones, reading gives every
-- record that touches no bad block and nothing else"
pub damage_exactly : (es : List Entry) → AreEntries es → (file : List ℕ) → length file ≡ length (log_of es) → BadAreChanged (log_of es) file
    → entries_read file ≡ kept_from (good_at file) 0 es
damage_exactly = damaged.damage_exactly

-- An unchanged block is found good: so it is enough that every changed one is found bad.
pub unchanged_good : (es : List Entry) → blocks_of es ≤ BLOCKS_MAX → (file : List ℕ) → length file ≡ length (log_of es)
    → (k : ℕ) → k < length file / BLOCK → block_at k file ≡ block_at k (log_of es) → good_at file k ≡ true
unchanged_good es = reading.unchanged_good (map record_of es)

pub damage : (es : List Entry) → AreEntries es → (file : List ℕ) → length file ≡ length (log_of es)
    → ((k : ℕ) → k < length file / BLOCK → good_at file k ≡ true → block_at k file ≡ block_at k (log_of es))
    → entries_read file ≡ kept_from (good_at file) 0 es
damage = damaged.damage

-- Whatever bytes a file has, no record that reading gives is longer than a record can be.
pub never_longer : (file : List ℕ) → NoneLonger (records_read file)
never_longer = longer.never_longer

-- ---- lost blocks

-- "a record unfinished at the end isn't given": of so many first blocks those that fit in them are read.
pub front_read : (es : List Entry) → blocks_of es ≤ BLOCKS_MAX → (m : ℕ) → records_read (take (BLOCK * m) (log_of es)) ≡ fit (PAYLOAD * m) (map record_of es)
front_read es = reading.front_read (map record_of es) (damaged.entries_records es)

-- Taken back, so many first blocks are the log of these.
pub taken_back_law : (es : List Entry) → blocks_of es ≤ BLOCKS_MAX → (m : ℕ)
    → taken_back (take (BLOCK * m) (log_of es)) ≡ written (fit (PAYLOAD * m) (map record_of es))
taken_back_law es = back.taken_back_law (map record_of es) (damaged.entries_records es)

-- Where power is lost after so many blocks of a call's answer are put, flash has the file inside that append:
pub part_to_flash : (es : List Entry) (e : Entry) (log : Log) (room : List ℕ) → Holds (log_of es) log room → blocks_of (es ++ (e ∷ [])) ≤ BLOCKS_MAX
    → (n : ℕ) → part_flashed n (log_of es) (log_then (map record_of es) (record_of e)) (room_then log room (record_of e)) ≡ part_appended n (log_of es) (record_of e)
part_to_flash es e log room holds few =
    flash.part_to_flash (map record_of es) (record_of e) log room holds (entry_record e).some (entry_short e) (rw (runs.records_more es e) at few)

-- taken back, it is the log as it was, until all of them are put,
pub lost_before : (es : List Entry) (e : Entry) → blocks_of (es ++ (e ∷ [])) ≤ BLOCKS_MAX → (n : ℕ) → n < touched_in (log_of es) (record_of e)
    → taken_back (part_appended n (log_of es) (record_of e)) ≡ log_of es
lost_before es e few =
    back.lost_before (map record_of es) (record_of e) (damaged.entries_records es) (entry_record e) (rw (runs.records_more es e) at few)

-- and then the log with one more.
pub lost_after : (es : List Entry) (e : Entry) → blocks_of (es ++ (e ∷ [])) ≤ BLOCKS_MAX → (n : ℕ) → touched_in (log_of es) (record_of e) ≤ n
    → taken_back (part_appended n (log_of es) (record_of e)) ≡ log_of (es ++ (e ∷ []))
lost_after es e few n h =
    rw (runs.records_more es e)
    (back.lost_after (map record_of es) (record_of e) (damaged.entries_records es) (entry_record e) (rw (runs.records_more es e) at few) n h)

-- The calls: a written log is taken up from its last block,
pub take_up_call : (κs : _) (a : _) (r : _) (s : _) → take-up.Post κs a r s
    → (es : List Entry) → blocks_of es ≤ BLOCKS_MAX → (a.0 ≡ 0 → ⊥) → a.0 ≡ length (log_of es) / BLOCK → a.1.0.now ≡ last_block (log_of es)
    → r ≡ last_held a.0
take_up_call κs a r s p es few some blocks last =
    p ∙ rw (blocks, last) (resumed.up_so (map record_of es) few (λ none. some (blocks ∙ none)))

-- and any file is taken back to the end that reading tells: with the block that holds it at the room's front, and made anew in its place, the
-- file is what is taken back, and the writer can go on.
pub take_back_call : (κs : _) (a : _) (r : _) (s : _) → take_back.Post κs a r s
    → (file : List ℕ) → ROOM ≤ length a.1.0.now → a.0 ≡ end_in file → ((end_in file).blocks ≡ 0 → ⊥)
    → take BLOCK a.1.0.now ≡ resumed.block_of_end (end_in file) file
    → (r ≡ last_held (end_in file).blocks)
    × ((take (BLOCK * ((end_in file).blocks - 1)) file ++ take BLOCK s.1.0.now ≡ taken_back file)
    × Holds (taken_back file) (record { blocks = (end_in file).blocks; held = 1 }) s.1.0.now)
take_back_call κs a r s p file fits end some lent =
    let so = resumed.back_so file a.1.0.now fits some lent in
    let answer = rw end at p.0 in
    let room = rw end at p.1 in
    (answer ∙ so.0, rw room (so.1, resumed.back_holds file a.1.0.now fits some lent))

-- ---- by computing

-- the log of one close, of number 7: number 0, 6 bytes used, a record begins at 0, the check; then 65,535 and the number
pub one_close : take 16 (log_of (Closed 7 ∷ [])) ≡ 0 ∷ 0 ∷ 6 ∷ 0 ∷ 0 ∷ 0 ∷ 242 ∷ 255 ∷ 255 ∷ 255 ∷ 7 ∷ 0 ∷ 0 ∷ 0 ∷ 0 ∷ 0 ∷ []
unfolding written blocks_from blocks_for block_with first_place marked_all marked place record_of close_record bytes_of block_of head_of body_of zeros
    check_of cleared summed carried
one_close = refl

pub one_close_read : entries_read (log_of (Closed 7 ∷ [])) ≡ Closed 7 ∷ []
unfolding written blocks_from blocks_for block_with first_place marked_all marked place record_of close_record bytes_of block_of head_of body_of zeros
    check_of cleared summed carried entries_read records_read read_from taken is_good number_in used_in place_in check_in payload_in may_use may_begin
    all_zero entered through records_of records_in front_of logged_whole is_stray whole_by needs_of announced value_at value_of little rest_of size_of entry_in
one_close_read = refl

-- with one byte of it changed nothing is read
pub one_byte_changed : entries_read (set (log_of (Closed 7 ∷ [])) 10 8) ≡ []
unfolding written blocks_from blocks_for block_with first_place marked_all marked place record_of close_record bytes_of block_of head_of body_of zeros
    check_of cleared summed carried entries_read records_read read_from taken is_good number_in used_in place_in check_in payload_in may_use may_begin
    all_zero value_at value_of little
one_byte_changed = refl
