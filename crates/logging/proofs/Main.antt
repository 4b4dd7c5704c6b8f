-- The page of `logwrite` and `logread`: what is written for records, and what is printed for a log.
-- Assumes nothing.
use mathlib.Core.Path.{◌≡◌, refl, ap, ◌∙◌}
use mathlib.Core.Bool.{cond}
use mathlib.Core.List.{List, [], ◌∷◌}
use Prim.Native.Nat.{ℕ, ◌≤◌, ◌<◌}
use native.Mathlib.Omega.{arith}
use lib.Dec.{ltb}
use lib.ListN.{length, take}
use Rattle.std.specs.Prelude.{None, Some}
use Rattle.paper.specs.declared.Refusal.TheVariants.{LogFull}
use Rattle.lists.specs.Bytes.{zeros}
use Rattle.lists.specs.Places.{place}
use Rattle.numbers.specs.Numbers.{Bytes, little, bytes_of, value_of, value_at}
use Rattle.lines.specs.Decimal.{digits_in, decimal, field}
use Rattle.lines.specs.Hex.{hex_digit, hex_byte, hex_of, bytes_field}
use Rattle.lines.specs.Lines.{word_field, refused_line}
use Rattle.records.specs.Records.{announced}
use Rattle.records.specs.Desk.{whole_by}
use Rattle.records.specs.Walks.{front_of, records_in, records_of, rest_of}
use Rattle.records.specs.Items.{Stood, items_in, read_by, all_of}
use Rattle.records.proofs.Items as items
use Rattle.blocks.specs.Check.{check_of, cleared, summed, carried}
use Rattle.blocks.specs.Block.{head_of, body_of, block_of}
use Rattle.linklog.specs.Records.{Received, Closed, entry_in, record_of, close_record, needs_of}
use Rattle.linklog.specs.Written.{marked, marked_all, first_place, block_with, blocks_from, blocks_for, written}
use Rattle.linklog.specs.Reading.{BLOCKS_MAX, is_log, read_from, records_read, entries_read}
use Rattle.linklog.specs.Appending.{ROOM}
use Rattle.linklog.specs.Promises.{log_of, blocks_of, fit}
use Rattle.logging.specs.Input.{input_whole, INPUT_MAX, entries_in}
use Rattle.logging.specs.Writing.{Run, run_of, run_after, start_course, sent, output_for}
use Rattle.logging.specs.Lines.{entry_line, lines_of}
use Rattle.logging.specs.Reading.{report, judged_by, printed_by}
use Rattle.logging.proofs.Inputs as inputs
use Rattle.logging.proofs.Pieces as pieces
use Rattle.logging.proofs.Sent as sends
use Rattle.logging.proofs.Logs as logs

-- ---- logwrite

-- However the input is cut into reads, and whatever the room has at first, what goes out is the log of its whole records, up to the first that
-- doesn't fit in 65,536 blocks.
pub however_cut : (reads : List (List ℕ)) (room : List ℕ) → ROOM ≤ length room → sent start_course room [] reads ≡ output_for (all_of reads)
unfolding output_for
however_cut reads room fits = pieces.however_cut reads start_course room ∙ sends.all_at_once (entries_in (all_of reads)) room fits

-- Where all fit it is the log of all.
pub all_logged : (input : List ℕ) → blocks_of (entries_in input) ≤ BLOCKS_MAX → output_for input ≡ log_of (entries_in input)
unfolding output_for
all_logged input few = ap written (sends.all_fit (entries_in input) few)

-- where writing stands after reads
abbrev after : List ℕ → List (List ℕ) → Stood Run
after room reads = read_by input_whole entry_in run_after (record { kept = run_of start_course room []; left = [] }) reads

stands_so : (reads : List (List ℕ)) (room : List ℕ)
    → after room reads ≡ record { kept = pieces.from start_course room (entries_in (all_of reads)); left = rest_of input_whole (all_of reads) }
stands_so reads room =
    items.however_cut inputs.input_framing entry_in run_after (run_of start_course room []) [] reads (omega (arith, (inputs.input_framing).fits []))

-- It ends with 21 exactly if they don't all fit,
pub refused_when : (reads : List (List ℕ)) (room : List ℕ) → ROOM ≤ length room
    → (after room reads).kept.course.why ≡ cond (ltb BLOCKS_MAX (blocks_of (entries_in (all_of reads)))) (Some LogFull) None
refused_when reads room fits =
    ap (λ (at : Stood Run). at.kept.course.why) (stands_so reads room) ∙ sends.why_at_once (entries_in (all_of reads)) room fits

-- and what is left then is a record that is cut short, which a buffer of the longest record has room for, and for more.
pub left_when : (reads : List (List ℕ)) (room : List ℕ) → (after room reads).left ≡ rest_of input_whole (all_of reads)
left_when reads room = ap (λ (at : Stood Run). at.left) (stands_so reads room)

pub left_short : (input : List ℕ) → Bytes input → length (rest_of input_whole input) < INPUT_MAX
left_short = inputs.left_short

-- ---- logread

-- Whatever bytes a file has, and the reader's room at first: what is printed block by block is the file's report. That is a line for each
-- record that reading gives, or 22.
pub prints : (file room : List ℕ) → ROOM ≤ length room → printed_by (judged_by (length file)) file room ≡ report file
prints = logs.prints

-- ---- by computing

-- "pdu 0 -"
pub no_bytes : entry_line (Received []) ≡ 112 ∷ 100 ∷ 117 ∷ 32 ∷ 48 ∷ 32 ∷ 45 ∷ 10 ∷ []
unfolding entry_line field decimal digits_in bytes_field
no_bytes = refl

-- "pdu 2 0af0"
pub two_bytes : entry_line (Received (10 ∷ 240 ∷ [])) ≡ 112 ∷ 100 ∷ 117 ∷ 32 ∷ 50 ∷ 32 ∷ 48 ∷ 97 ∷ 102 ∷ 48 ∷ 10 ∷ []
unfolding entry_line field decimal digits_in bytes_field hex_of hex_byte hex_digit
two_bytes = refl

-- "close 7"
pub one_close : entry_line (Closed 7) ≡ 99 ∷ 108 ∷ 111 ∷ 115 ∷ 101 ∷ 32 ∷ 55 ∷ 10 ∷ []
unfolding entry_line field decimal digits_in
one_close = refl

-- no records, no blocks
pub no_records : output_for [] ≡ []
unfolding output_for items_in records_of records_in fit written marked_all blocks_for blocks_from
no_records = refl

-- the close of 7, and three bytes of a record that is cut short: one block, with 6 bytes used
pub cut_short : take 16 (output_for (255 ∷ 255 ∷ 7 ∷ 0 ∷ 0 ∷ 0 ∷ 5 ∷ 0 ∷ 1 ∷ []))
    ≡ 0 ∷ 0 ∷ 6 ∷ 0 ∷ 0 ∷ 0 ∷ 242 ∷ 255 ∷ 255 ∷ 255 ∷ 7 ∷ 0 ∷ 0 ∷ 0 ∷ 0 ∷ 0 ∷ []
unfolding output_for items_in records_of records_in front_of input_whole whole_by needs_of announced entry_in value_at value_of little fit written blocks_from
    blocks_for block_with first_place marked_all marked place record_of close_record bytes_of block_of head_of body_of zeros check_of cleared summed carried
cut_short = refl

-- nothing is printed for an empty file, and "refused 22" for one byte
pub empty_file : report [] ≡ []
unfolding report is_log entries_read records_read read_from lines_of
empty_file = refl

pub one_byte : report (0 ∷ []) ≡ 114 ∷ 101 ∷ 102 ∷ 117 ∷ 115 ∷ 101 ∷ 100 ∷ 32 ∷ 50 ∷ 50 ∷ 10 ∷ []
unfolding report is_log refused_line word_field field decimal digits_in
one_byte = refl

-- One outcome for each input, of every public function: proofs/One
