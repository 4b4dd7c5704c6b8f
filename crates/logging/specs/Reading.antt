-- What is printed for a log: the lines of its records, block by block as a reader goes, or a refusal.
use Rattle.std.specs.Prelude.{ℕ, zero, suc, ◌/◌, cond, List, [], ◌++◌, map, length, take, drop, Result, Ok, Err}
use Rattle.paper.specs.declared.Refusal.TheVariants.{NotBlocks}
use Rattle.paper.specs.Refusals.{refusal_number}
use Rattle.lines.specs.Lines.{refused_line}
use Rattle.blocks.specs.Block.{BLOCK}
use Rattle.linklog.specs.declared.Reader.{Reader}
use Rattle.linklog.specs.Records.{entry_in}
use Rattle.linklog.specs.Reading.{is_log, entries_read}
use Rattle.linklog.specs.Turns.{at_first, is_reader, gave_to, turned_to, room_after}
use Rattle.logging.specs.declared.Told.{Told}
use Rattle.logging.specs.Lines.{lines_of}
use Rattle.paper.specs.declared.Refusal.{Refusal}

-- "A line for each record; on 22 the line `refused 22` alone": all that is printed for a file
unfoldable pub report : List ℕ → List ℕ
report file = cond (is_log (length file)) (lines_of (entries_read file)) (refused_line (refusal_number NotBlocks))

-- ---- on its way

-- "22, file not whole blocks or more than 65,536": by its size alone, before any record is given
unfoldable pub judged_by : ℕ → Result ℕ Refusal
judged_by size = cond (is_log size) (Ok (size / BLOCK)) (Err NotBlocks)

-- the lines of what a block gives to a reader
unfoldable pub text_of : Reader → ℕ → ℕ → List ℕ → List ℕ → List ℕ
text_of reader blocks number block room = cond (is_reader reader room) (lines_of (map entry_in (gave_to reader blocks number block room).given)) []

-- where it stands then
unfoldable pub told_with : ℕ → Result Reader Refusal → Result Told Refusal
told_with laid (Ok next) = Ok (record { reader = next; laid = laid })
told_with laid (Err why) = Err why

unfoldable pub told_by : Reader → ℕ → ℕ → List ℕ → List ℕ → Result Told Refusal
told_by reader blocks number block room = told_with (length (text_of reader blocks number block room)) (turned_to reader blocks number block room)

-- a reader that is refused stays where it was
abbrev pub reader_then : Reader → Result Told Refusal → Reader
reader_then reader (Ok told) = told.reader
reader_then reader (Err why) = reader

-- all that is printed for so many blocks, from a number on
unfoldable pub told_from : ℕ → Reader → ℕ → ℕ → List ℕ → List ℕ → List ℕ
told_from zero reader blocks number file room = []
told_from (suc n) reader blocks number file room =
    text_of reader blocks number (take BLOCK file) room
    ++ told_from n (reader_then reader (told_by reader blocks number (take BLOCK file) room)) blocks (suc number) (drop BLOCK file)
    (room_after reader blocks number (take BLOCK file) room)

-- and for a file of which that is known by its size
unfoldable pub printed_by : Result ℕ Refusal → List ℕ → List ℕ → List ℕ
printed_by (Ok n) file room = told_from n at_first n 0 file room
printed_by (Err why) file room = refused_line (refusal_number why)
