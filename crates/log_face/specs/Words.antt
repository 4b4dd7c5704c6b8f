-- What a host in C keeps of a log: a log and a reader each in one number, and an answer as that number or as a refusal's below zero.
use Rattle.std.specs.Prelude.{ℕ, ◌+◌, ◌*◌, ◌/◌, ◌%◌, Bool, cond, List, ltb, eqb, ℤ, pos, neg_ℤ, Result, Ok, Err}
use Rattle.paper.specs.Refusals.{refusal_number}
use Rattle.paper.specs.declared.Refusal.TheVariants.{BadCall}
use Rattle.linklog.specs.declared.Log.{Log}
use Rattle.linklog.specs.declared.End.{End}
use Rattle.linklog.specs.declared.Reader.{Reader}
use Rattle.linklog.specs.Appending.{answer_for, room_then}
use Rattle.linklog.specs.Turns.{turned_to, room_after}
use Rattle.linklog.specs.Taking.{took_back, room_back}
use Rattle.paper.specs.declared.Refusal.{Refusal}

-- ---- a log

-- the held blocks below eight, and the log's blocks above
abbrev pub HELDS : ℕ
HELDS = 8

-- no log has such a number, or a greater one
abbrev pub LOGS : ℕ
LOGS = 524296

unfoldable pub log_word : Log → ℕ
log_word log = log.held + HELDS * log.blocks

unfoldable pub log_in : ℕ → Log
log_in word = record { blocks = word / HELDS; held = word % HELDS }

unfoldable pub refused_as : ℕ → ℤ
refused_as number = neg_ℤ (pos number)

-- an answer as a number, by that of what it tells
abbrev pub number_of : {A : Type 0} → (A → ℕ) → Result A Refusal → ℤ
number_of word (Ok kept) = pos (word kept)
number_of word (Err why) = refused_as (refusal_number why)

unfoldable pub log_number : Result Log Refusal → ℤ
log_number = number_of log_word

-- what a call answers for a number that may be a log's
unfoldable pub append_number : ℕ → List ℕ → List ℕ → ℤ
append_number word room bytes = cond (ltb word LOGS) (log_number (answer_for (log_in word) room bytes)) (refused_as (refusal_number BadCall))

unfoldable pub append_room : ℕ → List ℕ → List ℕ → List ℕ
append_room word room bytes = cond (ltb word LOGS) (room_then (log_in word) room bytes) room

-- ---- a reader

-- how many numbers its parts have, from the lowest up: the bytes of whole records, those behind them, whether it is within a record, the
-- blocks up to the end of the last whole record, and the bytes that the last of these uses
abbrev pub WHOLES : ℕ
WHOLES = 4096

abbrev pub BEHINDS : ℕ
BEHINDS = 2048

abbrev pub ENDS : ℕ
ENDS = 131072

abbrev pub USEDS : ℕ
USEDS = 512

-- no reader has such a number, or a greater one
abbrev pub READS : ℕ
READS = 1125899906842624

unfoldable pub bit : Bool → ℕ
bit b = cond b 1 0

unfoldable pub end_word : End → ℕ
end_word end = end.blocks % ENDS + ENDS * (end.used % USEDS)

unfoldable pub read_word : Reader → ℕ
read_word reader = reader.whole % WHOLES + WHOLES * (reader.behind % BEHINDS + BEHINDS * (bit reader.within + 2 * end_word reader.end))

unfoldable pub end_in : ℕ → End
end_in word = record { blocks = word % ENDS; used = word / ENDS % USEDS }

unfoldable pub read_in : ℕ → Reader
read_in word =
    record {
      within = eqb (word / WHOLES / BEHINDS % 2) 1;
      whole = word % WHOLES;
      behind = word / WHOLES % BEHINDS;
      end = end_in (word / WHOLES / BEHINDS / 2);
    }

unfoldable pub read_number : Result Reader Refusal → ℤ
read_number = number_of read_word

unfoldable pub turn_number : ℕ → ℕ → ℕ → List ℕ → List ℕ → ℤ
turn_number word blocks number block room =
    cond (ltb word READS) (read_number (turned_to (read_in word) blocks number block room)) (refused_as (refusal_number BadCall))

unfoldable pub turn_room : ℕ → ℕ → ℕ → List ℕ → List ℕ → List ℕ
turn_room word blocks number block room = cond (ltb word READS) (room_after (read_in word) blocks number block room) room

unfoldable pub back_number : ℕ → List ℕ → ℤ
back_number word room = cond (ltb word READS) (log_number (took_back (read_in word).end room)) (refused_as (refusal_number BadCall))

unfoldable pub back_room : ℕ → List ℕ → List ℕ
back_room word room = cond (ltb word READS) (room_back (read_in word).end room) room
