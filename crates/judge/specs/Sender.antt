-- The program `sender`: its input, its one line, and a run over the input in pieces.
use Rattle.std.specs.Prelude.{ℕ, ◌+◌, ◌-◌, Bool, cond, not, ◌&&◌, List, [], ◌∷◌, ◌++◌, length, take, drop, ◌==◌, nat_lt}
use Rattle.numbers.specs.Numbers.{value_of, value_at}
use Rattle.lines.specs.Decimal.{field}
use Rattle.lines.specs.Lines.{SPACE}
use Rattle.records.specs.Items.{Stood}
use Rattle.records.specs.Pdus.{stood_after, after_reads}
use Rattle.judge.specs.declared.Reason.{Reason}
use Rattle.judge.specs.declared.Reason.TheVariants.{Reading, Kind, OtherChannel, Steps, Before}
use Rattle.judge.specs.declared.Course.{Course}
use Rattle.judge.specs.declared.Judgement.{Judgement}
use Rattle.judge.specs.declared.Judgement.TheVariants.{Yes, No, Early, Differs}
use Rattle.records.specs.declared.Stand.{Stand}
use Rattle.judge.specs.Judge.{course_after, beginning, judgement_on}

-- ---- the input: "number 4 bytes, message length 2 bytes, message, then the PDUs as in the walker"

-- the bytes of the number, and of number and length
abbrev pub NUMBER : ℕ
NUMBER = 4

abbrev pub HEAD : ℕ
HEAD = 6

-- the most bytes before the PDUs
abbrev pub HEAD_MAX : ℕ
HEAD_MAX = HEAD + 65535

-- how many bytes stand before the PDUs, as far as those that are there can tell
unfoldable pub head_needs : List ℕ → ℕ
head_needs input = cond (nat_lt (length input) HEAD) HEAD (HEAD + value_at input NUMBER (HEAD - NUMBER))

abbrev pub number_in : List ℕ → ℕ
number_in head = value_of (take NUMBER head)

abbrev pub message_in : List ℕ → List ℕ
message_in head = drop HEAD head

-- ---- the line

-- the most bytes of a reason's word
abbrev pub REASON_MAX : ℕ
REASON_MAX = 8

unfoldable pub reason_field : Reason → List ℕ
reason_field Reading = 114 ∷ 101 ∷ 97 ∷ 100 ∷ 105 ∷ 110 ∷ 103 ∷ 10 ∷ []
reason_field Kind = 107 ∷ 105 ∷ 110 ∷ 100 ∷ 10 ∷ []
reason_field OtherChannel = 99 ∷ 104 ∷ 97 ∷ 110 ∷ 110 ∷ 101 ∷ 108 ∷ 10 ∷ []
reason_field Steps = 115 ∷ 116 ∷ 101 ∷ 112 ∷ 115 ∷ 10 ∷ []
reason_field Before = 98 ∷ 101 ∷ 102 ∷ 111 ∷ 114 ∷ 101 ∷ 10 ∷ []

-- "`yes`; `no PLACE reading`, `kind`, `channel`, `steps` or `before`; `no early`; `no bytes`"
unfoldable pub judgement_line : Judgement → List ℕ
judgement_line Yes = 121 ∷ 101 ∷ 115 ∷ 10 ∷ []
judgement_line (No place why) = ((110 ∷ 111 ∷ 32 ∷ []) ++ field place SPACE) ++ reason_field why
judgement_line Early = 110 ∷ 111 ∷ 32 ∷ 101 ∷ 97 ∷ 114 ∷ 108 ∷ 121 ∷ 10 ∷ []
judgement_line Differs = 110 ∷ 111 ∷ 32 ∷ 98 ∷ 121 ∷ 116 ∷ 101 ∷ 115 ∷ 10 ∷ []

-- "Input too short for number and message, or a last record cut short: the one line `cut`."
unfoldable pub cut_line : List ℕ
cut_line = 99 ∷ 117 ∷ 116 ∷ 10 ∷ []

-- whether number and message are there whole
unfoldable pub is_whole : List ℕ → Bool
is_whole head = not (nat_lt (length head) (head_needs head))

-- the line at the end of the input, with so many bytes left behind the last whole record
unfoldable pub line_at : List ℕ → Course → ℕ → List ℕ
line_at head course left = cond (is_whole head && left == 0) (judgement_line (judgement_on course)) cut_line

-- ---- a run

-- where it stands, by what a walk over the PDUs keeps and leaves
abbrev pub stand_of : Stood Course → Stand Course
stand_of at = record { course = at.kept; had = length at.left }

-- the bytes that are there, behind a course: the whole records are judged, and the rest is left
unfoldable pub turned : ℕ → List ℕ → Course → List ℕ → Stand Course
turned n message course input = stand_of (stood_after (course_after n message) course input)

-- where a run begins
unfoldable pub at_first : Stand Course
at_first = record { course = beginning; had = 0 }

-- all that the program writes for an input
unfoldable pub sender_says : List ℕ → List ℕ
sender_says input =
    let head = take (head_needs input) input in
    let stand = turned (number_in head) (message_in head) beginning (drop (head_needs input) input) in
    line_at head stand.course stand.had

-- the same in pieces
unfoldable pub in_pieces : ℕ → List ℕ → List (List ℕ) → Stand Course
in_pieces n message pieces = stand_of (after_reads (course_after n message) (record { kept = beginning; left = [] }) pieces)

-- what is said at the end of a run: `head` was read first, as far as it needs, and then the pieces
unfoldable pub said_at_end : List ℕ → List (List ℕ) → List ℕ
said_at_end head pieces =
    let stand = in_pieces (number_in head) (message_in head) pieces in
    line_at head stand.course stand.had
