-- The lines that the programs print. The walker's: "Fields: place from 0; answer [..]; channel, `-` for ready and refusals 1 to 7;
-- number [..]; reply length." The text is ASCII: single spaces, decimal numbers, one LF (10) at the end.
use Rattle.std.specs.Prelude.{ℕ, ◌+◌, ◌*◌, cond, List, [], ◌∷◌, ◌++◌, eqb, take, Option, None, Some}
use Rattle.paper.specs.Sizes.{MESSAGE_MAX}
pub use Rattle.lists.specs.Lines.{LF}
use Rattle.channel.specs.declared.Answer.{Answer}
use Rattle.channel.specs.Answers.{Word, ready, opened, declined, held, message, closed, ignored, refused, word_of}
use Rattle.channel.specs.Answers.{concern_of, number_of}
use Rattle.lines.specs.Decimal.{FIELD_MAX, field}
use Rattle.lines.specs.Hex.{bytes_field}

abbrev pub SPACE : ℕ
SPACE = 32

-- a word's field has at most eight letters and a space
abbrev pub WORD_MAX : ℕ
WORD_MAX = 9

-- the most bytes that a line has, with each number below 2 ^ 64: four numbers and a word
abbrev pub LINE_MAX : ℕ
LINE_MAX = 4 * FIELD_MAX + WORD_MAX

-- the most bytes of an answer's fields: three numbers and a word
abbrev pub ANSWER_MAX : ℕ
ANSWER_MAX = 3 * FIELD_MAX + WORD_MAX

-- "pdu answer channel number reply"
unfoldable pub header_line : List ℕ
header_line =
    112 ∷ 100 ∷ 117 ∷ 32 ∷ 97 ∷ 110 ∷ 115 ∷ 119 ∷ 101 ∷ 114 ∷ 32 ∷ 99 ∷ 104 ∷ 97 ∷ 110 ∷ 110 ∷ 101 ∷ 108 ∷ 32
    ∷ 110 ∷ 117 ∷ 109 ∷ 98 ∷ 101 ∷ 114 ∷ 32 ∷ 114 ∷ 101 ∷ 112 ∷ 108 ∷ 121 ∷ 10 ∷ []

-- the answer's word and a space
unfoldable pub word_field : Word → List ℕ
word_field ready = 114 ∷ 101 ∷ 97 ∷ 100 ∷ 121 ∷ 32 ∷ []
word_field opened = 111 ∷ 112 ∷ 101 ∷ 110 ∷ 101 ∷ 100 ∷ 32 ∷ []
word_field declined = 100 ∷ 101 ∷ 99 ∷ 108 ∷ 105 ∷ 110 ∷ 101 ∷ 100 ∷ 32 ∷ []
word_field held = 104 ∷ 101 ∷ 108 ∷ 100 ∷ 32 ∷ []
word_field message = 109 ∷ 101 ∷ 115 ∷ 115 ∷ 97 ∷ 103 ∷ 101 ∷ 32 ∷ []
word_field closed = 99 ∷ 108 ∷ 111 ∷ 115 ∷ 101 ∷ 100 ∷ 32 ∷ []
word_field ignored = 105 ∷ 103 ∷ 110 ∷ 111 ∷ 114 ∷ 101 ∷ 100 ∷ 32 ∷ []
word_field refused = 114 ∷ 101 ∷ 102 ∷ 117 ∷ 115 ∷ 101 ∷ 100 ∷ 32 ∷ []

-- the channel, "`-` for ready and refusals 1 to 7"
unfoldable pub channel_field : Option ℕ → List ℕ
channel_field None = 45 ∷ SPACE ∷ []
channel_field (Some n) = field n SPACE

-- the fields of what an end answers: a word's field, the channel, a number, and the length of what is sent with the byte that ends it
unfoldable pub fields_text : List ℕ → Option ℕ → ℕ → ℕ → ℕ → List ℕ
fields_text word concern number sent end = ((word ++ channel_field concern) ++ field number SPACE) ++ field sent end

-- the fields of an answer, and a byte that ends them: "answer [..]; channel [..]; number [..]; reply length"
unfoldable pub answer_fields : Answer → ℕ → ℕ → List ℕ
answer_fields answer sent end = fields_text (word_field (word_of answer)) (concern_of answer) (number_of answer) sent end

-- the line of what an end answers: its place, and its fields
unfoldable pub answer_line : ℕ → List ℕ → Option ℕ → ℕ → ℕ → List ℕ
answer_line place word concern number sent = field place SPACE ++ fields_text word concern number sent LF

unfoldable pub line_of : ℕ → Answer → ℕ → List ℕ
line_of place answer sent = field place SPACE ++ answer_fields answer sent LF

-- a place, and a word with its end
unfoldable pub placed_line : ℕ → List ℕ → List ℕ
placed_line place word = field place SPACE ++ word

-- "A last record cut short prints its place and `cut`, and ends the run."
unfoldable pub cut_line_of : ℕ → List ℕ
cut_line_of place = placed_line place (99 ∷ 117 ∷ 116 ∷ 10 ∷ [])

-- "pdu reading"
unfoldable pub reading_header : List ℕ
reading_header = 112 ∷ 100 ∷ 117 ∷ 32 ∷ 114 ∷ 101 ∷ 97 ∷ 100 ∷ 105 ∷ 110 ∷ 103 ∷ 10 ∷ []

-- the most bytes of a refusal's line: a word and a number
abbrev pub REFUSED_MAX : ℕ
REFUSED_MAX = WORD_MAX + FIELD_MAX

-- the line of a refusal: `refused` and its number
unfoldable pub refused_line : ℕ → List ℕ
refused_line n = word_field refused ++ field n LF

-- what reading said of a PDU: `ok`, or the refusal, for which 0 stands where there is none
unfoldable pub verdict_field : ℕ → List ℕ
verdict_field n = cond (eqb n 0) (111 ∷ 107 ∷ 10 ∷ []) (refused_line n)

-- the line of a PDU that was read: its place, and what reading said of it
unfoldable pub reading_line_of : ℕ → ℕ → List ℕ
reading_line_of place n = field place SPACE ++ verdict_field n

-- "pdu channels awaited"
unfoldable pub totals_header : List ℕ
totals_header =
    112 ∷ 100 ∷ 117 ∷ 32 ∷ 99 ∷ 104 ∷ 97 ∷ 110 ∷ 110 ∷ 101 ∷ 108 ∷ 115 ∷ 32 ∷ 97 ∷ 119 ∷ 97 ∷ 105 ∷ 116 ∷ 101 ∷ 100 ∷ 10 ∷ []

-- the line of the totals after a PDU: its place, the open channels, and the bytes still to come
unfoldable pub totals_line_of : ℕ → ℕ → ℕ → List ℕ
totals_line_of place channels awaited = (field place SPACE ++ field channels SPACE) ++ field awaited LF

-- the line of a message handed up: the place of the record that brought it, its channel, and its bytes, of which a
-- message has at most 4,096
unfoldable pub message_line_of : ℕ → ℕ → List ℕ → List ℕ
message_line_of place number bytes = ((field place SPACE ++ field number SPACE) ++ bytes_field (take MESSAGE_MAX bytes)) ++ (LF ∷ [])

-- the most bytes that such a line has: two numbers, two digits a byte, and its end
unfoldable pub MESSAGE_LINE_MAX : ℕ
MESSAGE_LINE_MAX = 2 * FIELD_MAX + 2 * MESSAGE_MAX + 1
