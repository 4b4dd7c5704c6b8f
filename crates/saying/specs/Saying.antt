-- The lines of the shore's walker and of both ends: "place (from 0); `asked`, `ready`, `awaited`, `opened`, `declined`, `held`,
-- `message`, `closed`, `ignored` or `refused`; the channel, or `-` [..]; number [..]; the length of what is sent". The text is
-- ASCII: single spaces, decimal numbers, one LF (10) at the end.
use Rattle.std.specs.Prelude.{ℕ, Option, None, Some, List, [], ◌∷◌, ◌++◌}
use Rattle.channel.specs.Answers as client
use Rattle.lines.specs.Decimal.{field}
use Rattle.lines.specs.Lines.{SPACE, LF, word_field, fields_text, placed_line}
use Rattle.lines.specs.declared.Handed.{Handed}
use Rattle.shore.specs.declared.Said.{Said}
use Rattle.shore.specs.declared.Said.TheVariants.{Asked, Ready, Awaited, Opened, Declined, Held, Message, Closed, Ignored, Refused}
use Rattle.shore.specs.Saying.{Word, asked, ready, awaited, opened, declined, held, message, closed, ignored, refused}
use Rattle.shore.specs.Saying.{word_said, concern_said, number_said}
use Rattle.saying.specs.declared.End.{End}
use Rattle.saying.specs.declared.End.TheVariants.{Shore, Panel}

-- the answer's word and a space: two of its own, and those of the walker
unfoldable pub said_field : Word → List ℕ
said_field asked = 97 ∷ 115 ∷ 107 ∷ 101 ∷ 100 ∷ 32 ∷ []
said_field awaited = 97 ∷ 119 ∷ 97 ∷ 105 ∷ 116 ∷ 101 ∷ 100 ∷ 32 ∷ []
said_field ready = word_field client.ready
said_field opened = word_field client.opened
said_field declined = word_field client.declined
said_field held = word_field client.held
said_field message = word_field client.message
said_field closed = word_field client.closed
said_field ignored = word_field client.ignored
said_field refused = word_field client.refused

-- what is said of a call: its answer's word, channel and number, and the length of what is sent
unfoldable pub said_text : Said → ℕ → List ℕ
said_text said sent = fields_text (said_field (word_said said)) (concern_said said) (number_said said) sent LF

-- the message that is handed up
unfoldable pub message_in : Said → Option Handed
message_in (Asked version) = None
message_in (Ready level) = None
message_in (Awaited number) = None
message_in (Opened number) = None
message_in (Declined number) = None
message_in (Held number left) = None
message_in (Message number n) = Some (record { number = number; len = n })
message_in (Closed number) = None
message_in (Ignored number) = None
message_in (Refused why concern) = None

-- ---- the shore's walker

-- "a first line `event answer channel number sent`"
unfoldable pub desk_header : List ℕ
desk_header =
    101 ∷ 118 ∷ 101 ∷ 110 ∷ 116 ∷ 32 ∷ 97 ∷ 110 ∷ 115 ∷ 119 ∷ 101 ∷ 114 ∷ 32 ∷ 99 ∷ 104 ∷ 97 ∷ 110 ∷ 110 ∷ 101 ∷ 108 ∷ 32
    ∷ 110 ∷ 117 ∷ 109 ∷ 98 ∷ 101 ∷ 114 ∷ 32 ∷ 115 ∷ 101 ∷ 110 ∷ 116 ∷ 10 ∷ []

unfoldable pub desk_line_of : ℕ → Said → ℕ → List ℕ
desk_line_of place said sent = field place SPACE ++ said_text said sent

-- ---- both ends

-- "end event answer channel number sent"
unfoldable pub link_header : List ℕ
link_header =
    101 ∷ 110 ∷ 100 ∷ 32 ∷ 101 ∷ 118 ∷ 101 ∷ 110 ∷ 116 ∷ 32 ∷ 97 ∷ 110 ∷ 115 ∷ 119 ∷ 101 ∷ 114 ∷ 32 ∷ 99 ∷ 104 ∷ 97 ∷ 110 ∷ 110 ∷ 101 ∷ 108 ∷ 32
    ∷ 110 ∷ 117 ∷ 109 ∷ 98 ∷ 101 ∷ 114 ∷ 32 ∷ 115 ∷ 101 ∷ 110 ∷ 116 ∷ 10 ∷ []

-- the end that was called, before the line of its call
unfoldable pub end_field : End → List ℕ
end_field Shore = 115 ∷ 104 ∷ 111 ∷ 114 ∷ 101 ∷ 32 ∷ []
end_field Panel = 112 ∷ 97 ∷ 110 ∷ 101 ∷ 108 ∷ 32 ∷ []

-- an end's field has five letters and a space
abbrev pub END_MAX : ℕ
END_MAX = 6

-- the link drops
unfoldable pub dropped_line_of : ℕ → List ℕ
dropped_line_of place = placed_line place (100 ∷ 114 ∷ 111 ∷ 112 ∷ 112 ∷ 101 ∷ 100 ∷ 10 ∷ [])

-- "Any other leading byte or length: place and `bad`"
unfoldable pub bad_line_of : ℕ → List ℕ
bad_line_of place = placed_line place (98 ∷ 97 ∷ 100 ∷ 10 ∷ [])
