-- A message handed up, in the store and in its line.
use Rattle.std.specs.Prelude.{ℕ, Option, None, Some, List, [], take}
use Rattle.store.specs.Parts.{part}
use Rattle.channel.specs.declared.Answer.{Answer}
use Rattle.shore.specs.declared.Said.{Said}
use Rattle.lines.specs.declared.Handed.{Handed}
use Rattle.lines.specs.Lines.{message_line_of}
use Rattle.lines.specs.Spoken.{message_of}
use Rattle.saying.specs.Saying.{message_in}

-- "A handed-up message of n bytes is the first n bytes of that part.": of the part at the place that stands beside the
-- answer
unfoldable pub handed_up : List ℕ → ℕ → ℕ → List ℕ
handed_up store at n = take n (part store at)

-- a line for a message handed up, and nothing for any other answer
unfoldable pub handed_text : ℕ → ℕ → List ℕ → Option Handed → List ℕ
handed_text place at store None = []
handed_text place at store (Some m) = message_line_of place m.number (handed_up store at m.len)

-- of the client's answer, and of what the shore says
unfoldable pub message_text : ℕ → ℕ → List ℕ → Answer → List ℕ
message_text place at store answer = handed_text place at store (message_of answer)

unfoldable pub message_said : ℕ → ℕ → List ℕ → Said → List ℕ
message_said place at store said = handed_text place at store (message_in said)
