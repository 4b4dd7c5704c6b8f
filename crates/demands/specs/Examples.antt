-- Calls and runs for examples. PUMP is the one listener, and a reply buffer has nine bytes.
use Rattle.std.specs.Prelude.{ℕ, List, [], ◌∷◌, length, None, Some}
use Rattle.std.proofs.Common.{lit≤}
use Rattle.paper.specs.Sizes.{STORE, REPLY_MIN}
use Rattle.paper.specs.Statuses.{OPENED}
use Rattle.lists.specs.Bytes.{zeros}
use Rattle.laying.specs.Laying.{create_response_bytes, close_bytes}
use Rattle.paper.specs.declared.Refusal.TheVariants.{CutShort, IsSpoiled}
use Rattle.channel.specs.declared.Answer.{Answer}
use Rattle.channel.specs.declared.Answer.TheVariants.{Opened, Held, Message, Closed, Refused}
use Rattle.connection.specs.States.{State}
use Rattle.demands.specs.Runs.{Entry, receives, closes, Call, after, Told, started_on}
use Rattle.demands.specs.Telling.{tells_none}

unfoldable pub call : Entry → Call
unfolding REPLY_MIN zeros
call a = record { asked = a; reply = zeros REPLY_MIN; enough = lit≤ tt }

unfoldable pub PUMP : List ℕ
PUMP = 0x50 ∷ 0x55 ∷ 0x4D ∷ 0x50 ∷ 0 ∷ []

unfoldable pub asks : List ℕ → Call
asks pdu = call (receives PUMP pdu)

-- a Capabilities request of version 3, with charges of 0
unfoldable pub hello_pdu : List ℕ
hello_pdu = 0x50 ∷ 0 ∷ 3 ∷ 0 ∷ 0 ∷ 0 ∷ 0 ∷ 0 ∷ 0 ∷ 0 ∷ 0 ∷ 0 ∷ []

unfoldable pub hello : Call
hello = asks hello_pdu

-- a Create request for PUMP
unfoldable pub opens : ℕ → Call
opens n = asks (0x10 ∷ n ∷ PUMP)

-- a Close, and a close by the host
unfoldable pub closed : ℕ → Call
closed n = asks (0x40 ∷ n ∷ [])

unfoldable pub closed_here : ℕ → Call
closed_here n = call (closes n)

-- a Data First of so many bytes, with the first of them
unfoldable pub begins : ℕ → ℕ → List ℕ → Call
begins n len block = asks (0x20 ∷ n ∷ len ∷ block)

unfoldable pub brings : ℕ → List ℕ → Call
brings n block = asks (0x30 ∷ n ∷ block)

-- a garbled block: a Data First that ends inside its Length
unfoldable pub garbles : ℕ → Call
garbles n = asks (0x24 ∷ n ∷ 1 ∷ [])

-- what is told: an answer with a reply, or a message
unfoldable pub replies : Answer → List ℕ → Told
replies a bytes = record { answer = a; reply = bytes; message = [] }

unfoldable pub hands : ℕ → List ℕ → Told
hands n message = record { answer = Message n (length message); reply = []; message = message ∷ [] }

-- a connection just made ready
unfoldable pub just_ready : State
just_ready = after (started_on (zeros STORE)) hello

-- ---- channel 5 beside few, and beside many

-- beside one stranger, whose channel is spoiled by a garbled block, closed and opened again
unfoldable pub beside_few : List Call
beside_few =
    opens 5
    ∷ opens 6
    ∷ begins 5 3 (1 ∷ [])
    ∷ garbles 6
    ∷ brings 5 (2 ∷ 3 ∷ [])
    ∷ brings 6 (4 ∷ [])
    ∷ garbles 5
    ∷ closed 6
    ∷ brings 5 (9 ∷ [])
    ∷ opens 6
    ∷ closed_here 5
    ∷ brings 6 (4 ∷ [])
    ∷ opens 5
    ∷ brings 5 (7 ∷ 8 ∷ [])
    ∷ []

-- beside sixteen, who fill the table: 17 is declined, and opened once 16 was spoiled and closed
unfoldable pub beside_many : List Call
beside_many =
    opens 1 ∷ opens 2 ∷ opens 3 ∷ opens 4
    ∷ opens 5
    ∷ opens 6 ∷ opens 7 ∷ opens 8 ∷ opens 9 ∷ opens 10 ∷ opens 11 ∷ opens 12 ∷ opens 13 ∷ opens 14 ∷ opens 15 ∷ opens 16
    ∷ begins 5 3 (1 ∷ [])
    ∷ opens 17
    ∷ begins 16 3 (6 ∷ [])
    ∷ brings 5 (2 ∷ 3 ∷ [])
    ∷ garbles 5
    ∷ garbles 16
    ∷ asks (0x80 ∷ [])
    ∷ brings 5 (9 ∷ [])
    ∷ closed 16
    ∷ opens 17
    ∷ closed_here 5
    ∷ opens 5
    ∷ brings 17 (4 ∷ [])
    ∷ brings 5 (7 ∷ 8 ∷ [])
    ∷ []

-- what 5 is told in both
unfoldable pub told_to_five : List Told
told_to_five =
    replies (Opened 5) (create_response_bytes 5 OPENED)
    ∷ tells_none (Held 5 2)
    ∷ hands 5 (1 ∷ 2 ∷ 3 ∷ [])
    ∷ tells_none (Refused CutShort None)
    ∷ tells_none (Refused IsSpoiled (Some 5))
    ∷ replies (Closed 5) (close_bytes 5)
    ∷ replies (Opened 5) (create_response_bytes 5 OPENED)
    ∷ hands 5 (7 ∷ 8 ∷ [])
    ∷ []

-- ---- channel 5 alone, or behind sixteen

unfoldable pub alone : List Call
alone = opens 5 ∷ []

-- and then a message of a stranger's
unfoldable pub behind_sixteen : List Call
behind_sixteen =
    opens 1 ∷ opens 2 ∷ opens 3 ∷ opens 4 ∷ opens 6 ∷ opens 7 ∷ opens 8 ∷ opens 9
    ∷ opens 10 ∷ opens 11 ∷ opens 12 ∷ opens 13 ∷ opens 14 ∷ opens 15 ∷ opens 16 ∷ opens 17
    ∷ opens 5
    ∷ brings 6 (7 ∷ 8 ∷ [])
    ∷ []
