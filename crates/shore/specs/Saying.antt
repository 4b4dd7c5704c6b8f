-- An answer of the shore end in the paper's terms: the desk's word, the channel and the number.
use Rattle.std.specs.Prelude.{ℕ, Option, None, Some}
use Rattle.paper.specs.Refusals.{refusal_number}
use Rattle.channel.specs.declared.Answer.{Answer}
use Rattle.channel.specs.declared.Answer.TheVariants as client
use Rattle.shore.specs.declared.Said.{Said}
use Rattle.shore.specs.declared.Said.TheVariants.{Asked, Ready, Awaited, Opened, Declined, Held, Message, Closed, Ignored, Refused}

-- the desk's ten words
pub data Word : Type 0 where
  asked ready awaited opened declined held message closed ignored refused : Word

unfoldable pub word_said : Said → Word
word_said (Asked version) = asked
word_said (Ready level) = ready
word_said (Awaited n) = awaited
word_said (Opened n) = opened
word_said (Declined n) = declined
word_said (Held n left) = held
word_said (Message n len) = message
word_said (Closed n) = closed
word_said (Ignored n) = ignored
word_said (Refused why concern) = refused

-- the channel, "or `-` for asked, ready, refusals 1 to 7 and 15 and every refusal of the request or a local open"
unfoldable pub concern_said : Said → Option ℕ
concern_said (Asked version) = None
concern_said (Ready level) = None
concern_said (Awaited n) = Some n
concern_said (Opened n) = Some n
concern_said (Declined n) = Some n
concern_said (Held n left) = Some n
concern_said (Message n len) = Some n
concern_said (Closed n) = Some n
concern_said (Ignored n) = Some n
concern_said (Refused why concern) = concern

-- "number: the version for asked, the level for ready, bytes still to come, message length, refusal number, else 0"
unfoldable pub number_said : Said → ℕ
number_said (Asked version) = version
number_said (Ready level) = level
number_said (Awaited n) = 0
number_said (Opened n) = 0
number_said (Declined n) = 0
number_said (Held n left) = left
number_said (Message n len) = len
number_said (Closed n) = 0
number_said (Ignored n) = 0
number_said (Refused why concern) = refusal_number why

-- what the rules answer that both ends have in common, said at this end
unfoldable pub said_as : Answer → Said
said_as (client.Ready level) = Ready level
said_as (client.Opened n) = Opened n
said_as (client.Declined n why) = Declined n
said_as (client.Held n left) = Held n left
said_as (client.Message n len) = Message n len
said_as (client.Closed n) = Closed n
said_as (client.Ignored n) = Ignored n
said_as (client.Refused why concern) = Refused why concern
