-- An answer in one number of 64 bits: the channel in bits 0 to 31, the paper's number in bits 32 to 44, the place of the message in bits
-- 45 to 48, how many bytes to send in bits 49 to 59, and the word in bits 60 to 63. Bit 63 says that there is a channel.
use Rattle.std.specs.Prelude.{ℕ, ◌+◌, ◌*◌, ◌%◌, Option, None, Some}
use Rattle.channel.specs.declared.Answer.{Answer}
use Rattle.channel.specs.declared.Answer.TheVariants.{Ready, Opened, Declined, Held, Message, Closed, Ignored, Refused}
use Rattle.channel.specs.Answers.{concern_of, number_of}
use Rattle.shore.specs.declared.Said.{Said}
use Rattle.shore.specs.declared.Said.TheVariants as shore
use Rattle.shore.specs.Saying.{concern_said, number_said}

unfoldable pub packed : ℕ → ℕ → ℕ → ℕ → ℕ → ℕ
packed word channel number place sent =
    channel + 4294967296 * (number % 8192 + 8192 * (place % 16 + 16 * (sent % 2048 + 2048 * word)))

-- ---- the words: below 8 those without a channel

abbrev pub COUNTED : ℕ
COUNTED = 3

-- refused, with a channel or without
unfoldable pub refused_word : Option ℕ → ℕ
refused_word None = 7
refused_word (Some n) = 15

unfoldable pub answer_word : Answer → ℕ
answer_word (Ready level) = 2
answer_word (Opened n) = 9
answer_word (Declined n why) = 10
answer_word (Held n left) = 11
answer_word (Message n len) = 12
answer_word (Closed n) = 13
answer_word (Ignored n) = 14
answer_word (Refused why concern) = refused_word concern

unfoldable pub said_word : Said → ℕ
said_word (shore.Asked version) = 1
said_word (shore.Ready level) = 2
said_word (shore.Awaited n) = 8
said_word (shore.Opened n) = 9
said_word (shore.Declined n) = 10
said_word (shore.Held n left) = 11
said_word (shore.Message n len) = 12
said_word (shore.Closed n) = 13
said_word (shore.Ignored n) = 14
said_word (shore.Refused why concern) = refused_word concern

-- ---- the channel, or 0 without one

unfoldable pub channel_of : Option ℕ → ℕ
channel_of None = 0
channel_of (Some n) = n

-- ---- the place, of a message

unfoldable pub answer_place : Answer → ℕ → ℕ
answer_place (Ready level) place = 0
answer_place (Opened n) place = 0
answer_place (Declined n why) place = 0
answer_place (Held n left) place = 0
answer_place (Message n len) place = place
answer_place (Closed n) place = 0
answer_place (Ignored n) place = 0
answer_place (Refused why concern) place = 0

unfoldable pub said_place : Said → ℕ → ℕ
said_place (shore.Asked version) place = 0
said_place (shore.Ready level) place = 0
said_place (shore.Awaited n) place = 0
said_place (shore.Opened n) place = 0
said_place (shore.Declined n) place = 0
said_place (shore.Held n left) place = 0
said_place (shore.Message n len) place = place
said_place (shore.Closed n) place = 0
said_place (shore.Ignored n) place = 0
said_place (shore.Refused why concern) place = 0

-- ---- an answer of either end, packed

unfoldable pub packed_answer : Answer → ℕ → ℕ → ℕ
packed_answer a place sent = packed (answer_word a) (channel_of (concern_of a)) (number_of a) (answer_place a place) sent

unfoldable pub packed_said : Said → ℕ → ℕ → ℕ
packed_said s place sent = packed (said_word s) (channel_of (concern_said s)) (number_said s) (said_place s place) sent

-- ---- as the code packs: the channel is the one that was asked of. proofs/Own shows that this is the same.

unfoldable pub channel_for : ℕ → Option ℕ → ℕ
channel_for n None = 0
channel_for n (Some m) = n

unfoldable pub packed_for : ℕ → Answer → ℕ → ℕ → ℕ
packed_for n a place sent = packed (answer_word a) (channel_for n (concern_of a)) (number_of a) (answer_place a place) sent

unfoldable pub packed_said_for : ℕ → Said → ℕ → ℕ → ℕ
packed_said_for n s place sent = packed (said_word s) (channel_for n (concern_said s)) (number_said s) (said_place s place) sent
