-- Packing is undone: a packed answer gives back every field, and the answer itself.
-- Assumes nothing.
use Rattle.std.specs.Prelude.{Option, None, Some}
use mathlib.Core.Path.{◌≡◌, refl}
use Prim.Native.Nat.{ℕ, ◌<◌, ◌≤◌}
use native.Mathlib.Omega.{arith}
use lib.Dec.{lit≤}
use Rattle.paper.specs.Refusals.{refusal_number}
use Rattle.paper.specs.declared.Refusal.{Refusal}
use Rattle.paper.specs.declared.Refusal.TheVariants.{BadCall, CutShort, TooLong, NoCommand, BadField, BadList, WrongTime, NotOpen}
use Rattle.paper.specs.declared.Refusal.TheVariants.{AlreadyOpen, StillJoining, OverLimit, PastLength, IsSpoiled, NoStart}
use Rattle.paper.specs.declared.Refusal.TheVariants.{AllTaken, NotAwaited, NotSets, Loose, NoPartner, NoRoom, LogFull, NotBlocks}
use Rattle.channel.specs.declared.Decline.{Decline}
use Rattle.channel.specs.declared.Decline.TheVariants.{Unlisted, Full}
use Rattle.channel.specs.declared.Answer.{Answer}
use Rattle.channel.specs.declared.Answer.TheVariants.{Ready, Opened, Declined, Held, Message, Closed, Ignored, Refused}
use Rattle.channel.specs.Answers.{concern_of, number_of, decline_number}
use Rattle.shore.specs.declared.Said.{Said}
use Rattle.shore.specs.declared.Said.TheVariants as shore
use Rattle.shore.specs.Saying.{concern_said, number_said}
use Rattle.packing.specs.Packing.{packed, refused_word, answer_word, said_word, channel_of, answer_place, said_place, packed_answer, packed_said}
use Rattle.packing.specs.Unpacking.{channel_in, number_in, place_in, sent_in, word_in, refusal_of, decline_of, answer_in, said_in, Small, SmallSaid}

-- ---- the fields of a number. A field that is too wide is cut and spoils no other, but for the channel.

module _ (word channel number place sent : ℕ) (c : channel < 4294967296) where
  pub channel_back : channel_in (packed word channel number place sent) ≡ channel
  unfolding channel_in packed
  channel_back = omega arith

  pub number_back : number < 8192 → number_in (packed word channel number place sent) ≡ number
  unfolding number_in packed
  number_back h = omega arith

  pub place_back : place < 16 → place_in (packed word channel number place sent) ≡ place
  unfolding place_in packed
  place_back h = omega arith

  pub sent_back : sent < 2048 → sent_in (packed word channel number place sent) ≡ sent
  unfolding sent_in packed
  sent_back h = omega arith

  pub word_back : word_in (packed word channel number place sent) ≡ word
  unfolding word_in packed
  word_back = omega arith

-- a number with a word isn't 0
pub some_word : (word channel number place sent : ℕ) → 1 ≤ word → 0 < packed word channel number place sent
unfolding packed
some_word word channel number place sent h = omega arith

-- ---- refusals and declines by their numbers

pub refusal_back : (why : Refusal) → refusal_of (refusal_number why) ≡ why
unfolding refusal_of
refusal_back BadCall = refl
refusal_back CutShort = refl
refusal_back TooLong = refl
refusal_back NoCommand = refl
refusal_back BadField = refl
refusal_back BadList = refl
refusal_back WrongTime = refl
refusal_back NotOpen = refl
refusal_back AlreadyOpen = refl
refusal_back StillJoining = refl
refusal_back OverLimit = refl
refusal_back PastLength = refl
refusal_back IsSpoiled = refl
refusal_back NoStart = refl
refusal_back AllTaken = refl
refusal_back NotAwaited = refl
refusal_back NotSets = refl
refusal_back Loose = refl
refusal_back NoPartner = refl
refusal_back NoRoom = refl
refusal_back LogFull = refl
refusal_back NotBlocks = refl

pub decline_back : (why : Decline) → decline_of (decline_number why) ≡ why
unfolding decline_of decline_number
decline_back Unlisted = refl
decline_back Full = refl

-- ---- the client's answer

refused_some : (concern : Option ℕ) → 1 ≤ refused_word concern
unfolding refused_word
refused_some None = lit≤ tt
refused_some (Some n) = lit≤ tt

word_some : (a : Answer) → 1 ≤ answer_word a
unfolding answer_word
word_some (Ready level) = lit≤ tt
word_some (Opened n) = lit≤ tt
word_some (Declined n why) = lit≤ tt
word_some (Held n left) = lit≤ tt
word_some (Message n len) = lit≤ tt
word_some (Closed n) = lit≤ tt
word_some (Ignored n) = lit≤ tt
word_some (Refused why concern) = refused_some concern

module _ (a : Answer) (place sent : ℕ) where
  -- no answer is 0
  pub answer_some : 0 < packed_answer a place sent
  unfolding packed_answer
  answer_some = some_word (answer_word a) (channel_of (concern_of a)) (number_of a) (answer_place a place) sent (word_some a)

  pub answer_sent : Small a → sent < 2048 → sent_in (packed_answer a place sent) ≡ sent
  unfolding packed_answer
  answer_sent s h = sent_back (answer_word a) (channel_of (concern_of a)) (number_of a) (answer_place a place) sent s.channel h

  pub answer_place_law : Small a → answer_place a place < 16 → place_in (packed_answer a place sent) ≡ answer_place a place
  unfolding packed_answer
  answer_place_law s h = place_back (answer_word a) (channel_of (concern_of a)) (number_of a) (answer_place a place) sent s.channel h

-- THE LAW: an answer is got back from its number, whatever the place and however much is sent
pub answer_back : (a : Answer) (place sent : ℕ) → Small a → answer_in (packed_answer a place sent) ≡ a
unfolding answer_in packed_answer answer_word refused_word concern_of channel_of number_of answer_place
answer_back (Ready level) place sent h =
    rw (word_back 2 0 level 0 sent h.channel, number_back 2 0 level 0 sent h.channel h.number)
answer_back (Opened n) place sent h = rw (word_back 9 n 0 0 sent h.channel, channel_back 9 n 0 0 sent h.channel)
answer_back (Declined n why) place sent h =
    rw (
      word_back 10 n (decline_number why) 0 sent h.channel,
      channel_back 10 n (decline_number why) 0 sent h.channel,
      number_back 10 n (decline_number why) 0 sent h.channel h.number,
      decline_back why,
    )
answer_back (Held n left) place sent h =
    rw (
      word_back 11 n left 0 sent h.channel,
      channel_back 11 n left 0 sent h.channel,
      number_back 11 n left 0 sent h.channel h.number,
    )
answer_back (Message n len) place sent h =
    rw (
      word_back 12 n len place sent h.channel,
      channel_back 12 n len place sent h.channel,
      number_back 12 n len place sent h.channel h.number,
    )
answer_back (Closed n) place sent h = rw (word_back 13 n 0 0 sent h.channel, channel_back 13 n 0 0 sent h.channel)
answer_back (Ignored n) place sent h = rw (word_back 14 n 0 0 sent h.channel, channel_back 14 n 0 0 sent h.channel)
answer_back (Refused why None) place sent h =
    rw (
      word_back 7 0 (refusal_number why) 0 sent h.channel,
      number_back 7 0 (refusal_number why) 0 sent h.channel h.number,
      refusal_back why,
    )
answer_back (Refused why (Some n)) place sent h =
    rw (
      word_back 15 n (refusal_number why) 0 sent h.channel,
      channel_back 15 n (refusal_number why) 0 sent h.channel,
      number_back 15 n (refusal_number why) 0 sent h.channel h.number,
      refusal_back why,
    )

-- ---- the shore's

said_word_some : (s : Said) → 1 ≤ said_word s
unfolding said_word
said_word_some (shore.Asked version) = lit≤ tt
said_word_some (shore.Ready level) = lit≤ tt
said_word_some (shore.Awaited n) = lit≤ tt
said_word_some (shore.Opened n) = lit≤ tt
said_word_some (shore.Declined n) = lit≤ tt
said_word_some (shore.Held n left) = lit≤ tt
said_word_some (shore.Message n len) = lit≤ tt
said_word_some (shore.Closed n) = lit≤ tt
said_word_some (shore.Ignored n) = lit≤ tt
said_word_some (shore.Refused why concern) = refused_some concern

module _ (s : Said) (place sent : ℕ) where
  -- no answer is 0
  pub said_some : 0 < packed_said s place sent
  unfolding packed_said
  said_some = some_word (said_word s) (channel_of (concern_said s)) (number_said s) (said_place s place) sent (said_word_some s)

  pub said_sent : SmallSaid s → sent < 2048 → sent_in (packed_said s place sent) ≡ sent
  unfolding packed_said
  said_sent k h = sent_back (said_word s) (channel_of (concern_said s)) (number_said s) (said_place s place) sent k.channel h

  pub said_place_law : SmallSaid s → said_place s place < 16 → place_in (packed_said s place sent) ≡ said_place s place
  unfolding packed_said
  said_place_law k h = place_back (said_word s) (channel_of (concern_said s)) (number_said s) (said_place s place) sent k.channel h

-- THE LAW
pub said_back : (s : Said) (place sent : ℕ) → SmallSaid s → said_in (packed_said s place sent) ≡ s
unfolding said_in packed_said said_word refused_word concern_said channel_of number_said said_place
said_back (shore.Asked version) place sent h =
    rw (word_back 1 0 version 0 sent h.channel, number_back 1 0 version 0 sent h.channel h.number)
said_back (shore.Ready level) place sent h =
    rw (word_back 2 0 level 0 sent h.channel, number_back 2 0 level 0 sent h.channel h.number)
said_back (shore.Awaited n) place sent h = rw (word_back 8 n 0 0 sent h.channel, channel_back 8 n 0 0 sent h.channel)
said_back (shore.Opened n) place sent h = rw (word_back 9 n 0 0 sent h.channel, channel_back 9 n 0 0 sent h.channel)
said_back (shore.Declined n) place sent h = rw (word_back 10 n 0 0 sent h.channel, channel_back 10 n 0 0 sent h.channel)
said_back (shore.Held n left) place sent h =
    rw (
      word_back 11 n left 0 sent h.channel,
      channel_back 11 n left 0 sent h.channel,
      number_back 11 n left 0 sent h.channel h.number,
    )
said_back (shore.Message n len) place sent h =
    rw (
      word_back 12 n len place sent h.channel,
      channel_back 12 n len place sent h.channel,
      number_back 12 n len place sent h.channel h.number,
    )
said_back (shore.Closed n) place sent h = rw (word_back 13 n 0 0 sent h.channel, channel_back 13 n 0 0 sent h.channel)
said_back (shore.Ignored n) place sent h = rw (word_back 14 n 0 0 sent h.channel, channel_back 14 n 0 0 sent h.channel)
said_back (shore.Refused why None) place sent h =
    rw (
      word_back 7 0 (refusal_number why) 0 sent h.channel,
      number_back 7 0 (refusal_number why) 0 sent h.channel h.number,
      refusal_back why,
    )
said_back (shore.Refused why (Some n)) place sent h =
    rw (
      word_back 15 n (refusal_number why) 0 sent h.channel,
      channel_back 15 n (refusal_number why) 0 sent h.channel,
      number_back 15 n (refusal_number why) 0 sent h.channel h.number,
      refusal_back why,
    )
