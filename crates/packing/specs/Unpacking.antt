-- A packed answer, taken apart: what the header's helpers do.
use Rattle.std.specs.Prelude.{ℕ, ◌-◌, ◌/◌, ◌%◌, ◌<◌, cond, [], ◌∷◌, eqb, get_or, None, Some}
use Rattle.paper.specs.declared.Refusal.{Refusal}
use Rattle.paper.specs.declared.Refusal.TheVariants.{BadCall, CutShort, TooLong, NoCommand, BadField, BadList, WrongTime, NotOpen}
use Rattle.paper.specs.declared.Refusal.TheVariants.{AlreadyOpen, StillJoining, OverLimit, PastLength, IsSpoiled, NoStart}
use Rattle.paper.specs.declared.Refusal.TheVariants.{AllTaken, NotAwaited, NotSets, Loose, NoPartner, NoRoom, LogFull, NotBlocks}
use Rattle.channel.specs.declared.Decline.{Decline}
use Rattle.channel.specs.declared.Decline.TheVariants.{Unlisted, Full}
use Rattle.channel.specs.declared.Answer.{Answer}
use Rattle.channel.specs.declared.Answer.TheVariants.{Ready, Opened, Declined, Held, Message, Closed, Ignored, Refused}
use Rattle.channel.specs.Answers.{concern_of, number_of}
use Rattle.shore.specs.declared.Said.{Said}
use Rattle.shore.specs.declared.Said.TheVariants as shore
use Rattle.shore.specs.Saying.{concern_said, number_said}
use Rattle.packing.specs.Packing.{channel_of}

unfoldable pub channel_in : ℕ → ℕ
channel_in p = p % 4294967296

unfoldable pub number_in : ℕ → ℕ
number_in p = p / 4294967296 % 8192

unfoldable pub place_in : ℕ → ℕ
place_in p = p / 35184372088832 % 16

unfoldable pub sent_in : ℕ → ℕ
sent_in p = p / 562949953421312 % 2048

unfoldable pub word_in : ℕ → ℕ
word_in p = p / 1152921504606846976

-- the refusal with a number of the paper
unfoldable pub refusal_of : ℕ → Refusal
refusal_of n =
    get_or
    (BadCall ∷ CutShort ∷ TooLong ∷ NoCommand ∷ BadField ∷ BadList ∷ WrongTime ∷ NotOpen ∷ AlreadyOpen ∷ StillJoining ∷ OverLimit ∷ PastLength
    ∷ IsSpoiled ∷ NoStart ∷ AllTaken ∷ NotAwaited ∷ NotSets ∷ Loose ∷ NoPartner ∷ NoRoom ∷ LogFull ∷ NotBlocks ∷ [])
    (n - 1) BadCall

unfoldable pub decline_of : ℕ → Decline
decline_of n = cond (eqb n 1) Unlisted Full

-- the client's answer
unfoldable pub answer_in : ℕ → Answer
answer_in p =
    let n = channel_in p in
    let v = number_in p in
    get_or
    (Refused BadCall None ∷ Refused BadCall None ∷ Ready v ∷ Refused BadCall None ∷ Refused BadCall None
    ∷ Refused BadCall None ∷ Refused BadCall None ∷ Refused (refusal_of v) None ∷ Refused BadCall None ∷ Opened n
    ∷ Declined n (decline_of v) ∷ Held n v ∷ Message n v ∷ Closed n ∷ Ignored n ∷ Refused (refusal_of v) (Some n) ∷ [])
    (word_in p) (Refused BadCall None)

-- the shore's
unfoldable pub said_in : ℕ → Said
said_in p =
    let n = channel_in p in
    let v = number_in p in
    get_or
    (shore.Refused BadCall None ∷ shore.Asked v ∷ shore.Ready v ∷ shore.Refused BadCall None ∷ shore.Refused BadCall None
    ∷ shore.Refused BadCall None ∷ shore.Refused BadCall None ∷ shore.Refused (refusal_of v) None ∷ shore.Awaited n
    ∷ shore.Opened n ∷ shore.Declined n ∷ shore.Held n v ∷ shore.Message n v ∷ shore.Closed n ∷ shore.Ignored n
    ∷ shore.Refused (refusal_of v) (Some n) ∷ [])
    (word_in p) (shore.Refused BadCall None)

-- ---- the answers that are got back whole: a channel of 32 bits, a number of 13. proofs/Small shows that every call's is so.

pub record Small (a : Answer) : Type 0 where
  pub channel : channel_of (concern_of a) < 4294967296
  pub number : number_of a < 8192

pub record SmallSaid (s : Said) : Type 0 where
  pub channel : channel_of (concern_said s) < 4294967296
  pub number : number_said s < 8192
