-- What a channel should be told for its own events alone, by where its joining stands: the answer, the bytes of the
-- reply, and the message, once. No table, no record, no store: the paper's steps as a host sees them.
use Rattle.std.specs.Prelude.{ℕ, Bool, cond, ◌&&◌, List, [], ◌∷◌, ltb, length, None, Some}
use Rattle.paper.specs.Sizes.{MESSAGE_MAX}
use Rattle.paper.specs.Statuses.{OPENED, UNLISTED, FULL}
use Rattle.paper.specs.declared.Refusal.{Refusal}
use Rattle.paper.specs.declared.Refusal.TheVariants.{BadList, WrongTime, NotOpen, AlreadyOpen, StillJoining}
use Rattle.paper.specs.declared.Refusal.TheVariants.{OverLimit, PastLength, IsSpoiled}
use Rattle.laying.specs.Laying.{create_response_bytes, close_bytes}
use Rattle.channel.specs.declared.Offer.{Offer}
use Rattle.channel.specs.declared.Offer.TheVariants.{First, More}
use Rattle.channel.specs.declared.Decline.TheVariants.{Unlisted, Full}
use Rattle.channel.specs.declared.Answer.{Answer}
use Rattle.channel.specs.declared.Answer.TheVariants.{Opened, Declined, Held, Message, Closed, Ignored, Refused}
use Rattle.channel.specs.Channel.{Act, BadCreate, Create, Bring, Garbled, Closing, LocalClose}
use Rattle.client.specs.Events.{Event, Unreadable, Capabilities, Of}
use Rattle.demands.specs.Runs.{Told}
use Rattle.demands.specs.Joining.{Join, Off, Waiting, Gathering, Dead, Brings, NoMessage, StillToCome, Complete}
use Rattle.demands.specs.Joining.{joins, wants_room, joins_if, flag, flags}

-- ---- the steps, by where a channel's joining stands: the answer and the bytes of the reply

pub record Spoken : Type 0 where
  pub answer : Answer
  pub reply : List ℕ

abbrev pub says : Answer → List ℕ → Spoken
says answer reply = record { answer = answer; reply = reply }

-- why a block that an open channel gets brings nothing
unfoldable pub why_not : Join → Offer → Refusal
why_not Off offer = NotOpen
why_not Waiting (First len) = cond (ltb MESSAGE_MAX len) OverLimit PastLength
why_not Waiting More = PastLength
why_not (Gathering wanted got) (First len) = StillJoining
why_not (Gathering wanted got) More = PastLength
why_not Dead offer = IsSpoiled

-- "held, with the bytes still to come", "message, with its length"
unfoldable pub answered : ℕ → Refusal → Brings → Answer
answered n why NoMessage = Refused why (Some n)
answered n why (StillToCome left) = Held n left
answered n why (Complete message) = Message n (length message)

unfoldable pub step_says : ℕ → Join → Act → Spoken
step_says n j BadCreate = says (Refused BadList None) []
step_says n Off (Create listed pri) =
    cond listed (says (Opened n) (create_response_bytes n OPENED))
    (says (Declined n Unlisted) (create_response_bytes n UNLISTED))
step_says n Waiting (Create listed pri) = says (Refused AlreadyOpen (Some n)) []
step_says n (Gathering wanted got) (Create listed pri) = says (Refused AlreadyOpen (Some n)) []
step_says n Dead (Create listed pri) = says (Refused AlreadyOpen (Some n)) []
step_says n j (Bring offer block) = says (answered n (why_not j offer) (joins j (Bring offer block)).brings) []
step_says n j (Garbled why) = says (Refused why None) []
step_says n Off Closing = says (Ignored n) []
step_says n Waiting Closing = says (Closed n) (close_bytes n)
step_says n (Gathering wanted got) Closing = says (Closed n) (close_bytes n)
step_says n Dead Closing = says (Closed n) (close_bytes n)
step_says n Off LocalClose = says (Refused NotOpen (Some n)) []
step_says n Waiting LocalClose = says (Closed n) (close_bytes n)
step_says n (Gathering wanted got) LocalClose = says (Closed n) (close_bytes n)
step_says n Dead LocalClose = says (Closed n) (close_bytes n)

-- ---- the same with full tables

unfoldable pub says_if : Bool → ℕ → Join → Act → Spoken
says_if full n j a = cond (full && wants_room j a) (says (Declined n Full) (create_response_bytes n FULL)) (step_says n j a)

-- "handed up once"
unfoldable pub hands_up : Brings → List (List ℕ)
hands_up NoMessage = []
hands_up (StillToCome left) = []
hands_up (Complete message) = message ∷ []

unfoldable pub told_if : Bool → ℕ → Join → Act → Told
told_if full n j a =
    record {
      answer = (says_if full n j a).answer;
      reply = (says_if full n j a).reply;
      message = hands_up (joins_if full j a).brings;
    }

-- an answer alone
abbrev pub tells_none : Answer → Told
tells_none a = record { answer = a; reply = []; message = [] }

-- all that a channel is told for its own events, with their flags
unfoldable pub told_with : Join → List Event → List Bool → List Told
told_with j [] fs = []
told_with j (Unreadable why ∷ es) fs = tells_none (Refused why None) ∷ told_with j es (flags fs)
told_with j (Capabilities version ∷ es) fs = tells_none (Refused WrongTime None) ∷ told_with j es (flags fs)
told_with j (Of n a ∷ es) fs = told_if (flag fs) n j a ∷ told_with (joins_if (flag fs) j a).join es (flags fs)
