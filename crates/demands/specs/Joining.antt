-- The joining that demand 2 speaks of, by itself: no table, no record, no store. A message is Length and the bytes
-- gathered so far; each event brings a message, a count still to come, or neither.
use Rattle.std.specs.Prelude.{ℕ, ◌-◌, Bool, false, cond, ◌&&◌, List, [], ◌∷◌, ◌++◌, ltb, eqb, length}
use Rattle.paper.specs.Sizes.{MESSAGE_MAX}
use Rattle.channel.specs.declared.Offer.{Offer}
use Rattle.channel.specs.declared.Offer.TheVariants.{First, More}
use Rattle.channel.specs.declared.Answer.{Answer}
use Rattle.channel.specs.declared.Answer.TheVariants.{Ready, Opened, Declined, Held, Message, Closed, Ignored, Refused}
use Rattle.channel.specs.Channel.{Act, BadCreate, Create, Bring, Garbled, Closing, LocalClose}
use Rattle.client.specs.Events.{Event, Unreadable, Capabilities, Of}
use Rattle.demands.specs.Runs.{Told}

-- where a channel's joining stands
pub data Join : Type 0 where
  -- not open
  Off : Join
  -- open and idle
  Waiting : Join
  -- of a message of so many bytes, these have come
  Gathering : ℕ → List ℕ → Join
  -- spoiled
  Dead : Join

-- what an event brings
pub data Brings : Type 0 where
  NoMessage : Brings
  StillToCome : ℕ → Brings
  Complete : List ℕ → Brings

pub record Joined : Type 0 where
  pub join : Join
  pub brings : Brings

abbrev pub still : Join → Joined
still j = record { join = j; brings = NoMessage }

-- of a message of `wanted` bytes `got` has come: too many, all, or some
unfoldable pub gathered : ℕ → List ℕ → Joined
gathered wanted got =
    cond (ltb wanted (length got)) (still Dead)
    (cond (eqb (length got) wanted) (record { join = Waiting; brings = Complete got })
    (record { join = Gathering wanted got; brings = StillToCome (wanted - length got) }))

-- a block on an open, idle channel
unfoldable pub starts_with : Offer → List ℕ → Joined
starts_with (First len) block = cond (ltb MESSAGE_MAX len) (still Dead) (gathered len block)
starts_with More block = record { join = Waiting; brings = Complete block }

-- a block on a channel whose message is being joined
unfoldable pub goes_on : ℕ → List ℕ → Offer → List ℕ → Joined
goes_on wanted got (First len) block = still Dead
goes_on wanted got More block = gathered wanted (got ++ block)

-- each event of a channel, alone
unfoldable pub joins : Join → Act → Joined
joins j BadCreate = still j
joins Off (Create listed pri) = cond listed (still Waiting) (still Off)
joins Waiting (Create listed pri) = still Waiting
joins (Gathering wanted got) (Create listed pri) = still (Gathering wanted got)
joins Dead (Create listed pri) = still Dead
joins Off (Bring offer block) = still Off
joins Waiting (Bring offer block) = starts_with offer block
joins (Gathering wanted got) (Bring offer block) = goes_on wanted got offer block
joins Dead (Bring offer block) = still Dead
joins Off (Garbled why) = still Off
joins Waiting (Garbled why) = still Dead
joins (Gathering wanted got) (Garbled why) = still Dead
joins Dead (Garbled why) = still Dead
joins j Closing = still Off
joins j LocalClose = still Off

-- ---- with full tables: a channel's own events, each with whether it met one. Strangers enter by nothing else

-- only a listed Create of a number that is not open asks for room
abbrev pub wants_room : Join → Act → Bool
wants_room Off BadCreate = false
wants_room Off (Create listed pri) = listed
wants_room Off (Bring offer block) = false
wants_room Off (Garbled why) = false
wants_room Off Closing = false
wants_room Off LocalClose = false
wants_room Waiting a = false
wants_room (Gathering wanted got) a = false
wants_room Dead a = false

-- each event of a channel, alone: one that asks for room and meets a full table leaves the channel not open
unfoldable pub joins_if : Bool → Join → Act → Joined
joins_if full j a = cond (full && wants_room j a) (still Off) (joins j a)

-- the flags go along with the events; where there are none left, no table is full
abbrev pub flag : List Bool → Bool
flag [] = false
flag (f ∷ fs) = f

abbrev pub flags : List Bool → List Bool
flags [] = []
flags (f ∷ fs) = fs

-- what a channel's own events bring, alone, one for each
unfoldable pub join_with : Join → List Event → List Bool → List Brings
join_with j [] fs = []
join_with j (Unreadable why ∷ es) fs = NoMessage ∷ join_with j es (flags fs)
join_with j (Capabilities version ∷ es) fs = NoMessage ∷ join_with j es (flags fs)
join_with j (Of n a ∷ es) fs = (joins_if (flag fs) j a).brings ∷ join_with (joins_if (flag fs) j a).join es (flags fs)

-- the same where no table is full
abbrev pub join_all : Join → List Event → List Brings
join_all j es = join_with j es []

-- ---- what the host is told

-- what the host is told brings
unfoldable pub brought_by : Answer → List (List ℕ) → Brings
brought_by (Ready level) up = NoMessage
brought_by (Opened n) up = NoMessage
brought_by (Declined n why) up = NoMessage
brought_by (Held n left) up = StillToCome left
brought_by (Message n len) [] = NoMessage
brought_by (Message n len) (message ∷ rest) = Complete message
brought_by (Closed n) up = NoMessage
brought_by (Ignored n) up = NoMessage
brought_by (Refused why concern) up = NoMessage

abbrev pub brought : Told → Brings
brought t = brought_by t.answer t.message

-- "each once": a whole message is handed up once, and nothing else is
unfoldable pub once : Brings → ℕ
once NoMessage = 0
once (StillToCome left) = 0
once (Complete message) = 1

abbrev pub handed : Told → ℕ
handed t = length t.message
