-- What the rules do, told with no bytes in hand: what becomes of the record and of the part, the answer, and what is sent.
-- Nobody need believe this page: `turn_rules` of proofs/Turns shows that each turn tells what `act` does, on any bytes of
-- the part and of the block.
use Rattle.std.specs.Prelude.{ℕ, Bool, not, cond, List, [], ℤ, None, Some}
use Rattle.paper.specs.Sizes.{PART}
use Rattle.paper.specs.Statuses.{OPENED, UNLISTED, FULL}
use Rattle.paper.specs.declared.Refusal.{Refusal}
use Rattle.paper.specs.declared.Refusal.TheVariants.{BadList, NotOpen, AlreadyOpen}
use Rattle.lists.specs.Bytes.{laid, zeros}
use Rattle.laying.specs.Laying.{create_response_bytes, close_bytes, caps_response_bytes}
use Rattle.channel.specs.declared.Stage.TheVariants.{Spoiled}
use Rattle.channel.specs.declared.Record.{Record}
use Rattle.channel.specs.declared.Offer.{Offer}
use Rattle.channel.specs.declared.Took.{Took}
use Rattle.channel.specs.declared.Took.TheVariants.{Bars, Spoils, Holds, Finishes}
use Rattle.channel.specs.declared.Decline.{Decline}
use Rattle.channel.specs.declared.Decline.TheVariants.{Unlisted, Full}
use Rattle.channel.specs.declared.Answer.{Answer}
use Rattle.channel.specs.declared.Answer.TheVariants.{Opened, Declined, Closed, Ignored, Refused}
use Rattle.channel.specs.declared.Ask.{Ask}
use Rattle.channel.specs.declared.Ask.TheVariants.{NoList, Name, Block, End}
use Rattle.channel.specs.declared.Change.{Change}
use Rattle.channel.specs.declared.Change.TheVariants.{Stays, Becomes, Frees}
use Rattle.channel.specs.declared.Part.{Part}
use Rattle.channel.specs.declared.Part.TheVariants.{Keeps, Takes, Clears}
use Rattle.channel.specs.declared.Reply.{Reply}
use Rattle.channel.specs.declared.Reply.TheVariants.{NoReply, Version, Status, CloseBack}
use Rattle.channel.specs.declared.Turn.{Turn}
use Rattle.channel.specs.Stages.{took}
use Rattle.channel.specs.Channel.{Act, BadCreate, Create, Bring, Closing, LocalClose, View, Shut, Open, Room}
use Rattle.channel.specs.Channel.{NoRoom, Spare, opened_record, restaged, record_after, answer_to}

-- ---- the turns

abbrev pub turn : Change → Part → Answer → Reply → Turn
turn change part answer reply = record { change = change; part = part; answer = answer; reply = reply }

-- nothing but an answer
abbrev pub answering : Answer → Turn
answering answer = turn Stays Keeps answer NoReply

-- a Create request declined with a status
abbrev pub declining : ℕ → Decline → ℤ → Turn
declining n why status = turn Stays Keeps (Declined n why) (Status status)

-- a Create request
unfoldable pub creating : ℕ → ℕ → Bool → Record → Bool → ℕ → Turn
creating level n room row listed pri =
    cond row.taken (answering (Refused AlreadyOpen (Some n)))
    (cond (not listed) (declining n Unlisted UNLISTED)
    (cond (not room) (declining n Full FULL)
    (turn (Becomes (opened_record level n pri)) Keeps (Opened n) (Status OPENED))))

-- what data does to an open channel's record, and to its part
unfoldable pub change_by : Record → Took → Change
change_by r (Bars why) = Stays
change_by r (Spoils why) = Becomes (record_after r (Spoils why))
change_by r (Holds wanted at held) = Becomes (record_after r (Holds wanted at held))
change_by r (Finishes at len) = Becomes (record_after r (Finishes at len))

unfoldable pub part_by : Took → Part
part_by (Bars why) = Keeps
part_by (Spoils why) = Keeps
part_by (Holds wanted at held) = Takes at
part_by (Finishes at len) = Takes at

unfoldable pub landing : ℕ → Record → Took → Turn
landing n r tk = turn (change_by r tk) (part_by tk) (answer_to n tk) NoReply

-- a Data First or a Data, with a block of that length
unfoldable pub bringing : ℕ → Record → Offer → ℕ → Turn
bringing n row offer len =
    cond row.taken (landing n row (took row.stage offer len)) (answering (Refused NotOpen (Some n)))

-- a garbled block on an open channel: the refusal concerns no channel
unfoldable pub garbling : Record → Refusal → Turn
garbling row why = turn (Becomes (restaged row Spoiled)) Keeps (Refused why None) NoReply

-- a Close, or a close by the host
unfoldable pub closing : ℕ → Record → Bool → Turn
closing n row local =
    cond row.taken (turn Frees Clears (Closed n) CloseBack)
    (cond local (answering (Refused NotOpen (Some n)))
    (answering (Ignored n)))

unfoldable pub turn_of : ℕ → ℕ → Bool → Record → Ask → ℕ → Turn
turn_of level n room row NoList len = answering (Refused BadList None)
turn_of level n room row (Name listed pri) len = creating level n room row listed pri
turn_of level n room row (Block offer) len = bringing n row offer len
turn_of level n room row (End local) len = closing n row local

-- ---- what a turn tells

-- a record with its part, as the channel's own events see them: one that isn't taken is shut
unfoldable pub view_of : Record → List ℕ → View
view_of r part = cond r.taken (Open r part) Shut

unfoldable pub room_of : Bool → List ℕ → Room
room_of room part = cond room (Spare part) NoRoom

-- what is asked, with the block's bytes
unfoldable pub act_of : Ask → List ℕ → Act
act_of NoList block = BadCreate
act_of (Name listed pri) block = Create listed pri
act_of (Block offer) block = Bring offer block
act_of (End local) block = cond local LocalClose Closing

-- the part afterwards
unfoldable pub part_told : List ℕ → List ℕ → Part → List ℕ
part_told part block Keeps = part
part_told part block (Takes at) = laid part at block
part_told part block Clears = zeros PART

-- the version that we say
abbrev pub OUR_VERSION : ℕ
OUR_VERSION = 2

-- the bytes sent
unfoldable pub reply_told : ℕ → Reply → List ℕ
reply_told n NoReply = []
reply_told n Version = caps_response_bytes OUR_VERSION
reply_told n (Status status) = create_response_bytes n status
reply_told n CloseBack = close_bytes n
