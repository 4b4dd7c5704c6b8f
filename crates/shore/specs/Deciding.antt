-- What a matter comes to at the shore, told with no bytes in hand. Nobody need believe this page: proofs/Deciding shows that
-- what is decided, put back, is the step.
use Rattle.std.specs.Prelude.{ℕ, Bool, true, cond, ◌&&◌, ◌||◌, eqb, ℤ, None, Some}
use Rattle.paper.specs.declared.Refusal.TheVariants.{WrongTime, NotAwaited}
use Rattle.channel.specs.declared.Record.{Record}
use Rattle.channel.specs.declared.Ask.TheVariants as ask
use Rattle.channel.specs.declared.Change.{Change}
use Rattle.channel.specs.declared.Change.TheVariants.{Stays, Becomes, Frees}
use Rattle.channel.specs.declared.Part.{Part}
use Rattle.channel.specs.declared.Part.TheVariants.{Keeps, Clears}
use Rattle.channel.specs.declared.Reply.{Reply}
use Rattle.channel.specs.declared.Reply.TheVariants.{NoReply}
use Rattle.channel.specs.Channel.{blank}
use Rattle.deciding.specs.declared.Decided as both
use Rattle.deciding.specs.declared.Matter.TheVariants as matter
use Rattle.deciding.specs.Deciding as common
use Rattle.shore.specs.declared.Said.{Said}
use Rattle.shore.specs.declared.Said.TheVariants.{Ready, Opened, Declined, Refused}
use Rattle.shore.specs.declared.Matter.{Matter}
use Rattle.shore.specs.declared.Matter.TheVariants.{Unread, Caps, Status, Block, End}
use Rattle.shore.specs.declared.Decided.{Decided}
use Rattle.shore.specs.Saying.{said_as}
use Rattle.shore.specs.Rules.{is_below_zero, settled_record}
use Rattle.shore.specs.Shore.{level_between}

abbrev pub deciding : Bool → ℕ → Change → Part → Said → Reply → Decided
deciding ready level change part said reply =
    record { ready = ready; level = level; change = change; part = part; said = said; reply = reply }

-- nothing but an answer
abbrev pub saying : Bool → ℕ → Said → Decided
saying ready level said = deciding ready level Stays Keeps said NoReply

-- a Capabilities response
unfoldable pub responding : ℕ → Bool → ℕ → ℕ → Decided
responding asked ready level version =
    cond (ready || eqb asked 0) (saying ready level (Refused WrongTime None))
    (saying true (level_between asked version) (Ready (level_between asked version)))

-- a Create response
unfoldable pub settling : Bool → ℕ → ℕ → Record → ℤ → Decided
settling ready level n row status =
    cond ready
    (cond (row.taken && row.awaited)
    (cond (is_below_zero status) (deciding ready level Frees Clears (Declined n) NoReply)
    (deciding ready level (Becomes (settled_record row)) Keeps (Opened n) NoReply))
    (saying ready level (Refused NotAwaited (Some n))))
    (saying ready level (Refused WrongTime None))

-- what the common rules see of a record: an awaited number isn't open
unfoldable pub seen_row : Record → Record
seen_row row = cond row.awaited blank row

-- what both ends have in common, said at this end
unfoldable pub as_common : both.Decided → Reply → Decided
as_common d reply = deciding d.ready d.level d.turn.change d.turn.part (said_as d.turn.answer) reply

unfoldable pub decided_of : ℕ → Bool → ℕ → ℕ → Bool → Record → Matter → ℕ → Decided
decided_of asked ready level n room row (Unread why whole) len =
    as_common (common.decided_of ready level n room (seen_row row) (matter.Unread why whole) len) NoReply
decided_of asked ready level n room row (Caps version) len = responding asked ready level version
decided_of asked ready level n room row (Status status) len = settling ready level n row status
decided_of asked ready level n room row (Block offer) len =
    as_common (common.decided_of ready level n room (seen_row row) (matter.Asks (ask.Block offer)) len) NoReply
decided_of asked ready level n room row (End local) len =
    let d = common.decided_of ready level n room (seen_row row) (matter.Asks (ask.End local)) len in
    as_common d (cond local d.turn.reply NoReply)
