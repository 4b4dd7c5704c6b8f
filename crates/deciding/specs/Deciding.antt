-- What a matter comes to: refusal 7, the Capabilities request, and the rules of one channel.
use Rattle.std.specs.Prelude.{ℕ, min, Bool, true, cond, ◌&&◌, None}
use Rattle.paper.specs.declared.Refusal.{Refusal}
use Rattle.paper.specs.declared.Refusal.TheVariants.{WrongTime}
use Rattle.channel.specs.declared.Record.{Record}
use Rattle.channel.specs.declared.Answer.TheVariants.{Ready, Refused}
use Rattle.channel.specs.declared.Change.TheVariants.{Stays}
use Rattle.channel.specs.declared.Part.TheVariants.{Keeps}
use Rattle.channel.specs.declared.Reply.TheVariants.{Version}
use Rattle.channel.specs.declared.Turn.{Turn}
use Rattle.channel.specs.Channel.{Act, BadCreate, Create, Bring, Garbled, Closing, LocalClose}
use Rattle.channel.specs.Turns.{turn, answering, garbling, turn_of, OUR_VERSION}
use Rattle.deciding.specs.declared.Matter.{Matter}
use Rattle.deciding.specs.declared.Matter.TheVariants.{Unread, Caps, Asks}
use Rattle.deciding.specs.declared.Decided.{Decided}

-- 7, at the client end: "Capabilities request when already ready; any other readable PDU or a local close when not ready"
abbrev pub unless_ready : {A : Type 0} → Bool → (Refusal → A) → A → A
unless_ready ready refuse goes = cond ready (refuse WrongTime) goes

-- what an event of a channel is refused with when not ready: a garbled block isn't readable, and has its own refusal then too
unfoldable pub too_soon : Act → Refusal
too_soon BadCreate = WrongTime
too_soon (Create listed pri) = WrongTime
too_soon (Bring offer bytes) = WrongTime
too_soon (Garbled why) = why
too_soon Closing = WrongTime
too_soon LocalClose = WrongTime

abbrev pub once_ready : {A : Type 0} → Bool → Act → (Refusal → A) → A → A
once_ready ready a refuse goes = cond ready goes (refuse (too_soon a))

-- "The level in use is the smaller of the server's version and 2."
abbrev pub level_for : ℕ → ℕ
level_for version = min version OUR_VERSION

-- ready or not, at a level, and a turn is taken
abbrev pub taking : Bool → ℕ → Turn → Decided
taking ready level t = record { ready = ready; level = level; turn = t }

-- a refusal that concerns no channel, and changes nothing
unfoldable pub refusing : Bool → ℕ → Refusal → Decided
refusing ready level why = taking ready level (answering (Refused why None))

-- "Capabilities request: ready."
unfoldable pub readying : ℕ → Decided
readying version = taking true (level_for version) (turn Stays Keeps (Ready (level_for version)) Version)

unfoldable pub decided_of : Bool → ℕ → ℕ → Bool → Record → Matter → ℕ → Decided
decided_of ready level n room row (Unread why whole) len =
    cond ((ready && whole) && row.taken) (taking ready level (garbling row why)) (refusing ready level why)
decided_of ready level n room row (Caps version) len = unless_ready ready (refusing ready level) (readying version)
decided_of ready level n room row (Asks ask) len =
    cond ready (taking ready level (turn_of level n room row ask len)) (refusing ready level WrongTime)
