-- No message is longer than a part of the store: so it stands whole from the start of its part on.
-- Assumes nothing.
use mathlib.Core.Path.{◌≡◌, refl}
use mathlib.Core.Bool.{true, false}
use mathlib.Core.List.{List}
use Prim.Native.Nat.{ℕ, ◌+◌, ◌≤◌}
use native.Mathlib.Omega.{arith}
use borrow.Author.Tests.{ltb-false}
use lib.Dec.{eqb, ltb}
use lib.ListN.{length}
use Rattle.paper.specs.Sizes.{PART, MESSAGE_MAX, PDU_MAX}
use Rattle.lists.proofs.Cases.{choice}
use Rattle.reading.specs.declared.Extent.{Extent}
use Rattle.reading.specs.Said.{bytes_at}
use Rattle.listeners.specs.Listeners.{good_list}
use Rattle.channel.specs.declared.Stage.{Stage}
use Rattle.channel.specs.declared.Stage.TheVariants.{Idle, Joining, Spoiled}
use Rattle.channel.specs.declared.Offer.{Offer}
use Rattle.channel.specs.declared.Offer.TheVariants.{First, More}
use Rattle.channel.specs.declared.Took.{Took}
use Rattle.channel.specs.declared.Took.TheVariants.{Bars, Spoils, Holds, Finishes}
use Rattle.channel.specs.declared.Answer.{Answer}
use Rattle.channel.specs.declared.Answer.TheVariants.{Ready, Opened, Declined, Held, Message, Closed, Ignored, Refused}
use Rattle.channel.specs.Stages.{added, took_first, took}
use Rattle.channel.specs.Channel.{Act, BadCreate, Create, Bring, Garbled, Closing, LocalClose, View, Shut, Open, Room, NoRoom, Spare}
use Rattle.channel.specs.Channel.{opening, answer_to, landed, act}
use Rattle.table.specs.Sound.{good_stage}
use Rattle.table.proofs.Soundness.{joining_bounds}
use Rattle.client.specs.Events.{create_act}
use Rattle.packing.proofs.Brought.{block_length}
use Rattle.demands.proofs.Joined.{SoundView, message_part, pdu_part}

-- a block of no more bytes than a part
abbrev pub ShortAct : Act → Type 0
ShortAct BadCreate = Unit {0}
ShortAct (Create listed pri) = Unit {0}
ShortAct (Bring offer bytes) = length bytes ≤ PART
ShortAct (Garbled why) = Unit {0}
ShortAct Closing = Unit {0}
ShortAct LocalClose = Unit {0}

-- as those of a PDU are
pub short_block : (pdu : List ℕ) (block : Extent) → length pdu ≤ PDU_MAX → length (bytes_at pdu block) ≤ PART
short_block pdu block h = omega (arith, block_length pdu block, pdu_part)

pub short_create : (list name : List ℕ) (pri : ℕ) → ShortAct (create_act list name pri)
unfolding create_act
short_create list name pri = choice ShortAct (good_list list) (λ e. tt) (λ e. tt)

-- ---- what is taken

abbrev TookShort : Took → Type 0
TookShort (Bars why) = Unit {0}
TookShort (Spoils why) = Unit {0}
TookShort (Holds wanted at held) = Unit {0}
TookShort (Finishes at len) = len ≤ PART

added_short : (wanted held len : ℕ) → wanted ≤ PART → TookShort (added wanted held len)
unfolding added
added_short wanted held len h =
    choice TookShort (ltb wanted (held + len)) (λ e. tt) (λ e. choice TookShort (eqb (held + len) wanted) (λ f. h) (λ f. tt))

took_short : (s : Stage) (offer : Offer) (len : ℕ) → good_stage s ≡ true → len ≤ PART → TookShort (took s offer len)
unfolding took took_first
took_short Spoiled offer len g h = tt
took_short (Joining wanted held) (First n) len g h = tt
took_short (Joining wanted held) More len g h =
    added_short wanted held len (omega (arith, joining_bounds (Joining wanted held) wanted held refl g, message_part))
took_short Idle (First n) len g h =
    choice TookShort (ltb MESSAGE_MAX n) (λ e. tt) (λ e. added_short n 0 len (omega (arith, ltb-false MESSAGE_MAX n e, message_part)))
took_short Idle More len g h = h

-- ---- what is answered

abbrev pub Short : Answer → Type 0
Short (Ready level) = Unit {0}
Short (Opened n) = Unit {0}
Short (Declined n why) = Unit {0}
Short (Held n left) = Unit {0}
Short (Message n len) = len ≤ PART
Short (Closed n) = Unit {0}
Short (Ignored n) = Unit {0}
Short (Refused why concern) = Unit {0}

answer_short : (n : ℕ) (tk : Took) → TookShort tk → Short (answer_to n tk)
unfolding answer_to
answer_short n (Bars why) h = tt
answer_short n (Spoils why) h = tt
answer_short n (Holds wanted at held) h = tt
answer_short n (Finishes at len) h = h

opening_short : (level n pri : ℕ) (room : Room) → Short (opening level n pri room).answer
unfolding opening
opening_short level n pri NoRoom = tt
opening_short level n pri (Spare part) = tt

-- by one channel's rules
pub act_short : (level n : ℕ) (room : Room) (v : View) (a : Act) → SoundView v → ShortAct a → Short (act level n room v a).answer
unfolding act landed
act_short level n room v BadCreate s h = tt
act_short level n room (Open r part) (Create listed pri) s h = tt
act_short level n room Shut (Create true pri) s h = opening_short level n pri room
act_short level n room Shut (Create false pri) s h = tt
act_short level n room (Open r part) (Bring offer bytes) s h =
    answer_short n (took r.stage offer (length bytes)) (took_short r.stage offer (length bytes) s.1 h)
act_short level n room Shut (Bring offer bytes) s h = tt
act_short level n room (Open r part) (Garbled why) s h = tt
act_short level n room Shut (Garbled why) s h = tt
act_short level n room (Open r part) Closing s h = tt
act_short level n room Shut Closing s h = tt
act_short level n room (Open r part) LocalClose s h = tt
act_short level n room Shut LocalClose s h = tt
