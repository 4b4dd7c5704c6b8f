-- One number of the shore by itself: no table, no record, no store. What its own events bring, and what the host should be
-- told for them. The joining of an open channel is the client's (`joins`, `step_says`), of which nothing is said anew here.
use Rattle.std.specs.Prelude.{ℕ, true, cond, List, [], ◌∷◌, ℤ, length, None, Some}
use Rattle.paper.specs.declared.Refusal.TheVariants.{NotAwaited, WrongTime}
use Rattle.laying.specs.Laying.{create_request_bytes, close_bytes}
use Rattle.channel.specs.Channel.{Act, BadCreate, Create, Bring, Garbled, Closing, LocalClose, class_at}
use Rattle.shore.specs.declared.Said.{Said}
use Rattle.shore.specs.declared.Said.TheVariants.{Asked, Ready, Awaited, Opened, Declined, Held, Message, Closed, Ignored, Refused}
use Rattle.shore.specs.Saying.{said_as}
use Rattle.shore.specs.Rules.{Answered, Acts, is_below_zero}
use Rattle.shore.specs.Events.{Event, Unreadable, Asking, Response, Opening, Of}
use Rattle.demands.specs.Joining.{Join, Off, Waiting, Gathering, Dead, Brings, NoMessage, StillToCome, Complete, joins_if}
use Rattle.demands.specs.Telling.{says_if, hands_up}
use Rattle.shore_demands.specs.Runs.{Told}

-- where a number stands: awaited, or as at the client's end (`Off` is not open)
pub data Link : Type 0 where
  Awaits : Link
  As : Join → Link

-- where it stands afterwards, and what the event brings
pub record Linked : Type 0 where
  pub link : Link
  pub brings : Brings

abbrev pub linked : Link → Brings → Linked
linked link brings = record { link = link; brings = brings }

-- "A status below zero frees the number"; otherwise it is open and idle
abbrev pub answered_link : ℤ → Link
answered_link status = cond (is_below_zero status) (As Off) (As Waiting)

-- what both ends have in common: an awaited number isn't open, and stays awaited. (No Create is read here; the client's
-- rules are told that no record is free for one.)
abbrev pub links_act : Link → Act → Linked
links_act Awaits a = linked Awaits NoMessage
links_act (As j) a = linked (As (joins_if true j a).join) (joins_if true j a).brings

-- each event of a number, alone. "[A local open] opens that number where that channel's events are taken alone."
unfoldable pub links : Link → Event → Linked
links l (Unreadable why) = linked l NoMessage
links l (Asking version charges) = linked l NoMessage
links l (Response version) = linked l NoMessage
links l (Opening name class) = linked Awaits NoMessage
links Awaits (Of n (Answered status)) = linked (answered_link status) NoMessage
links (As j) (Of n (Answered status)) = linked (As j) NoMessage
links l (Of n (Acts a)) = links_act l a

-- what a number's own events bring, alone, one for each
unfoldable pub link_all : Link → List Event → List Brings
link_all l [] = []
link_all l (e ∷ es) = (links l e).brings ∷ link_all (links l e).link es

-- ---- what the host should be told: the answer, the bytes that are sent, and the message, once

abbrev pub tells : Said → List ℕ → Told
tells said sent = record { said = said; sent = sent; message = [] }

abbrev pub join_for : Link → Join
join_for Awaits = Off
join_for (As j) = j

-- "a local close frees it and sends a Close"; nothing else that is asked of a number is answered with a PDU
abbrev pub sent_alone : ℕ → Join → Act → List ℕ
sent_alone n j BadCreate = []
sent_alone n j (Create listed pri) = []
sent_alone n j (Bring offer bytes) = []
sent_alone n j (Garbled why) = []
sent_alone n j Closing = []
sent_alone n Off LocalClose = []
sent_alone n Waiting LocalClose = close_bytes n
sent_alone n (Gathering wanted got) LocalClose = close_bytes n
sent_alone n Dead LocalClose = close_bytes n

-- at a level, for the number n
unfoldable pub says_alone : ℕ → ℕ → Link → Event → Told
says_alone level n l (Unreadable why) = tells (Refused why None) []
says_alone level n l (Asking version charges) = tells (Refused WrongTime None) []
says_alone level n l (Response version) = tells (Refused WrongTime None) []
says_alone level n l (Opening name class) = tells (Awaited n) (create_request_bytes n (class_at level class) name)
says_alone level n Awaits (Of m (Answered status)) = tells (cond (is_below_zero status) (Declined n) (Opened n)) []
says_alone level n (As j) (Of m (Answered status)) = tells (Refused NotAwaited (Some n)) []
says_alone level n l (Of m (Acts a)) =
    record {
      said = said_as (says_if true n (join_for l) a).answer;
      sent = sent_alone n (join_for l) a;
      message = hands_up (joins_if true (join_for l) a).brings;
    }

-- all that a number is told for its own events
unfoldable pub told_alone : ℕ → ℕ → Link → List Event → List Told
told_alone level n l [] = []
told_alone level n l (e ∷ es) = says_alone level n l e ∷ told_alone level n (links l e).link es

-- ---- what the host is told brings

unfoldable pub brought_by : Said → List (List ℕ) → Brings
brought_by (Asked version) up = NoMessage
brought_by (Ready level) up = NoMessage
brought_by (Awaited n) up = NoMessage
brought_by (Opened n) up = NoMessage
brought_by (Declined n) up = NoMessage
brought_by (Held n left) up = StillToCome left
brought_by (Message n len) [] = NoMessage
brought_by (Message n len) (message ∷ rest) = Complete message
brought_by (Closed n) up = NoMessage
brought_by (Ignored n) up = NoMessage
brought_by (Refused why concern) up = NoMessage

abbrev pub brought : Told → Brings
brought t = brought_by t.said t.message

abbrev pub handed : Told → ℕ
handed t = length t.message
