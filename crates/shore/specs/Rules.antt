-- THE RULES OF ONE NUMBER AT THE SHORE: what each event does to it, what is answered and what is sent. Data, garbled blocks
-- and closes go through the rules that both ends have in common, `act` (channel); what is this end's own stands here.
use Rattle.std.specs.Prelude.{ℕ, Bool, true, false, cond, List, [], ℤ, pos, negsuc, Some}
use Rattle.paper.specs.declared.Refusal.TheVariants.{NotAwaited}
use Rattle.laying.specs.Laying.{create_request_bytes}
use Rattle.channel.specs.declared.Stage.TheVariants.{Idle}
use Rattle.channel.specs.declared.Record.{Record}
use Rattle.channel.specs.Channel.{Act, BadCreate, Create, Bring, Garbled, Closing, LocalClose, View, Shut, Open, NoRoom, Did}
use Rattle.channel.specs.Channel.{class_at, act}
use Rattle.shore.specs.declared.Said.{Said}
use Rattle.shore.specs.declared.Said.TheVariants.{Awaited, Opened, Declined, Refused}
use Rattle.shore.specs.Saying.{said_as}

-- what an event asks of a number
pub data Deed : Type 0 where
  -- a Create response with a status
  Answered : ℤ → Deed
  -- what the client end is asked too: data, a garbled block, a Close, a close by the host. Reading gives no Create here.
  Acts : Act → Deed

-- the number afterwards, the answer, and the bytes that are sent
pub record Does : Type 0 where
  pub view : View
  pub said : Said
  pub sent : List ℕ

abbrev pub does : View → Said → List ℕ → Does
does view said sent = record { view = view; said = said; sent = sent }

-- ---- a local open

-- the record that a number has from the local open on, its class "kept as 0 at level 1"
unfoldable pub awaited_record : ℕ → ℕ → ℕ → Record
awaited_record level n class =
    record { taken = true; number = n; class = class_at level class; stage = Idle; count = 0; awaited = true }

-- "opens a channel by listener name and class (sent and kept as 0 at level 1)", on a free record with this part
unfoldable pub asks : ℕ → ℕ → List ℕ → ℕ → List ℕ → Does
asks level n name class part =
    does (Open (awaited_record level n class) part) (Awaited n) (create_request_bytes n (class_at level class) name)

-- ---- a Create response

-- the record of an awaited number that is opened: idle, count 0
unfoldable pub settled_record : Record → Record
settled_record r =
    record { taken = r.taken; number = r.number; class = r.class; stage = Idle; count = 0; awaited = false }

-- "A status below zero frees the number."
abbrev pub is_below_zero : ℤ → Bool
is_below_zero (pos k) = false
is_below_zero (negsuc k) = true

unfoldable pub settled : ℕ → Record → List ℕ → ℤ → Does
settled n r part status =
    cond (is_below_zero status) (does Shut (Declined n) []) (does (Open (settled_record r) part) (Opened n) [])

-- 16: "response for a number not awaited"
abbrev pub unawaited : ℕ → View → Does
unawaited n v = does v (Refused NotAwaited (Some n)) []

-- ---- what both ends have in common

-- "An awaited number isn't open": what the common rules see of it
abbrev pub as_open : View → View
as_open Shut = Shut
as_open (Open r part) = cond r.awaited Shut (Open r part)

-- and it stays as it is
abbrev pub unless_awaited : View → View → View
unless_awaited Shut new = new
unless_awaited (Open r part) new = cond r.awaited (Open r part) new

-- "A received Close frees an open number without a reply [..]; a local close frees it and sends a Close."
abbrev pub sent_for : Act → List ℕ → List ℕ
sent_for BadCreate reply = []
sent_for (Create listed pri) reply = []
sent_for (Bring offer bytes) reply = []
sent_for (Garbled why) reply = []
sent_for Closing reply = []
sent_for LocalClose reply = reply

unfoldable pub common : View → Act → Did → Does
common v a d = does (unless_awaited v d.view) (said_as d.answer) (sent_for a d.reply)

-- ---- the rules, at a level, for the number n

unfoldable pub deed : ℕ → ℕ → View → Deed → Does
deed level n Shut (Answered status) = unawaited n Shut
deed level n (Open r part) (Answered status) = cond r.awaited (settled n r part status) (unawaited n (Open r part))
deed level n v (Acts a) = common v a (act level n NoRoom (as_open v) a)
